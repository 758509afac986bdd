use Rattle.std.proofs.Common.{List, Some, None, sym, subst}
use Rattle.report_laws.specs.Standing.{Block}
use Rattle.report_parts.specs.Blocks.{AreApart, IsPlaceOf}
use Rattle.report_parts.proofs.BlockLemmas.{query_put, query_added, apart_with}
use Rattle.report_parts.proofs.blocks.add_query.Goals as goal

pub returns-in_ok-insert-in-Some-clause-exact : goal.returns-in_ok-insert-in-Some-clause-exact
returns-in_ok-insert-in-Some-clause-exact c =
    query_put c.args.blocks.now.items c.args.origin c.args.query c.in-Some.place c.remove-block.result c.in_ok-with-in-Some.field-0
    c.remove-block.new.self.items
    c.insert.new.self.items c.requires.apart
    (subst (λ (bs : List Block). IsPlaceOf bs c.args.origin (Some c.in-Some.place)) c.as_slice.ensures.value c.in-Some.ensures.exact)
    c.remove-block.ensures.value c.remove-block.ensures.items c.in_ok-with-in-Some.ensures.exact c.in_ok-insert-in-Some.ensures.items

pub returns-in_ok-insert-in-Some-clause-apart : goal.returns-in_ok-insert-in-Some-clause-apart
returns-in_ok-insert-in-Some-clause-apart c =
    let new = query_put c.args.blocks.now.items c.args.origin c.args.query c.in-Some.place c.remove-block.result c.in_ok-with-in-Some.field-0
    c.remove-block.new.self.items
    c.insert.new.self.items c.requires.apart
    (subst (λ (bs : List Block). IsPlaceOf bs c.args.origin (Some c.in-Some.place)) c.as_slice.ensures.value c.in-Some.ensures.exact)
    c.remove-block.ensures.value c.remove-block.ensures.items c.in_ok-with-in-Some.ensures.exact c.in_ok-insert-in-Some.ensures.items in
    subst AreApart (sym new) (apart_with c.args.blocks.now.items c.args.origin c.args.query c.requires.apart)

pub returns-in_ok-push-in-None-clause-exact : goal.returns-in_ok-push-in-None-clause-exact
returns-in_ok-push-in-None-clause-exact c =
    query_added c.args.blocks.now.items c.args.origin c.args.query c.new.result c.in_ok-with-in-None.field-0 c.push.new.self.items
    (subst (λ (bs : List Block). IsPlaceOf bs c.args.origin None) c.as_slice.ensures.value c.in-None.ensures.exact)
    c.new.ensures.exact c.in_ok-with-in-None.ensures.exact c.in_ok-push-in-None.ensures.items

pub returns-in_ok-push-in-None-clause-apart : goal.returns-in_ok-push-in-None-clause-apart
returns-in_ok-push-in-None-clause-apart c =
    let new = query_added c.args.blocks.now.items c.args.origin c.args.query c.new.result c.in_ok-with-in-None.field-0 c.push.new.self.items
    (subst (λ (bs : List Block). IsPlaceOf bs c.args.origin None) c.as_slice.ensures.value c.in-None.ensures.exact)
    c.new.ensures.exact c.in_ok-with-in-None.ensures.exact c.in_ok-push-in-None.ensures.items in
    subst AreApart (sym new) (apart_with c.args.blocks.now.items c.args.origin c.args.query c.requires.apart)
