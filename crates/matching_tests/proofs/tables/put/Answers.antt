use Rattle.std.proofs.Common.{List, Contains, sym, subst}
use Rattle.cq_terms.specs.declared.facts.Fact.{Fact}
use Rattle.cq_terms.specs.Knowledge.{AreDistinct}
use Rattle.matching_tests.proofs.DistinctLemmas.{distinct_push}
use Rattle.matching_tests.proofs.tables.put.Goals as goal

pub returns : goal.returns
returns c =
    let more = distinct_push c.args.facts.now.items c.args.fact c.requires.distinct
    (λ there. let is = c.has.ensures.exact.1 (subst (λ (xs : List Fact). Contains xs c.args.fact) (sym c.deref.ensures.value) there) in
    cc (is, c.if-has.false)) in
    record { distinct = subst AreDistinct (sym c.in_ok-push.ensures.items) more }
