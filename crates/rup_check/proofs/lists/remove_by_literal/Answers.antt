use Rattle.std.proofs.Common.{◌≡◌, ◌≢◌, ◌<◌, ℕ, List, [], Contains, length, get_or, filter, not, eqb, sym, subst, ap, ◌∙◌, arith}
use Rattle.std.proofs.lemmas.List.{length-set, get_or_default}
use Rattle.rup_check.proofs.ListLemmas.{kept_set, Contains-others}
use Rattle.rup_check.proofs.lists.remove_by_literal.Goals as goal

pub loop-literal-preserved : goal.loop-literal-preserved
loop-literal-preserved c =
    let lists = c.loop-literal.lists in
    let i = c.loop-literal.literal-index in
    let l = get_or c.args.clause.now i 0 in
    let within = c.requires.within i 0 c.loop-literal-test.true in
    let below : l < length lists = omega (arith, within, c.loop-literal.invariant.same_length) in
    let is = get_or_default lists l c.index-lists-literal.result [] below in
    let new : c.remove.new.self ≡ filter (λ n. not (eqb n c.args.number)) (get_or lists l []) =
    c.remove.ensures ∙ ap (filter (λ (n : ℕ). not (eqb n c.args.number))) is in
    record {
      same_length = length-set lists l c.remove.new.self ∙ c.loop-literal.invariant.same_length;
      kept = λ k n d m. kept_set lists l c.remove.new.self (λ j. j ≢ c.args.number) below
          (λ j e p. subst (λ (xs : List ℕ). Contains xs j) (sym new) (Contains-others (get_or lists l []) c.args.number j e p)) k n d
          (c.loop-literal.invariant.kept k n d m);
    }
