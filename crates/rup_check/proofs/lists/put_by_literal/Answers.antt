use Rattle.std.proofs.Common.{◌≡◌, ◌<◌, ◌++◌, ◌∷◌, ℕ, List, [], Contains, length, get_or, sym, subst, ap, ◌∙◌, arith}
use Rattle.std.proofs.lemmas.List.{length-set, get_or_default}
use Rattle.std.proofs.lemmas.List.Elements.{Contains-append_left, Contains-push}
use Rattle.rup_check.proofs.ListLemmas.{kept_set, put_more}
use Rattle.rup_check.proofs.lists.put_by_literal.Goals as goal

pub returns-in_err-push-clause-kept : goal.returns-in_err-push-clause-kept
returns-in_err-push-clause-kept c k n m =
    let lists = c.loop-literal.lists in
    let l = get_or c.args.clause.now c.loop-literal.literal-index 0 in
    let within = c.requires.within c.loop-literal.literal-index 0 c.loop-literal-test.true in
    let below : l < length lists = omega (arith, within, c.loop-literal.invariant.same_length) in
    let is = get_or_default lists l c.index-lists-literal.result [] below in
    kept_set lists l c.push.new.self (λ i. Unit {0}) below (λ i _ p. subst (λ (xs : List ℕ). Contains xs i) (sym (c.in_err-push.ensures.unchanged ∙ is)) p) k
    n tt (c.loop-literal.invariant.kept k n m)

pub loop-literal-preserved : goal.loop-literal-preserved
loop-literal-preserved c =
    let lists = c.loop-literal.lists in
    let i = c.loop-literal.literal-index in
    let l = get_or c.args.clause.now i 0 in
    let within = c.requires.within i 0 c.loop-literal-test.true in
    let below : l < length lists = omega (arith, within, c.loop-literal.invariant.same_length) in
    let is = get_or_default lists l c.index-lists-literal.result [] below in
    let new : c.push.new.self ≡ get_or lists l [] ++ c.args.number ∷ [] = c.in_ok-push.ensures.exact ∙ ap (λ (xs : List ℕ). xs ++ c.args.number ∷ []) is in
    let kept = λ (n : ℕ) (p : Contains (get_or lists l []) n). subst (λ (xs : List ℕ). Contains xs n) (sym new)
    (Contains-append_left (get_or lists l []) (c.args.number ∷ []) n p) in
    record {
      same_length = length-set lists l c.push.new.self ∙ c.loop-literal.invariant.same_length;
      kept = λ k n m. kept_set lists l c.push.new.self (λ j. Unit {0}) below (λ j _ p. kept j p) k n tt (c.loop-literal.invariant.kept k n m);
      put = put_more lists c.args.clause.now i c.push.new.self c.args.number c.loop-literal-test.true below kept
          (subst (λ (xs : List ℕ). Contains xs c.args.number) (sym new) (Contains-push (get_or lists l []) c.args.number)) c.loop-literal.invariant.put;
    }
