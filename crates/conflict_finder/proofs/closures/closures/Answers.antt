use Rattle.std.proofs.Common.{◌≡◌, ◌∙◌, ℕ, suc, ◌+◌, arith}
use Rattle.std.proofs.lemmas.Result.{err_from_is_err_and}
use Rattle.conflict_finder.proofs.Closings.{first_inclusion, first_disjointness, too_large, first_all, first_fit}
use Rattle.conflict_finder.proofs.Turns.{item_at}
use Rattle.conflict_finder.proofs.closures.closures.Goals as goal
use Rattle.conflict_finder.proofs.closures.closures.Goals.{in-Some+in_ok-push, in_default}

next : (n : ℕ) → suc n ≡ n + 1
next n = omega arith

pub returns-in_err-closure-clause-refused : goal.returns-in_err-closure-clause-refused
returns-in_err-closure-clause-refused c = λ n e.
    let (y, is, same) = err_from_is_err_and c.from_residual.result c.from_residual.ensures.1 in
    let i = c.loop-rule.rule-index in
    let large = c.in_err-closure.ensures.refused n (cc (is, same, e)) in
    too_large c.args.axioms.now c.args.limit i _ (item_at c.args.axioms.now i _ c.loop-rule-test.true) c.loop-rule.closures.items c.loop-rule.invariant.so n
    (large.0 ∙ c.loop-rule.invariant.number, large.1)

pub loop-rule-preserved : goal.loop-rule-preserved
loop-rule-preserved c =
    let axioms = c.args.axioms.now in
    let limit = c.args.limit in
    let i = c.loop-rule.rule-index in
    record {
      number = omega (arith, c.loop-rule.invariant.number);
      so = elim c.match-branch-2.branch [
        | in-Some+in_ok-push w ↦ rw w.closures-is (rw w.in_ok-push.ensures.items (rw c.loop-rule.invariant.number (rw (← next i)
            (first_disjointness axioms limit i _ (item_at axioms i _ c.loop-rule-test.true) c.loop-rule.closures.items c.loop-rule.invariant.so
            w.in-Some.closure (rw w.in-Some.is at c.in_ok-closure.ensures.exact)))))
        | in_default w ↦ rw w.closures-is (rw (← next i) (first_inclusion axioms limit i _ (item_at axioms i _ c.loop-rule-test.true)
            c.loop-rule.closures.items c.loop-rule.invariant.so
            (let a = w.in_default.is in let b = w.in_default.not-Some in rw w.in_default.is at c.in_ok-closure.ensures.exact)))
      ];
    }

pub returns-clause-exact : goal.returns-clause-exact
returns-clause-exact c = first_all c.args.axioms.now c.args.limit c.loop-rule.rule-index c.loop-rule-test.false c.loop-rule.closures.items
    c.loop-rule.invariant.so

pub returns-clause-fit : goal.returns-clause-fit
returns-clause-fit c = first_fit c.args.axioms.now c.args.limit c.loop-rule.rule-index c.loop-rule-test.false c.loop-rule.closures.items
    c.loop-rule.invariant.so
