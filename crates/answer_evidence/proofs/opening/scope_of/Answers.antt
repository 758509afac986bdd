use Rattle.std.proofs.Common.{◌∙◌, List, ℕ, [], sym, subst}
use Rattle.std.proofs.lemmas.List.{take_all, take_more, get_or_default}
use Rattle.answer_evidence.specs.Reached.{Gathers, Reaches}
use Rattle.answer_evidence.proofs.SetLemmas.{Gathers-none, Gathers-more, AreReached-sorted, IfOk-map}
use Rattle.answer_evidence.proofs.opening.scope_of.Goals as goal

pub loop-cause-init : goal.loop-cause-init
loop-cause-init c = subst (λ (xs : List ℕ). Gathers c.args.conflicts.now [] xs) (sym c.new-reached.ensures) (Gathers-none c.args.conflicts.now)

pub reach_each-requires-clause-closed : goal.reach_each-requires-clause-closed
reach_each-requires-clause-closed c = c.loop-cause.invariant.closed

pub loop-cause-preserved : goal.loop-cause-preserved
loop-cause-preserved c =
    subst (λ (xs : List (List ℕ)). Gathers c.args.conflicts.now xs c.reach_each.new.reached)
    (sym (take_more c.args.causes.now c.loop-cause.cause-index [] c.loop-cause-test.true))
    (Gathers-more c.args.conflicts.now _ _ c.loop-cause.reached c.reach_each.new.reached c.loop-cause.invariant
    (subst (λ (xs : List ℕ). Reaches c.args.conflicts.now xs c.loop-cause.reached c.reach_each.new.reached)
    (c.as_slice.ensures.lent ∙ (c.cause-item.is ∙ get_or_default c.args.causes.now c.loop-cause.cause-index _ [] c.loop-cause-test.true))
    c.in_ok-reach_each.ensures.exact))

pub returns : goal.returns
returns c =
    let all = subst (λ (xs : List (List ℕ)). Gathers c.args.conflicts.now xs c.loop-cause.reached) (take_all c.loop-cause.cause-index c.args.causes.now
    c.loop-cause-test.false) c.loop-cause.invariant in
    record {
      exact = IfOk-map c.sorted_with.result _ _ (λ v s. (
        s.0,
        AreReached-sorted c.args.conflicts.now c.args.causes.now c.loop-cause.reached s.0 all s.1,
        s.2,
      )) c.sorted_with.ensures.exact;
    }
