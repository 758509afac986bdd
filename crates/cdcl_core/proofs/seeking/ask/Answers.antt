use Rattle.std.proofs.Common.{inl, inr, Some, get_or, ap, subst, ◌∙◌}
use Rattle.clause_meaning.proofs.Members.{Contains-nil, Contains-take_more_cases, Contains-take_all}
use Rattle.cdcl_trail.specs.Assigned.{IsTrueOn}
use Rattle.cdcl_trail.specs.Values.{IsValue}
use Rattle.cdcl_core.proofs.seeking.ask.Goals as goal

pub loop-literal-init : goal.loop-literal-init
loop-literal-init c k m = absurd (Contains-nil k m)

pub loop-literal-preserved : goal.loop-literal-preserved
loop-literal-preserved c k m =
    let entries = c.args.trail.now.entries in
    let at = get_or c.args.assume.now c.loop-literal.literal-index 0 in
    let here : IsTrueOn entries at = subst (IsValue entries at) (c.in-Some-true.is ∙ ap Some c.in-Some-true.field-0-test) c.value.ensures.exact in
    elim (Contains-take_more_cases c.args.assume.now c.loop-literal.literal-index 0 k c.loop-literal-test.true m) [
      | inl t ↦ c.loop-literal.invariant k t
      | inr e ↦ subst (IsTrueOn entries) e here
    ]

pub returns : goal.returns
returns c k m = c.loop-literal.invariant k (Contains-take_all c.args.assume.now c.loop-literal.literal-index k c.loop-literal-test.false m)
