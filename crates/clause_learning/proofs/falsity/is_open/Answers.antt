use Rattle.std.proofs.Common.{◌≡◌, Some, None, true, subst}
use Rattle.cdcl_trail.specs.Values.{IsValue}
use Rattle.clause_learning.proofs.HighestLevel.{not_both, unassigned_not_false}
use Rattle.clause_learning.proofs.falsity.is_open.Goals as goal

pub returns-in-Some-true-clause-fixed : goal.returns-in-Some-true-clause-fixed
returns-in-Some-true-clause-fixed c = λ e on.
    let is : c.value.result ≡ Some true = cc in
    absurd (not_both c.args.trail.now.entries c.args.literal c.requires.distinct
    (subst (IsValue c.args.trail.now.entries c.args.literal) is c.value.ensures.exact) on)

pub returns-in-None-clause-fixed : goal.returns-in-None-clause-fixed
returns-in-None-clause-fixed c = λ e on.
    let is : c.value.result ≡ None = cc in
    absurd (unassigned_not_false c.args.trail.now.entries c.args.literal (subst (IsValue c.args.trail.now.entries c.args.literal) is c.value.ensures.exact) on)
