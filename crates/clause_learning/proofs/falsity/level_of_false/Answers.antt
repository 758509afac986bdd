use Rattle.std.proofs.Common.{ℕ, subst, sym}
use Rattle.cdcl_trail.specs.Values.{IsAssigned, HasLevel}
use Rattle.clause_learning.proofs.HighestLevel.{assigned_by, BecameFalse-by_level}
use Rattle.clause_learning.proofs.falsity.level_of_false.Goals as goal

pub level_of-requires-clause-assigned : goal.level_of-requires-clause-assigned
level_of-requires-clause-assigned c =
    subst (IsAssigned c.args.trail.now.entries) (sym c.variable_of.ensures) (assigned_by c.args.trail.now.entries c.args.literal c.requires.refuted)

pub returns : goal.returns
returns c =
    let entries = c.args.trail.now.entries in
    BecameFalse-by_level entries c.level_of.result c.args.literal c.requires.distinct c.requires.refuted
    (subst (λ (v : ℕ). HasLevel entries v c.level_of.result) c.variable_of.ensures c.level_of.ensures.exact)
