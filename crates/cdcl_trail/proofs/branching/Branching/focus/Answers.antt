use Rattle.std.proofs.Common.{ap, arith}
use Rattle.cdcl_trail.specs.Choices.{Choices}
use Rattle.cdcl_trail.proofs.Picking.{few_below}
use Rattle.cdcl_trail.proofs.branching.Branching.focus.Goals as goal

pub unreachable-requires : goal.unreachable-requires
unreachable-requires c =
    let few = few_below c.args.variables.now c.args.self.now.variables c.requires.distinct c.requires.in_range in
    let variables = ap (λ (b : Choices). b.variables) c.self.view_is in
    omega (arith, few, variables, c.self.invariant.room, c.in-Err.ensures.full, c.clear.ensures.capacity, c.clear.ensures.len)
