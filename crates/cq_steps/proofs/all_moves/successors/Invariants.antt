use Rattle.cq_steps.specs.Moves.{AreSuccessorsBefore}
use Rattle.cq_steps.specs.declared.moves.Move.TheVariants as move
use Rattle.cq_steps.proofs.all_moves.successors.Given as goal

-- the first atoms so far have their reduce steps
abbrev pub invariant-loop-first : goal.invariant-loop-first
invariant-loop-first l = AreSuccessorsBefore l.axioms l.query (move.Reduce l.first 0) l.found.items
