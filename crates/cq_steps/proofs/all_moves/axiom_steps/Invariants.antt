use Rattle.cq_steps.specs.Moves.{AreSuccessorsBefore}
use Rattle.cq_steps.specs.declared.moves.Move.TheVariants as move
use Rattle.cq_steps.proofs.all_moves.axiom_steps.Given as goal

-- the atoms so far have their axiom steps
abbrev pub invariant-loop-atom : goal.invariant-loop-atom
invariant-loop-atom l = AreSuccessorsBefore l.axioms l.query (move.Axiom l.atom 0) l.found.items
