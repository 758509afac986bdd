use Rattle.cq_steps.specs.Moves.{AreSuccessorsBefore}
use Rattle.cq_steps.specs.declared.moves.Move.TheVariants as move
use Rattle.cq_steps.proofs.all_moves.add_axiom_steps.Given as goal

-- the axioms so far were tried on the atom
abbrev pub invariant-loop-number : goal.invariant-loop-number
invariant-loop-number l = AreSuccessorsBefore l.axioms l.query (move.Axiom l.atom 0) l.fn.found.items
    → AreSuccessorsBefore l.axioms l.query (move.Axiom l.atom l.number) l.found.items
