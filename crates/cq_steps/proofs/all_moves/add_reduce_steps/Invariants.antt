use Rattle.std.proofs.Common.{List}
use Rattle.cq_terms.specs.declared.axioms.Axiom.{Axiom}
use Rattle.cq_steps.specs.Moves.{AreSuccessorsBefore}
use Rattle.cq_steps.specs.declared.moves.Move.TheVariants as move
use Rattle.cq_steps.proofs.all_moves.add_reduce_steps.Given as goal

-- the second atoms so far were tried
abbrev pub invariant-loop-second : goal.invariant-loop-second
invariant-loop-second l = (axioms : List Axiom) → AreSuccessorsBefore axioms l.query (move.Reduce l.first 0) l.fn.found.items
    → AreSuccessorsBefore axioms l.query (move.Reduce l.first l.second) l.found.items
