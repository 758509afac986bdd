use Rattle.std.proofs.Common.{◌≡◌, ◌<◌, List, length}
use Rattle.cq_terms.specs.declared.axioms.Axiom.{Axiom}
use Rattle.cq_steps.specs.declared.closure.Member.{Member}
use Rattle.perfect_ref.specs.Search.{codes_of, AreKept, IsTurn}
use Rattle.perfect_ref.proofs.TurnLemmas.{IsAmid}
use Rattle.perfect_ref.proofs.breadth_first.note_all.Given as goal

-- the moves so far were tried, their results are members, and the earlier members stand where they stood
abbrev pub invariant-loop-step : goal.invariant-loop-step
invariant-loop-step l = record {
  tied : l.found.codes ≡ codes_of l.found.closure;
  place : l.from < length l.found.closure;
  kept : AreKept l.fn.found.closure l.found.closure;
  amid : (axioms : List Axiom) (p : Member) → IsTurn axioms l.limit l.from p l.fn.moves.items l.fn.found.closure
      → IsAmid axioms l.limit l.from l.fn.moves.items (length l.yielded) l.found.closure;
}
