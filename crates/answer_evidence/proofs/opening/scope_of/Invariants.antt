use Rattle.std.proofs.Common.{take}
use Rattle.answer_evidence.specs.Reached.{Gathers}
use Rattle.answer_evidence.proofs.opening.scope_of.Given as goal

abbrev pub invariant-loop-cause : goal.invariant-loop-cause
invariant-loop-cause l = Gathers l.conflicts (take l.cause-index l.causes) l.reached
