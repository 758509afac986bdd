use Rattle.std.proofs.Common.{take}
use Rattle.answer_evidence.specs.Reached.{Reaches}
use Rattle.answer_evidence.proofs.opening.reach_each.Given as goal

abbrev pub invariant-loop-fact : goal.invariant-loop-fact
invariant-loop-fact l = Reaches l.conflicts (take l.fact-index l.facts) l.initial.reached l.reached
