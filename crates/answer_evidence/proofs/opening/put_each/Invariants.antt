use Rattle.std.proofs.Common.{take}
use Rattle.answer_evidence.specs.Reached.{Adds}
use Rattle.answer_evidence.proofs.opening.put_each.Given as goal

abbrev pub invariant-loop-fact : goal.invariant-loop-fact
invariant-loop-fact l = Adds (take l.fact-index l.facts) l.initial.set l.set
