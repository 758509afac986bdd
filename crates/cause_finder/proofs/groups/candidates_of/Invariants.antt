use Rattle.std.proofs.Common.{length}
use Rattle.cause_finder.proofs.GroupLemmas.{AreDone}
use Rattle.cause_finder.proofs.groups.candidates_of.Given as goal

abbrev pub invariant-loop-first : goal.invariant-loop-first
invariant-loop-first l = AreDone l.conflicts.clashes l.supports l.rest l.candidates.items

abbrev pub decreases-loop-first : goal.decreases-loop-first
decreases-loop-first l = length l.rest
