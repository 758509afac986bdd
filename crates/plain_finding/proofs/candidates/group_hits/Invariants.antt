use Rattle.std.proofs.Common.{length}
use Rattle.plain_finding.specs.Groups.{AreGrouped}
use Rattle.plain_finding.proofs.candidates.group_hits.Given as goal

-- the candidates so far are those of the first groups
abbrev pub invariant-loop-rest : goal.invariant-loop-rest
invariant-loop-rest l = AreGrouped l.conflicts.clashes l.hits l.rest l.candidates.items

abbrev pub decreases-loop-rest : goal.decreases-loop-rest
decreases-loop-rest l = length l.rest
