use Rattle.std.proofs.Common.{◌≡◌, List, map, take}
use Rattle.cause_finder.specs.declared.support.Support.{Support}
use Rattle.cause_finder.specs.Groups.{IsFree, HasNoPart, ArePickedBy}
use Rattle.cause_finder.proofs.groups.candidate_of.Given as goal

abbrev pub invariant-loop-support : goal.invariant-loop-support
invariant-loop-support l = (picked : List Support) × ArePickedBy (λ s. IsFree l.conflicts.clashes s.image × HasNoPart l.group s.image)
    (take l.support-index l.group) picked
    × (l.causes ≡ map (λ s. s.image) picked) × (l.members ≡ map (λ s. s.member) picked)
