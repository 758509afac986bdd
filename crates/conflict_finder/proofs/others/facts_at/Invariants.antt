use Rattle.std.proofs.Common.{◌≡◌, Some, slice_get, take}
use Rattle.std.specs.List.{AllZip}
use Rattle.conflict_finder.proofs.others.facts_at.Given as goal

-- the facts of the numbers so far
abbrev pub invariant-loop-number : goal.invariant-loop-number
invariant-loop-number l = AllZip (λ n f. slice_get l.index n ≡ Some f) (take l.number-index l.numbers) l.facts.items
