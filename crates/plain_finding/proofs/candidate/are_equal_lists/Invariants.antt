use Rattle.std.proofs.Common.{◌≡◌, ℕ, ◌<◌, List, get_or}
use Rattle.plain_finding.proofs.candidate.are_equal_lists.Given as goal

-- the lists so far are equal
abbrev pub invariant-loop-i : goal.invariant-loop-i
invariant-loop-i l = (k : ℕ) (d : List ℕ) → k < l.i → get_or l.left k d ≡ get_or l.right k d
