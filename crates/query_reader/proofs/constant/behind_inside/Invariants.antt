use Rattle.std.proofs.Common.{◌≡◌, ◌++◌, ℕ, List, length}
use Rattle.query_reader.specs.Tokens.{doubled}
use Rattle.query_reader.proofs.constant.behind_inside.Given as goal

abbrev pub invariant-loop-after : goal.invariant-loop-after
invariant-loop-after l = (meant : List ℕ) × (l.later ≡ doubled meant ++ l.rest)

abbrev pub decreases-loop-after : goal.decreases-loop-after
decreases-loop-after l = length l.rest
