use Rattle.std.proofs.Common.{◌≡◌, length}
use Rattle.query_reader.specs.Tokens.{after_gap}
use Rattle.query_reader.proofs.token.after_gap.Given as goal

abbrev pub invariant-loop-first : goal.invariant-loop-first
invariant-loop-first l = after_gap l.rest ≡ after_gap l.text

abbrev pub decreases-loop-first : goal.decreases-loop-first
decreases-loop-first l = length l.rest
