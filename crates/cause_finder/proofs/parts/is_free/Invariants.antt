use Rattle.std.proofs.Common.{ℕ, ◌<◌, get_or}
use Rattle.cause_finder.specs.Groups.{IsFreeAmong}
use Rattle.cause_finder.proofs.parts.is_free.Given as goal

abbrev pub invariant-loop-fact : goal.invariant-loop-fact
invariant-loop-fact l = (k d : ℕ) → k < l.fact-index → IsFreeAmong l.conflicts.clashes l.facts (get_or l.facts k d)
