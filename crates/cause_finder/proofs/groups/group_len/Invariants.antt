use Rattle.std.proofs.Common.{◌≡◌, ℕ, ◌<◌, get_or}
use Rattle.cause_finder.specs.declared.support.Support.{Support}
use Rattle.cause_finder.proofs.groups.group_len.Given as goal

abbrev pub invariant-loop-place : goal.invariant-loop-place
invariant-loop-place l = (k : ℕ) (d : Support) → k < l.place → (get_or l.supports k d).tuple ≡ l.tuple
