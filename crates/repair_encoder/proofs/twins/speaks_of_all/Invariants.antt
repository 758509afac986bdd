use Rattle.std.proofs.Common.{◌<◌, ℕ, get_or}
use Rattle.repair_encoder.specs.Twins.{SpeaksOf}
use Rattle.repair_encoder.proofs.twins.speaks_of_all.Given as goal

abbrev pub invariant-loop-blocker : goal.invariant-loop-blocker
invariant-loop-blocker l = (i : ℕ) → i < l.blocker-index → SpeaksOf l.better l.fact (get_or l.blocker-items i 0)
