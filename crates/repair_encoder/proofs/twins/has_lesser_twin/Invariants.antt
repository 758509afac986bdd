use Rattle.std.proofs.Common.{◌<◌, ℕ, get_or}
use Rattle.repair_encoder.specs.Twins.{AreTwins}
use Rattle.repair_encoder.proofs.twins.has_lesser_twin.Given as goal

abbrev pub invariant-loop-other : goal.invariant-loop-other
invariant-loop-other l = (i : ℕ) → i < l.other-index → get_or l.other-items i 0 < l.fact → ¬ AreTwins l.better l.fact (get_or l.other-items i 0)
