use Rattle.std.proofs.Common.{◌≡◌, ℕ, ◌<◌, ◌≤◌, ◌-◌, length, get_or}
use Rattle.cq_terms.specs.declared.hits.Hit.{Hit}
use Rattle.plain_finding.proofs.candidates.run_length.Given as goal

-- the hits so far have the first one's tuple
abbrev pub invariant-loop-count : goal.invariant-loop-count
invariant-loop-count l = (0 < l.count) × (l.count ≤ length l.hits)
    × ((k : ℕ) (d : Hit) → k < l.count → (get_or l.hits k d).tuple ≡ l.tuple)

abbrev pub decreases-loop-count : goal.decreases-loop-count
decreases-loop-count l = length l.hits - l.count
