use Rattle.std.proofs.Common.{◌<◌, ◌≤◌, ℕ, length, get_or}
use Rattle.cq_terms.specs.declared.hits.Hit.{Hit}
use Rattle.query_matching.specs.Hits.{IsHit}
use Rattle.cause_finder.specs.Supports.{AddsOnly, Has}
use Rattle.cause_finder.proofs.gathered.add_member.Given as goal

abbrev pub invariant-loop-hit : goal.invariant-loop-hit
invariant-loop-hit l = AddsOnly (IsHit l.index l.query) l.place l.fn.found.keys l.found.keys
    × ((k : ℕ) (d : Hit) → k < l.hit-index → Has l.found.keys (get_or l.hit-items k d))
    × (length l.found.keys ≤ l.limit)
