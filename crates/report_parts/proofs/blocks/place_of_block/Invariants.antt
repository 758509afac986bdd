use Rattle.std.proofs.Common.{◌≡◌, ℕ, ◌<◌, get_or}
use Rattle.report_laws.specs.Standing.{Block}
use Rattle.report_parts.proofs.blocks.place_of_block.Given as goal

-- none so far is of the origin
abbrev pub invariant-loop-place : goal.invariant-loop-place
invariant-loop-place l = (k : ℕ) (d : Block) → k < l.place → (get_or l.blocks k d).origin ≡ l.origin → ⊥
