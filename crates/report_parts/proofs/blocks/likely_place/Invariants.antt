use Rattle.std.proofs.Common.{◌≤◌, ◌-◌, length}
use Rattle.report_parts.proofs.blocks.likely_place.Given as goal

abbrev pub invariant-loop-low : goal.invariant-loop-low
invariant-loop-low l = l.high ≤ length l.blocks

abbrev pub decreases-loop-low : goal.decreases-loop-low
decreases-loop-low l = l.high - l.low
