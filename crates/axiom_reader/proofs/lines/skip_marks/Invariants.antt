-- What is skipped of the rest is skipped of the whole.
use Rattle.std.proofs.Common.{◌≡◌, ◌≤◌, length}
use Rattle.axiom_reader.specs.Lines.{skip_marks}
use Rattle.axiom_reader.proofs.lines.skip_marks.Given as goal

abbrev pub invariant-loop-rest : goal.invariant-loop-rest
invariant-loop-rest l = (skip_marks l.rest ≡ skip_marks l.fn.bytes) × (length l.rest ≤ length l.fn.bytes)

abbrev pub decreases-loop-rest : goal.decreases-loop-rest
decreases-loop-rest l = length l.rest
