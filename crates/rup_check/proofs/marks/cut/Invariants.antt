use Rattle.std.proofs.Common.{◌≡◌, length, take}
use Rattle.rup_check.proofs.marks.cut.Given as goal

abbrev pub invariant-loop-marks : goal.invariant-loop-marks
invariant-loop-marks l = record {
  same_variables : l.marks.variables ≡ l.fn.marks.variables;
  cut : take l.len l.marks.literals ≡ take l.len l.fn.marks.literals;
}

abbrev pub decreases-loop-marks : goal.decreases-loop-marks
decreases-loop-marks l = length l.marks.literals
