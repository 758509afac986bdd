-- The number of the digits so far.
use Rattle.std.proofs.Common.{◌≡◌, ◌-◌, ◌^◌, min, take}
use Rattle.cqapri_words.specs.Numbers.{number_in}
use Rattle.cqapri_words.proofs.number.number_in.Given as goal

abbrev pub invariant-loop-digit : goal.invariant-loop-digit
invariant-loop-digit l = l.number ≡ min (number_in (take l.digit-index l.digits)) (2 ^ 64 - 1)
