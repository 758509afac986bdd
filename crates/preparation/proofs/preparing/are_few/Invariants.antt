use Rattle.std.proofs.Common.{◌<◌, ◌^◌, take}
use Rattle.std.specs.Prelude.{All}
use Rattle.preparation.specs.Prepared.{size_of}
use Rattle.preparation.proofs.preparing.are_few.Given as goal

abbrev pub invariant-loop-candidate : goal.invariant-loop-candidate
invariant-loop-candidate l = All (λ c. size_of c.causes < 2 ^ 31) (take l.candidate-index l.candidates)
