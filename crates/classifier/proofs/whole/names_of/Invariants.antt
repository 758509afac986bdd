use Rattle.std.proofs.Common.{◌≡◌, take, Some, slice_get}
use Rattle.std.specs.List.{AllZip}
use Rattle.classifier.proofs.whole.names_of.Given as goal

abbrev pub invariant-loop-individual : goal.invariant-loop-individual
invariant-loop-individual l = AllZip (λ i text. slice_get l.individuals i ≡ Some text) (take l.individual-index l.tuple) l.names
