use Rattle.std.proofs.Common.{take}
use Rattle.std.specs.Prelude.{All}
use Rattle.report_fields.specs.Atoms.{IsAtomInRange}
use Rattle.classifier.proofs.whole.fit_atoms.Given as goal

abbrev pub invariant-loop-atom : goal.invariant-loop-atom
invariant-loop-atom l = All IsAtomInRange (take l.atom-index l.atoms)
