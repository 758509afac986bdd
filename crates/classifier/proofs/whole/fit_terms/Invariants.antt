use Rattle.std.proofs.Common.{take}
use Rattle.std.specs.Prelude.{All}
use Rattle.report_fields.specs.Atoms.{IsTermInRange}
use Rattle.classifier.proofs.whole.fit_terms.Given as goal

abbrev pub invariant-loop-term : goal.invariant-loop-term
invariant-loop-term l = All IsTermInRange (take l.term-index l.terms)
