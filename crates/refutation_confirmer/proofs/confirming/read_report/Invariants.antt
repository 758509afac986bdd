use Rattle.std.proofs.Common.{List, length}
use Rattle.report_text.specs.declared.line.Line.{Line}
use Rattle.refutation_confirmer.specs.Reading.{ReadSo}
use Rattle.refutation_confirmer.proofs.confirming.read_report.Given as goal

abbrev pub invariant-loop-rest : goal.invariant-loop-rest
invariant-loop-rest l = (before : List Line) × ReadSo l.kb l.vocab.inds l.query l.report l.rest l.number l.reader before

abbrev pub decreases-loop-rest : goal.decreases-loop-rest
decreases-loop-rest l = length l.rest
