use Rattle.std.proofs.Common.{refl}
use Rattle.report_text.specs.declared.line.Line.{Line}
use Rattle.report_laws.specs.CycleLaws.{IsConflictLine}
use Rattle.refutation_confirmer.specs.Steps.{Takes}
use Rattle.refutation_confirmer.proofs.JudgedLemmas.{on_ok_at}
use Rattle.refutation_confirmer.proofs.reader.Reader.take.Goals as goal

pub returns-then-is_conflict-clause-taken : goal.returns-then-is_conflict-clause-taken
returns-then-is_conflict-clause-taken c =
    on_ok_at IsConflictLine (λ (l : Line). Takes c.args.kb.now c.args.self.now l c.take_conflict.new.self) c.take_conflict.result c.args.line
    (c.if-is_conflict.ensures.exact.0 refl) c.take_conflict.ensures.taken

pub returns-then-is_conflict-clause-cycle : goal.returns-then-is_conflict-clause-cycle
returns-then-is_conflict-clause-cycle c = λ facts e names q before f r.
    c.take_conflict.ensures.cycle facts e names q before c.args.line (c.if-is_conflict.ensures.exact.0 refl) f r
