use Rattle.std.proofs.Common.{◌∙◌, ap, sym}
use Rattle.csv.proofs.WriteFacts.{slice-end}
use Rattle.fact_tables.specs.Tables.{skip_marks}
use Rattle.fact_tables.proofs.RecordLemmas.{skip_marks-mark, skip_marks-none}
use Rattle.fact_tables.proofs.rows.skip_marks.Goals as goal

pub loop-rest-preserved : goal.loop-rest-preserved
loop-rest-preserved c =
    ap skip_marks (slice-end c.loop-rest.rest.now 3) ∙ skip_marks-mark c.loop-rest.rest.now (sym c.starts_with.ensures.value ∙ c.loop-rest-test.true)
    ∙ c.loop-rest.invariant

pub returns : goal.returns
returns c = record { exact = sym (skip_marks-none c.loop-rest.rest.now (sym c.starts_with.ensures.value ∙ c.loop-rest-test.false)) ∙ c.loop-rest.invariant }
