use Rattle.fact_tables.specs.Tables.{skip_marks}
use Rattle.fact_tables.proofs.RecordLemmas.{rows_from-start, strip_bom-skip_marks}
use Rattle.fact_tables.proofs.rows.Rows.new.Goals as goal

pub returns : goal.returns
returns c = record {
  all = rw (
    c.from_reader-reader.ensures.source,
    c.from_reader-reader.ensures.state,
    c.skip_marks.ensures.exact,
    strip_bom-skip_marks c.args.bytes.now,
  ) (rows_from-start (skip_marks c.args.bytes.now));
}
