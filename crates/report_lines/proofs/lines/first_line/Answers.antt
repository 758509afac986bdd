use Rattle.std.proofs.Common.{ap, Err}
use Rattle.report_lines.proofs.CuttingLemmas.{none_broken, text_broken, text_begins}
use Rattle.report_lines.proofs.lines.first_line.Goals as goal

pub returns-in_default : goal.returns-in_default
returns-in_default c = record { exact = none_broken c.args.rest.now c.requires.some c.in_default.ensures.exact }

pub returns-in-Err-BadLine : goal.returns-in-Err-BadLine
returns-in-Err-BadLine c = record {
  exact = text_broken c.args.rest.now c.in-Some.text.now c.in-Some.more.now c.in-Some.ensures.exact
      (c.in-Err-BadLine.ensures.bad_line (ap Err c.in-Err-BadLine.field-0-is));
}

pub returns-in-Ok : goal.returns-in-Ok
returns-in-Ok c = record {
  exact = text_begins c.args.rest.now c.in-Some.text.now c.in-Some.more.now c.in-Ok.line c.in-Some.ensures.exact c.in-Ok.ensures.exact.0
      c.in-Ok.ensures.exact.1;
}
