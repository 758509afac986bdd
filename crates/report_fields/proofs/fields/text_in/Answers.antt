use Rattle.std.proofs.Common.{sym}
use Rattle.report_fields.proofs.FieldFacts.{text_in-String}
use Rattle.report_fields.proofs.fields.text_in.Goals as goal

pub returns-in-String : goal.returns-in-String
returns-in-String c = record {
  exact = sym (text_in-String c.args.value.now c.in-String.text c.as_str.result.now c.in-String.is c.as_str.ensures.value
      c.as_str.utf8);
}
