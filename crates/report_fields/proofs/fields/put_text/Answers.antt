use Rattle.std.proofs.Common.{◌∙◌, sym}
use Rattle.report_fields.proofs.EscapeFacts.{escape-plain}
use Rattle.report_fields.proofs.fields.put_text.Goals as goal

pub returns-then-needs_no_escape : goal.returns-then-needs_no_escape
returns-then-needs_no_escape c = record {
  exact = rw (escape-plain c.args.text.now (sym c.needs_no_escape.ensures.exact ∙ c.if-needs_no_escape.true))
      c.put_plain_text.ensures.exact;
}
