use Rattle.std.proofs.Common.{◌∙◌, sym}
use Rattle.report_parts.specs.Codes.{code_of, body_code}
use Rattle.report_parts.proofs.codes.code_of.Goals as goal

pub returns : goal.returns
unfolding code_of
returns c =
    let head = rw (c.new-words.ensures.items, c.head.ensures.lent) at (c.in_ok-push_head.ensures (body_code c.body.result.now)) in
    rw (← c.body.ensures.lent) (sym c.in_ok-push_body.ensures ∙ sym head)
