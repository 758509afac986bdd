use Rattle.std.proofs.Common.{◌∙◌, sym}
use Rattle.perfect_ref.specs.Code.{code_of, body_code}
use Rattle.perfect_ref.proofs.code.code_of.Goals as goal

pub returns : goal.returns
unfolding code_of
returns c =
    let head = rw (c.new-words.ensures.items, c.head.ensures.lent) at (c.in_ok-push_head.ensures (body_code c.body.result.now)) in
    rw (← c.body.ensures.lent) (sym c.in_ok-push_body.ensures ∙ sym head)
