use Rattle.std.proofs.Common.{◌∙◌, ap, ◌++◌}
use Rattle.std.proofs.lemmas.List.{at_drop_all}
use Rattle.report_parts.specs.Codes.{head_code}
use Rattle.report_parts.proofs.codes.push_head.Goals as goal

pub returns : goal.returns
returns c = λ rest.
    c.loop-term.invariant rest
    ∙ ap (λ r. c.loop-term.words.items ++ r) (at_drop_all (λ h. head_code h rest) c.args.head.now c.loop-term.term-index c.loop-term-test.false)
    ∙ c.in_ok-push_two.ensures rest
