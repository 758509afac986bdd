use Rattle.cqapri_cli.proofs.PreparingLemmas.{refused_names_facts}
use Rattle.cqapri_cli.proofs.preparing.prepare_input.Goals as goal

pub refusal_of-requires-clause-facts : goal.refusal_of-requires-clause-facts
refusal_of-requires-clause-facts c =
    refused_names_facts c.args.input.kb c.args.input.query c.args.options.now.repairs c.limits_of-limits.result c.in-Err.why c.pairs-pairs.ensures.named
    c.in-Err.ensures.refused

pub returns-in-Err-clause-stopped : goal.returns-in-Err-clause-stopped
returns-in-Err-clause-stopped c = (
  c.in-Err.why,
  rw (← c.limits_of-limits.ensures.exact) c.in-Err.ensures.refused,
  c.refusal_of.ensures.exact,
)
