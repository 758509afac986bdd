use Rattle.std.proofs.Common.{Err, ap, inr}
use Rattle.cqapri_words.specs.Cycles.{NamedCycle}
use Rattle.cqapri_words.specs.declared.refusal.Refusal.TheVariants as refusal
use Rattle.refutation_confirmer.specs.declared.confirmed.ConfirmFault.{ConfirmFault}
use Rattle.cq_terms.specs.declared.facts.Repairs.TheVariants as mode
use Rattle.cqapri_cli.proofs.PreparingLemmas.{cycle_of_facts}
use Rattle.cqapri_cli.proofs.confirm_job.judge.Goals as goal

pub new-requires-clause-numbered : goal.new-requires-clause-numbered
new-requires-clause-numbered c =
    cycle_of_facts c.args.input.kb mode.Pareto c.in-Err-Cycle.facts c.pairs-pairs.ensures.named (c.in-Err-Cycle.ensures.cycle c.in-Err-Cycle.facts
    (ap (λ (f : ConfirmFault). Err f) c.in-Err-Cycle.field-0-is)).1

pub returns-in-Err-Cycle-clause-stopped : goal.returns-in-Err-Cycle-clause-stopped
returns-in-Err-Cycle-clause-stopped c =
    inr (
      c.in-Err-Cycle.facts,
      c.in-Err-Cycle.ensures.cycle c.in-Err-Cycle.facts (ap (λ (f : ConfirmFault). Err f) c.in-Err-Cycle.field-0-is),
      ap (λ (n : NamedCycle). refusal.Cycle n) c.new.ensures.exact,
    )
