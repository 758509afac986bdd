use Rattle.report_laws.specs.Settling.{drops}
use Rattle.report_laws.specs.Standing.{Core}
use Rattle.report_parts.proofs.SettledLemmas.{any_core, or_first, or_second}
use Rattle.report_parts.proofs.told_cores.answer_drops.Goals as goal

pub returns-then-some_drops : goal.returns-then-some_drops
returns-then-some_drops c = record {
  exact = or_first c.some_drops.result _ _ _ c.if-some_drops.true c.some_drops.ensures.exact
      (any_core (λ (core : Core). drops core c.args.cause.now) c.args.cores.now c.args.named.now c.args.numbers.now);
}

pub returns-else-some_drops : goal.returns-else-some_drops
returns-else-some_drops c = record {
  exact = or_second c.some_drops.result c.some_drops-else-some_drops.result _ _ _ c.if-some_drops.false c.some_drops.ensures.exact
      c.some_drops-else-some_drops.ensures.exact
      (any_core (λ (core : Core). drops core c.args.cause.now) c.args.cores.now c.args.named.now c.args.numbers.now);
}
