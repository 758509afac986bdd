use Rattle.std.specs.List.{list_all}
use Rattle.report_laws.specs.Settling.{drops}
use Rattle.report_laws.specs.Standing.{Core}
use Rattle.report_parts.proofs.SettledLemmas.{any_core, or_first, or_second}
use Rattle.report_parts.proofs.told_cores.answer_drops_of_each.Goals as goal

pub returns-then-some_drops_of_each : goal.returns-then-some_drops_of_each
returns-then-some_drops_of_each c = record {
  exact = or_first c.some_drops_of_each.result _ _ _ c.if-some_drops_of_each.true c.some_drops_of_each.ensures.exact
      (any_core (λ (core : Core). list_all (drops core) c.args.causes.now) c.args.cores.now c.args.named.now c.args.numbers.now);
}

pub returns-else-some_drops_of_each : goal.returns-else-some_drops_of_each
returns-else-some_drops_of_each c = record {
  exact = or_second c.some_drops_of_each.result c.some_drops_of_each-else-some_drops_of_each.result _ _ _ c.if-some_drops_of_each.false
      c.some_drops_of_each.ensures.exact
      c.some_drops_of_each-else-some_drops_of_each.ensures.exact
      (any_core (λ (core : Core). list_all (drops core) c.args.causes.now) c.args.cores.now c.args.named.now c.args.numbers.now);
}
