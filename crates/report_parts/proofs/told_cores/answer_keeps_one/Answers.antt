use Rattle.std.specs.List.{list_any}
use Rattle.report_laws.specs.Settling.{keeps}
use Rattle.report_laws.specs.Standing.{Core}
use Rattle.report_parts.proofs.SettledLemmas.{any_core, or_first, or_second}
use Rattle.report_parts.proofs.told_cores.answer_keeps_one.Goals as goal

pub returns-then-some_keeps_one : goal.returns-then-some_keeps_one
returns-then-some_keeps_one c = record {
  exact = or_first c.some_keeps_one.result _ _ _ c.if-some_keeps_one.true c.some_keeps_one.ensures.exact
      (any_core (λ (core : Core). list_any (keeps core) c.args.causes.now) c.args.cores.now c.args.named.now c.args.numbers.now);
}

pub returns-else-some_keeps_one : goal.returns-else-some_keeps_one
returns-else-some_keeps_one c = record {
  exact = or_second c.some_keeps_one.result c.some_keeps_one-else-some_keeps_one.result _ _ _ c.if-some_keeps_one.false c.some_keeps_one.ensures.exact
      c.some_keeps_one-else-some_keeps_one.ensures.exact
      (any_core (λ (core : Core). list_any (keeps core) c.args.causes.now) c.args.cores.now c.args.named.now c.args.numbers.now);
}
