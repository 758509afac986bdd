use Rattle.std.proofs.Common.{◌∙◌, sym, get_or}
use Rattle.priority_graph.specs.Split.{has}
use Rattle.priority_graph.proofs.SplitLemmas.{has_not}
use Rattle.report_parts.proofs.ListFacts.{all_stops}
use Rattle.plain_finding.proofs.candidates.has_all.Goals as goal

pub returns-then-not-has_sorted : goal.returns-then-not-has_sorted
returns-then-not-has_sorted c = record {
  exact = sym (c.loop-number.invariant ∙ all_stops (has c.args.list.now) c.args.numbers.now c.loop-number.number-index 0 c.loop-number-test.true
      (has_not c.args.list.now (get_or c.args.numbers.now c.loop-number.number-index 0) (λ m. let t = c.if-not-has_sorted.ensures.exact.1 m in cc t)));
}
