use Rattle.std.proofs.lemmas.Result.{IfOk-weaker}
use Rattle.plain_finding.proofs.EasyLemmas.{in_table_from}
use Rattle.plain_finding.proofs.direct.facts_in_table.Goals as goal

pub returns : goal.returns
returns c = record {
  exact = IfOk-weaker _ _ _ (λ sorted h. in_table_from c.args.facts c.args.literals.now c.loop-literal.literal-index c.loop-literal.known.items sorted
      c.loop-literal-test.false c.loop-literal.invariant (rw c.as_slice.ensures.value at h)) c.sorted.ensures.exact;
}
