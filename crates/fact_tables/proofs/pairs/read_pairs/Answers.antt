use Rattle.std.proofs.Common.{◌∙◌}
use Rattle.fact_tables.proofs.PairProgress.{all_named, ended, step}
use Rattle.fact_tables.proofs.pairs.read_pairs.Goals as goal

pub loop-pairs-preserved : goal.loop-pairs-preserved
loop-pairs-preserved c =
    step _ _ _ _ _ _ c.loop-pairs.invariant (c.in_ok-next.ensures.found c.if-branch.true) c.in_ok-pair.pair _ c.in_ok-pair.ensures.right
    c.in_ok-pair.ensures.exact (λ e. c.if-len-eq-MOST_PAIRS.false (c.len-in-loop-pairs.ensures ∙ c.loop-pairs.pairs.ok.0 ∙ e)) c.in_ok-push.ensures.items

pub returns-clause-exact : goal.returns-clause-exact
returns-clause-exact c =
    rw (← c.records-records.ensures.lent) (ended _ _ _ _ c.loop-pairs.invariant (c.in_ok-next.ensures.none c.if-branch.false))

pub returns-clause-named : goal.returns-clause-named
returns-clause-named c = all_named _ _ _ _ c.loop-pairs.invariant _ (rw c.records-records.ensures.lent c.records-records.ensures.named)
