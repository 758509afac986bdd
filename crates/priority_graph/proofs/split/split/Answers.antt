use Rattle.std.proofs.Common.{arith}
use Rattle.priority_graph.proofs.SplitLemmas.{pairs_known, lists_known, parted_from}
use Rattle.priority_graph.proofs.split.split.Goals as goal

pub grouped-requires-clause-below : goal.grouped-requires-clause-below
grouped-requires-clause-below c = rw (c.as_slice.ensures.value, c.in_ok-entries.ensures.exact, c.facts.ensures.exact)
    (pairs_known c.args.conflicts.now.facts c.args.pairs.now c.requires.named)

pub split_entries-requires-clause-known : goal.split_entries-requires-clause-known
split_entries-requires-clause-known c =
    lists_known c.args.conflicts.now.facts c.args.pairs.now c.in_ok-listed.listed c.requires.named
    (rw (c.as_slice.ensures.value, c.in_ok-entries.ensures.exact, c.facts.ensures.exact) at c.in_ok-listed.ensures.exact)

pub grouped-requires-2-clause-few : goal.grouped-requires-2-clause-few
grouped-requires-2-clause-few c = rw c.as_slice-2.ensures.value (omega (arith, c.in_ok-split.ensures.exact.few))

pub grouped-requires-3-clause-few : goal.grouped-requires-3-clause-few
grouped-requires-3-clause-few c = rw c.as_slice-3.ensures.value (omega (arith, c.in_ok-split.ensures.exact.few))

pub returns : goal.returns
returns c = record {
  exact =
      parted_from c.args.pairs.now c.args.conflicts.now c.in_ok-listed.listed c.in_ok-worse.worse c.in_ok-blockers.blockers c.in_ok-split.split.worse.items
      c.in_ok-split.split.blockers.items
      (rw (c.as_slice.ensures.value, c.in_ok-entries.ensures.exact, c.facts.ensures.exact) at c.in_ok-listed.ensures.exact)
      c.in_ok-split.ensures.exact
      (rw (c.as_slice-2.ensures.value, c.facts-2.ensures.exact) at c.in_ok-worse.ensures.exact)
      (rw (c.as_slice-3.ensures.value, c.facts-3.ensures.exact) at c.in_ok-blockers.ensures.exact);
}
