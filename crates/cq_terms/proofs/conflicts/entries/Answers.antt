use Rattle.std.proofs.Common.{◌∙◌, ap, List, ◌++◌, take}
use Rattle.cq_terms.specs.declared.flat_lists.KeyedNumber.{KeyedNumber}
use Rattle.cq_terms.specs.ConflictTables.{both_ways}
use Rattle.cq_terms.proofs.ConflictTablesLemmas.{next_clash, entries_yes, entries_no}
use Rattle.cq_terms.proofs.conflicts.entries.Goals as goal
use Rattle.cq_terms.proofs.conflicts.entries.Goals.{in-Some+in_ok-push_both, in_default}

pub loop-clash-preserved : goal.loop-clash-preserved
loop-clash-preserved c =
    let next = next_clash c.args.clashes.now c.loop-clash.clash-index c.clash-item.result c.loop-clash-test.true c.clash-item.is in
    rw next (elim c.match-pair.branch [
      | in-Some+in_ok-push_both w ↦
          rw w.entries-is (w.in_ok-push_both.ensures.exact
          ∙ ap (λ (xs : List KeyedNumber). xs ++ both_ways (w.in-Some.lower, w.in-Some.upper)) c.loop-clash.invariant
          ∙ entries_yes (take c.loop-clash.clash-index c.args.clashes.now) c.clash-item.result (w.in-Some.lower, w.in-Some.upper) w.in-Some.ensures)
      | in_default w ↦ rw w.entries-is (c.loop-clash.invariant ∙ entries_no (take c.loop-clash.clash-index c.args.clashes.now) c.clash-item.result
          w.in_default.ensures)
    ])
