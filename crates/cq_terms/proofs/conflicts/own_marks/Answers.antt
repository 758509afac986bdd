use Rattle.cq_terms.proofs.ConflictTablesLemmas.{next_clash, marks_yes, marks_no, single_below}
use Rattle.cq_terms.proofs.conflicts.own_marks.Goals as goal
use Rattle.cq_terms.proofs.conflicts.own_marks.Goals.{in-Some, in_default}

pub loop-clash-preserved : goal.loop-clash-preserved
loop-clash-preserved c =
    let next = next_clash c.args.clashes.now c.loop-clash.clash-index c.clash-item.result c.loop-clash-test.true c.clash-item.is in
    rw next (elim c.match-own_fact.branch [
      | in-Some w ↦
          let each = c.requires.kept.each c.loop-clash.clash-index c.clash-item.result c.loop-clash-test.true in
          rw w.marks-is (marks_yes _ _ c.clash-item.result _ w.in-Some.own c.loop-clash.invariant w.in-Some.ensures
          (single_below c.args.facts c.clash-item.result.facts w.in-Some.own (rw (← c.clash-item.is) at each) w.in-Some.ensures))
      | in_default w ↦ rw w.marks-is (marks_no _ _ c.clash-item.result _ c.loop-clash.invariant w.in_default.ensures)
    ])
