use Rattle.std.proofs.Common.{◌∙◌, arith}
use Rattle.cdcl_trail.proofs.LevelLemmas.{CutHolds, CutHolds-more}
use Rattle.cdcl_trail.proofs.assignment.cut.Goals as goal

pub loop-assigned-preserved : goal.loop-assigned-preserved
loop-assigned-preserved c =
    let h = c.loop-assigned.invariant in
    let all = c.args.assigned.now.entries in
    let before : CutHolds all c.loop-assigned.assigned.entries c.args.level = record { rise = h.rise; reached = h.reached; cut = h.cut } in
    let more = CutHolds-more all c.loop-assigned.assigned.entries c.take_last.new.self.entries c.take_last.result c.args.level before
    (omega (arith, c.loop-assigned-test.true, c.last_level.ensures)) c.take_last.ensures.some c.take_last.ensures.none in
    record {
      variables = c.take_last.ensures.variables ∙ h.variables;
      rise = more.rise;
      reached = more.reached;
      cut = more.cut;
    }
