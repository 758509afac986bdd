use Rattle.std.proofs.Common.{◌∙◌, sym}
use Rattle.std.proofs.lemmas.Result.{IfOk-weaker}
use Rattle.report_standing.proofs.ClosedLemmas.{closed_tells}
use Rattle.report_standing.proofs.rules.closed.leaves_closed.Goals as goal

pub returns-in-Some : goal.returns-in-Some
returns-in-Some c = record {
  exact = λ names q. IfOk-weaker c.is_closed.result _ _
      (λ b w. closed_tells c.args.kb.now names q c.args.standing.now c.args.line.now c.in-InBlock.origin c.axioms.result.now c.in-Some.block.now.members b
      (sym c.place.ensures.exact ∙ c.in-InBlock.is) (λ h. let t = c.if-is_of_block.ensures.exact.1 h in cc t) c.axioms.ensures.lent c.in-Some.ensures.exact w)
      c.is_closed.ensures.exact;
}
