use Rattle.std.proofs.Common.{[], Some, None}
use Rattle.std.proofs.lemmas.Result.{IfOk-weaker}
use Rattle.cq_steps.specs.declared.moves.Move.TheVariants as move
use Rattle.cq_steps.proofs.OneResult.{IsMoveResult-reduce}
use Rattle.report_parts.proofs.MoveLemmas.{told_result}
use Rattle.report_parts.proofs.moves.is_reduced.Goals as goal

pub returns-in-Some : goal.returns-in-Some
returns-in-Some c =
    let one = IsMoveResult-reduce [] c.args.from.now c.args.first c.args.second (Some c.in-Some.result) (rw c.in-Some.is at c.in_ok-result.ensures.exact) in
    let told = told_result [] c.args.from.now c.args.query.now c.in-Some.result (move.Reduce c.args.first c.args.second) one in
    record {
      exact = IfOk-weaker c.is_same.result _ _ (λ b w. ((λ t. told.0 (w.0 t)), (λ h. w.1 (told.1 h)))) c.is_same.ensures.exact;
    }

pub returns-in-None : goal.returns-in-None
returns-in-None c =
    let none = IsMoveResult-reduce [] c.args.from.now c.args.first c.args.second None (rw c.in-None.is at c.in_ok-result.ensures.exact) in
    record { exact = ((λ e. absurd (cc e)), (λ h. absurd (none c.args.query.now h))) }
