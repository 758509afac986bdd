use Rattle.std.proofs.Common.{◌≡◌, Some, None, slice_get}
use Rattle.std.proofs.lemmas.Result.{IfOk-weaker}
use Rattle.cq_steps.specs.declared.moves.Move.TheVariants as move
use Rattle.cq_steps.proofs.OneResult.{IsMoveResult-axiom}
use Rattle.report_parts.proofs.MoveLemmas.{told_result}
use Rattle.report_parts.proofs.ListFacts.{got}
use Rattle.report_parts.proofs.moves.is_applied.Goals as goal

pub returns-in-Some-2 : goal.returns-in-Some-2
returns-in-Some-2 c =
    let at : slice_get c.args.axioms.now c.args.axiom ≡ Some c.in-Some.rule.now = got c.args.axioms.now c.args.axiom c.in-Some.rule.now
    c.in-Some.ensures.lookup.1 c.in-Some.ensures.lookup.3.0 in
    let one = IsMoveResult-axiom c.args.axioms.now c.args.from.now c.args.atom c.args.axiom c.in-Some.rule.now (Some c.in-Some-2.result) at
    (rw c.in-Some-2.is at c.in_ok-result.ensures.exact) in
    let told = told_result c.args.axioms.now c.args.from.now c.args.query.now c.in-Some-2.result (move.Axiom c.args.atom c.args.axiom) one in
    record {
      exact = IfOk-weaker c.is_same.result _ _ (λ b w. ((λ t. told.0 (w.0 t)), (λ h. w.1 (told.1 h)))) c.is_same.ensures.exact;
    }

pub returns-in-None : goal.returns-in-None
returns-in-None c =
    let at : slice_get c.args.axioms.now c.args.axiom ≡ Some c.in-Some.rule.now = got c.args.axioms.now c.args.axiom c.in-Some.rule.now
    c.in-Some.ensures.lookup.1 c.in-Some.ensures.lookup.3.0 in
    let none = IsMoveResult-axiom c.args.axioms.now c.args.from.now c.args.atom c.args.axiom c.in-Some.rule.now None at
    (rw c.in-None.is at c.in_ok-result.ensures.exact) in
    record { exact = ((λ e. absurd (cc e)), (λ h. absurd (none c.args.query.now h))) }
