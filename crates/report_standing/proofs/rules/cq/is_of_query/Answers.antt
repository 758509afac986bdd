use Rattle.std.proofs.Common.{◌≡◌, ℕ, ◌<◌, [], ◌∷◌, ◌∙◌, sym, ap, arith}
use Rattle.std.proofs.lemmas.Result.{IfOk-weaker}
use Rattle.cq_meaning.specs.NormalForm.{normal}
use Rattle.report_rules.specs.Inputs.{query_at}
use Rattle.report_standing.proofs.JoinLemmas.{past_query}
use Rattle.report_standing.proofs.rules.cq.is_of_query.Goals as goal

pub returns-then-ends-ne0 : goal.returns-then-ends-ne0
returns-then-ends-ne0 c =
    let some : 0 < c.args.ends = omega (arith, c.if-ends-ne0.true) in
    record { exact = ((λ e. absurd (cc e)), (λ e. absurd (past_query c.args.query.now c.args.member.now c.args.ends some c.body-body.ensures.safe.body e))) }

pub returns : goal.returns
returns c =
    let none : c.args.ends ≡ 0 = c.if-ends-ne0.false in
    let first = ap (λ (n : ℕ). normal (query_at (c.args.query.now ∷ []) n)) none in
    record {
      exact = IfOk-weaker c.is_same-2.result _ _
          (λ b w. ((λ t. w.0 t ∙ c.in_ok-normal.ensures.exact ∙ sym first), (λ e. w.1 (e ∙ first ∙ sym c.in_ok-normal.ensures.exact))))
          c.is_same-2.ensures.exact;
    }
