use Rattle.std.proofs.Common.{ℕ, Contains}
use Rattle.std.proofs.lemmas.Result.{IfOk-weaker}
use Rattle.cq_terms.specs.declared.facts.Repairs.{Repairs}
use Rattle.cq_terms.specs.Knowledge.{Knowledge}
use Rattle.report_text.specs.declared.line.Question.TheVariants as question
use Rattle.report_laws.specs.AtStanding.{IsEasyAt, facts_of}
use Rattle.plain_finding.specs.EasyParts.{HasRivalCore, TellsOver}
use Rattle.plain_finding.proofs.EasyLemmas.{in_table_known, easy_absence}
use Rattle.plain_finding.proofs.direct.is_easy_absence.Goals as goal

pub has_rival_core_of_one-requires-clause-known : goal.has_rival_core_of_one-requires-clause-known
has_rival_core_of_one-requires-clause-known c = rw c.as_slice.ensures.lent (rw c.facts.ensures.exact at (in_table_known _ _ _ c.in_ok-facts.ensures.exact))

pub returns : goal.returns
returns c =
    let g = c.args.conflicts.now in
    let p = c.args.better.now in
    let are = rw c.facts.ensures.exact at c.in_ok-facts.ensures.exact in
    record {
      exact = IfOk-weaker c.has_rival_core_of_one.result (TellsOver g p (λ (kb : Knowledge) (mode : Repairs).
          (i : ℕ) × Contains c.as_slice.result.now i × HasRivalCore kb mode i))
          (TellsOver g p (λ (kb : Knowledge) (mode : Repairs). IsEasyAt kb mode question.Iar (facts_of c.args.literals.now)))
          (λ easy h kb mode of pr. easy_absence kb mode g of c.args.literals.now c.in_ok-facts.facts easy are (rw c.as_slice.ensures.lent at (h kb mode of pr)))
          c.has_rival_core_of_one.ensures.exact;
    }
