use Rattle.std.proofs.lemmas.Result.{IfOk-weaker}
use Rattle.cq_terms.specs.declared.facts.Repairs.{Repairs}
use Rattle.cq_terms.specs.Knowledge.{Knowledge}
use Rattle.report_text.specs.declared.line.Question.TheVariants as question
use Rattle.report_rules.specs.TryRules.{HasDirectCore}
use Rattle.report_laws.specs.AtStanding.{IsEasyAt, facts_of}
use Rattle.plain_finding.specs.EasyParts.{TellsOver}
use Rattle.plain_finding.proofs.EasyLemmas.{in_table_known, easy_cause}
use Rattle.plain_finding.proofs.direct.is_easy_cause.Goals as goal

pub has_direct_core-requires-clause-known : goal.has_direct_core-requires-clause-known
has_direct_core-requires-clause-known c = rw c.as_slice.ensures.lent (rw c.facts.ensures.exact at (in_table_known _ _ _ c.in_ok-facts.ensures.exact))

pub returns : goal.returns
returns c =
    let g = c.args.conflicts.now in
    let p = c.args.better.now in
    let are = rw c.facts.ensures.exact at c.in_ok-facts.ensures.exact in
    record {
      exact = IfOk-weaker c.has_direct_core.result (TellsOver g p (λ (kb : Knowledge) (mode : Repairs). HasDirectCore kb mode c.as_slice.result.now))
          (TellsOver g p (λ (kb : Knowledge) (mode : Repairs). IsEasyAt kb mode question.Brave (facts_of c.args.literals.now)))
          (λ easy h kb mode of pr. easy_cause kb mode g of c.args.literals.now c.in_ok-facts.facts easy are (rw c.as_slice.ensures.lent at (h kb mode of pr)))
          c.has_direct_core.ensures.exact;
    }
