use Rattle.std.proofs.Common.{◌≡◌, ◌∙◌, ap, sym}
use Rattle.std.proofs.lemmas.Result.{IfOk-weaker}
use Rattle.cq_terms.specs.declared.facts.Repairs.{Repairs}
use Rattle.cq_terms.specs.Knowledge.{Knowledge}
use Rattle.report_text.specs.declared.line.Question.TheVariants as question
use Rattle.report_laws.specs.AtStanding.{IsEasyAt, facts_of}
use Rattle.report_laws.specs.Standing.{Standing}
use Rattle.plain_finding.specs.EasyParts.{TellsOver}
use Rattle.report_standing.proofs.EasyLemmas.{easy_asked}
use Rattle.report_standing.proofs.standing.Standing.is_easy.Goals as goal

pub returns-in-Brave : goal.returns-in-Brave
returns-in-Brave c =
    let g = c.args.conflicts.now in
    let p = c.args.better.now in
    let of_question : c.args.self.now.question ≡ question.Brave = ap (λ (s : Standing). s.question) (sym c.self.view_is) ∙ c.in-Brave.is in
    let of_assumed : c.as_slice.result.now ≡ c.args.self.now.assumed = c.as_slice.ensures.lent ∙ ap (λ (s : Standing). s.assumed) c.self.view_is in
    record {
      exact = IfOk-weaker c.is_easy_cause.result
          (TellsOver g p (λ (kb : Knowledge) (mode : Repairs). IsEasyAt kb mode question.Brave (facts_of c.as_slice.result.now)))
          (TellsOver g p (λ (kb : Knowledge) (mode : Repairs). IsEasyAt kb mode c.args.self.now.question (facts_of c.args.self.now.assumed)))
          (λ easy h kb mode of pr. easy_asked kb mode c.args.self.now.question question.Brave c.args.self.now.assumed c.as_slice.result.now easy
          of_question of_assumed (h kb mode of pr)) c.is_easy_cause.ensures.exact;
    }

pub returns-in-Iar : goal.returns-in-Iar
returns-in-Iar c =
    let g = c.args.conflicts.now in
    let p = c.args.better.now in
    let of_question : c.args.self.now.question ≡ question.Iar = ap (λ (s : Standing). s.question) (sym c.self.view_is) ∙ c.in-Iar.is in
    let of_assumed : c.as_slice-in-Iar.result.now ≡ c.args.self.now.assumed =
    c.as_slice-in-Iar.ensures.lent ∙ ap (λ (s : Standing). s.assumed) c.self.view_is in
    record {
      exact = IfOk-weaker c.is_easy_absence.result
          (TellsOver g p (λ (kb : Knowledge) (mode : Repairs). IsEasyAt kb mode question.Iar (facts_of c.as_slice-in-Iar.result.now)))
          (TellsOver g p (λ (kb : Knowledge) (mode : Repairs). IsEasyAt kb mode c.args.self.now.question (facts_of c.args.self.now.assumed)))
          (λ easy h kb mode of pr. easy_asked kb mode c.args.self.now.question question.Iar c.args.self.now.assumed c.as_slice-in-Iar.result.now easy
          of_question of_assumed (h kb mode of pr)) c.is_easy_absence.ensures.exact;
    }
