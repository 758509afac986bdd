use Rattle.std.proofs.Common.{length, ◌<◌, sym, subst}
use Rattle.std.proofs.lemmas.List.Elements.{All-contains}
use Rattle.cq_terms.specs.declared.facts.Repairs.TheVariants as mode
use Rattle.report_text.specs.declared.line.Question.TheVariants as question
use Rattle.report_rules.specs.TryRules.{IsEasy}
use Rattle.report_laws.proofs.EasyLemmas.{brave_easy, iar_easy}
use Rattle.report_laws.proofs.laws.tries_are_easy.Goals as goal

pub returns : goal.returns
returns c kb = (
  (λ a lists assume (cause, m, e). subst (IsEasy kb mode.All question.Brave) (sym e)
      (brave_easy kb cause (λ i k. All-contains (λ i. i < length kb.facts) cause i (lists cause m).0 k) (lists cause m).1)),
  (λ i (j, w). iar_easy kb i j w),
)
