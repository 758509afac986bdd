use Rattle.std.proofs.Common.{◌≡◌, ◌⊎◌, ◌<◌, ◌^◌, ℕ, List, length, sym, subst, ◌∙◌, All}
use Rattle.classifier.proofs.whole.conflict_line.Goals as goal

pub returns-clause-form : goal.returns-clause-form
returns-clause-form c = record {
  one_or_two = subst (λ (xs : List ℕ). (length xs ≡ 1) ⊎ (length xs ≡ 2)) (sym (c.in_ok-facts.ensures.exact ∙ c.as_slice.ensures.lent)) c.requires.few;
  facts_fit = subst (λ (xs : List ℕ). All (λ n. n < 2 ^ 32) xs) c.as_slice-2.ensures.lent c.fit.ensures;
  rule_fits = c.fit_number.ensures;
  place_fits = c.fit_number-2.ensures;
}
