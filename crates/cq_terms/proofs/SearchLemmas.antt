-- What a binary search in ascending numbers finds.
use Rattle.std.proofs.Common.{◌≡◌, ◌<◌, ◌≤◌, inl, inr, ◌↔◌, ℕ, true, List, length, get_or, Ok, Err, Result, refl, sym, ap, ◌∙◌, arith, Contains}
use Rattle.std.specs.Result.{is_ok}
use Rattle.std.specs.List.Sorted.{IsBinarySearchResult}
use Rattle.std.specs.Ordering.{nat_cmp}
use Rattle.std.proofs.lemmas.Bool.{cases_lt, cases_eq, true≢false}
use Rattle.std.proofs.lemmas.List.{get_or_default}
use Rattle.std.proofs.lemmas.List.Sorted.{searched}
use Rattle.cq_terms.specs.Lists.{IsAscending}

rising : (xs : List ℕ) → IsAscending xs → (i j : ℕ) → i ≤ j → j < length xs → get_or xs i 0 ≤ get_or xs j 0
rising xs up i j le l = elim (cases_eq i j) [
  | inl e ↦ omega (arith, ap (λ (n : ℕ). get_or xs n 0) e)
  | inr n ↦ let less = up i j 0 (omega arith) l in
      omega arith
]

pub found : (xs : List ℕ) (x : ℕ) (r : Result ℕ ℕ) → IsBinarySearchResult (λ y. nat_cmp y x) xs r → IsAscending xs → (is_ok r ≡ true) ↔ Contains xs x
found xs x (Ok i) h up =
    let at = searched xs x (Ok i) h (rising xs up) in
    ((λ _. (i, at.0, get_or_default xs i x 0 at.0 ∙ at.1)), (λ _. refl))
found xs x (Err i) h up =
    let at = searched xs x (Err i) h (rising xs up) in (
      (λ e. absurd (true≢false (sym e))),
      (λ (k, l, e).
          let here : get_or xs k 0 ≡ x = get_or_default xs k 0 x l ∙ e in
          elim (cases_lt k i) [
            | inl less ↦ let low = at.1 k less in absurd (omega arith)
            | inr more ↦ let high = at.2 k more l in absurd (omega arith)
          ]),
    )
