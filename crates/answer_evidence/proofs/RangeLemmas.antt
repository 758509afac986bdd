-- Ranges of numbers, one number after another.
use Rattle.std.proofs.Common.{◌≡◌, ◌<◌, ◌≤◌, ◌+◌, ◌↔◌, inl, inr, ℕ, List, [], ◌∷◌, ◌++◌, length, refl, sym, subst, arith, Contains}
use Rattle.std.proofs.lemmas.Bool.{cases_eq}
use Rattle.std.proofs.lemmas.List.Elements.{Contains-append_left, Contains-push, Contains-push_cases}
use Rattle.cq_meaning.proofs.Members.{Contains-nil, Contains-cases}
use Rattle.report_laws.proofs.ListLemmas.{AllPairs-append}
use Rattle.answer_evidence.specs.Ranges.{IsRange}

below_none : {A : Type 0} (n : ℕ) → n < 0 → A
below_none n l = absurd (go n l)
  where
    go : (n : ℕ) → n < 0 → ⊥
    go n l = omega arith

below_one : {A : Type 0} (i j : ℕ) → i < j → j < 1 → A
below_one i j l m = absurd (go i j l m)
  where
    go : (i j : ℕ) → i < j → j < 1 → ⊥
    go i j l m = omega arith

pub IsRange-none : (first : ℕ) → IsRange first first []
IsRange-none first = record { ascending = λ i j z l m. below_none j m; exact = λ n. ((λ m. absurd (Contains-nil n m)), (λ w. absurd (none n w.0 w.1))) }
  where
    none : (n : ℕ) → first ≤ n → n < first → ⊥
    none n l m = omega arith

pub IsRange-more : (first k : ℕ) (numbers : List ℕ) → IsRange first k numbers → first ≤ k → IsRange first (k + 1) (numbers ++ k ∷ [])
IsRange-more first k numbers h l = record {
  ascending = AllPairs-append (λ i j. i < j) numbers (k ∷ []) h.ascending (λ i j z p q. below_one i j p q) less;
  exact = λ n. (there n, back n);
}
  where
    less : (x y : ℕ) → Contains numbers x → Contains (k ∷ []) y → x < y
    less x y m listed = elim (Contains-cases k [] y listed) [ inl e ↦ subst (λ (z : ℕ). x < z) e ((h.exact x).0 m).1 | inr n ↦ absurd (Contains-nil y n) ]

    there : (n : ℕ) → Contains (numbers ++ k ∷ []) n → (first ≤ n) × (n < k + 1)
    there n m = elim (Contains-push_cases numbers k n m) [
      | inl before ↦ let b = (h.exact n).0 before in (b.0, (let c = b.1 in omega (arith, c)))
      | inr e ↦ (omega (arith, e), omega (arith, e))
    ]

    back : (n : ℕ) → (first ≤ n) × (n < k + 1) → Contains (numbers ++ k ∷ []) n
    back n (p, q) = elim (cases_eq n k) [
      | inl e ↦ subst (Contains (numbers ++ k ∷ [])) (sym e) (Contains-push numbers k)
      | inr apart ↦ Contains-append_left numbers (k ∷ []) n ((h.exact n).1 (p, omega (arith, apart)))
    ]
