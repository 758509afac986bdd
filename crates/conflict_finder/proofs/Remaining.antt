-- The numbers of the facts that weren't shown alone, and the facts of numbers.
use Rattle.std.proofs.Common.{◌≡◌, ℕ, ◌+◌, ◌<◌, ◌≤◌, List, [], ◌∷◌, ◌++◌, length, take, Contains, ◌⊎◌, inl, inr, ◌↔◌, slice_get, Some, sym, subst, arith}
use Rattle.std.specs.List.{AllZip}
use Rattle.std.proofs.lemmas.Bool.{cases_lt}
use Rattle.std.proofs.lemmas.List.{length-append}
use Rattle.std.proofs.lemmas.List.Quantifiers.{all_pairs_push}
use Rattle.cq_terms.specs.declared.facts.Fact.{Fact}
use Rattle.cq_terms.specs.Lists.{IsAscending}
use Rattle.cq_meaning.proofs.Ascending.{All-of}
use Rattle.cq_meaning.proofs.Listed.{append_left, append_right, append_cases}
use Rattle.cq_meaning.proofs.Members.{Contains-cases, Contains-nil, Contains-one}
use Rattle.conflict_finder.specs.declared.clash_facts.ClashFacts.{ClashFacts}
use Rattle.conflict_finder.specs.declared.clash_facts.ClashFacts.TheVariants.{One}
use Rattle.conflict_finder.specs.declared.first_shown.Source.{Source}
use Rattle.conflict_finder.specs.FirstShown.{HasKey}

-- exactly the numbers below this one that weren't shown alone, ascending
pub record AreOthers (entries : List (ClashFacts × Source)) (n : ℕ) (numbers : List ℕ) : Type 0 where
  pub exact : (i : ℕ) → Contains numbers i ↔ ((i < n) × (HasKey entries (One i) → ⊥))
  pub ascending : IsAscending numbers
  pub few : length numbers ≤ n

module _ (entries : List (ClashFacts × Source)) where
  pub others_none : AreOthers entries 0 []
  others_none = record {
    exact = λ i. ((λ c. absurd (Contains-nil i c)), (λ w. absurd (let l = w.0 in omega (arith, l))));
    ascending = λ i j d ij l. absurd (omega arith);
    few = omega arith;
  }

  module _ (n : ℕ) (numbers : List ℕ) (are : AreOthers entries n numbers) where
    pub others_shown : HasKey entries (One n) → AreOthers entries (n + 1) numbers
    others_shown h = record {
      exact = λ i. ((λ c. there i ((are.exact i).0 c)), (λ w. back i (cases_lt i n) w.0 w.1));
      ascending = are.ascending;
      few = (let k = are.few in omega (arith, k));
    }
      where
        there : (i : ℕ) → (i < n) × (HasKey entries (One i) → ⊥) → (i < n + 1) × (HasKey entries (One i) → ⊥)
        there i (l, none) = (omega arith, none)

        back : (i : ℕ) → (i < n) ⊎ (n ≤ i) → i < n + 1 → (HasKey entries (One i) → ⊥) → Contains numbers i
        back i (inl l) k none = (are.exact i).1 (l, none)
        back i (inr l) k none = absurd (none (subst (λ m. HasKey entries (One m)) (let e : n ≡ i = omega arith in e) h))

    pub others_new : (HasKey entries (One n) → ⊥) → AreOthers entries (n + 1) (numbers ++ n ∷ [])
    others_new none = record {
      exact = λ i. ((λ c. there i (append_cases numbers (n ∷ []) i c)), (λ w. back i (cases_lt i n) w.0 w.1));
      ascending = all_pairs_push (λ i j. i < j) numbers n are.ascending (All-of (λ i. i < n) numbers (λ i c. ((are.exact i).0 c).0));
      few = (let k = are.few in omega (arith, k, length-append numbers (n ∷ [])));
    }
      where
        last : (i : ℕ) → (n ≡ i) ⊎ Contains [] i → (i < n + 1) × (HasKey entries (One i) → ⊥)
        last i (inl e) = subst (λ m. (m < n + 1) × (HasKey entries (One m) → ⊥)) e (omega arith, none)
        last i (inr z) = absurd (Contains-nil i z)

        old : (i : ℕ) → (i < n) × (HasKey entries (One i) → ⊥) → (i < n + 1) × (HasKey entries (One i) → ⊥)
        old i (l, free) = (omega arith, free)

        there : (i : ℕ) → Contains numbers i ⊎ Contains (n ∷ []) i → (i < n + 1) × (HasKey entries (One i) → ⊥)
        there i (inl c) = old i ((are.exact i).0 c)
        there i (inr c) = last i (Contains-cases n [] i c)

        back : (i : ℕ) → (i < n) ⊎ (n ≤ i) → i < n + 1 → (HasKey entries (One i) → ⊥) → Contains (numbers ++ n ∷ []) i
        back i (inl l) k free = append_left numbers (n ∷ []) i ((are.exact i).1 (l, free))
        back i (inr l) k free = append_right numbers (n ∷ []) i (Contains-one n i (omega arith))

-- ---- facts of numbers

module _ (facts : List Fact) where
  zip_push : (numbers : List ℕ) (found : List Fact) (n : ℕ) (f : Fact) → AllZip (λ m g. slice_get facts m ≡ Some g) numbers found → slice_get facts n ≡ Some f
      → AllZip (λ m g. slice_get facts m ≡ Some g) (numbers ++ n ∷ []) (found ++ f ∷ [])
  zip_push [] [] n f z e = (e, tt)
  zip_push [] (g ∷ found) n f z e = absurd z
  zip_push (m ∷ numbers) [] n f z e = absurd z
  zip_push (m ∷ numbers) (g ∷ found) n f z e = (z.0, zip_push numbers found n f z.1 e)

  pub facts_more : (numbers : List ℕ) (i : ℕ) (found : List Fact) (n : ℕ) (f : Fact) → take (i + 1) numbers ≡ take i numbers ++ n ∷ []
      → AllZip (λ m g. slice_get facts m ≡ Some g) (take i numbers) found → slice_get facts n ≡ Some f
      → AllZip (λ m g. slice_get facts m ≡ Some g) (take (i + 1) numbers) (found ++ f ∷ [])
  facts_more numbers i found n f next z e = subst (λ (xs : List ℕ). AllZip (λ m g. slice_get facts m ≡ Some g) xs (found ++ f ∷ [])) (sym next)
      (zip_push (take i numbers) found n f z e)
