-- Clauses that are learned one after another join nothing.
use Rattle.std.proofs.Common.{ℕ, ◌*◌, inl, inr, List, [], ◌∷◌, Contains, sym, subst}
use Rattle.std.proofs.lemmas.List.Elements.{All-contains}
use Rattle.clause_meaning.proofs.Members.{Contains-nil, Contains-cons_cases}
use Rattle.clause_meaning.specs.Learning.{With, OccursIn, IsFreeOf, IsOneSided, Parts, IsLearnable, AreLearnable, is_in}

-- no clause gets the present literal of m
pub never_present : (S : List ℕ → Type 0) (clause : List ℕ) (m : ℕ) → IsLearnable S clause → (OccursIn S (2 * m) → ⊥) → OccursIn (With S clause) (2 * m) → ⊥
never_present S clause m h never (c, inl old, has) = never (c, old, has)
never_present S clause m h never (c, inr same, has) =
    never (All-contains (OccursIn S) clause (2 * m) h.occur (subst (λ (d : List ℕ). Contains d (2 * m)) same has))

pub Parts-with : (S : List ℕ → Type 0) (clause : List ℕ) (m : ℕ) (part : List ℕ) → IsLearnable S clause → (OccursIn S (2 * m) → ⊥)
    → Parts (is_in part) m S → Parts (is_in part) m (With S clause)
Parts-with S clause m part h never parts c (inl old) free = parts c old free
Parts-with S clause m part h never parts c (inr same) free =
    subst (IsOneSided (is_in part)) (sym same) (h.joins_nothing m never part parts (subst (IsFreeOf m) same free))

-- what the clauses before never join, none of the learned clauses joins
pub learned_one_sided : (S : List ℕ → Type 0) (clauses : List (List ℕ)) (m : ℕ) (part : List ℕ) → AreLearnable S clauses
    → (OccursIn S (2 * m) → ⊥) → Parts (is_in part) m S → (c : List ℕ) → Contains clauses c → IsFreeOf m c → IsOneSided (is_in part) c
learned_one_sided S [] m part h never parts c has free = absurd (Contains-nil c has)
learned_one_sided S (x ∷ xs) m part (may, h) never parts c has free =
    elim (Contains-cons_cases x xs c has) [
      | inl same ↦ subst (IsOneSided (is_in part)) same (may.joins_nothing m never part parts (subst (IsFreeOf m) (sym same) free))
      | inr t ↦ learned_one_sided (With S x) xs m part h (never_present S x m may never) (Parts-with S x m part may never parts) c t free
    ]
