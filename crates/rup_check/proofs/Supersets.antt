-- Live clauses within a clause: one that has a literal has one of the clause.
use Rattle.std.proofs.Common.{ℕ, ◌≤◌, List, [], ◌∷◌, length, take, Contains, Option, refl}
use Rattle.clause_meaning.specs.Refutation.{IsWithin, ContainsOneOf}
use Rattle.clause_meaning.proofs.Members.{Contains-head, Contains-take_all}
use Rattle.rup_check.specs.Slots.{IsAt}

pub none_within : (slots : List (Option (List ℕ))) (clause : List ℕ) (i : ℕ) → length clause ≤ i → ((n : ℕ) → IsAt slots n [] → ⊥)
    → ((k n : ℕ) (c : List ℕ) → Contains (take i clause) k → IsAt slots n c → Contains c k → IsWithin c clause → ⊥)
    → (n : ℕ) (c : List ℕ) → IsAt slots n c → IsWithin c clause → ⊥
none_within slots clause i all empty none n [] at within = empty n at
none_within slots clause i all empty none n (l ∷ ls) at within =
    let first = Contains-head l ls l refl in
    none l n (l ∷ ls) (Contains-take_all clause i l all (within l first)) at first within

-- the same clauses, given otherwise
pub ContainsOneOf-same : (S T : List ℕ → Type 0) (clause : List ℕ) → ((c : List ℕ) → (S c → T c) × (T c → S c))
    → (A : Type 0) → ((A → ContainsOneOf S clause) × (ContainsOneOf S clause → A)) → (A → ContainsOneOf T clause) × (ContainsOneOf T clause → A)
ContainsOneOf-same S T clause same A told = (
  λ a. let one = told.0 a in (one.0, (same one.0).0 one.1, one.2),
  λ one. told.1 (one.0, (same one.0).1 one.1, one.2),
)
