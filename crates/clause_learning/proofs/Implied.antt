-- A clause that resolution of clauses gives is refuted by propagation, also where literals that are false with no assumption are left
-- out.
use Rattle.std.proofs.Common.{◌≡◌, ◌≢◌, ℕ, ◌⊎◌, inl, inr, List, map, Contains, sym, subst, ap, ◌∙◌}
use Rattle.std.proofs.lemmas.Bool.{cases_eq}
use Rattle.clause_meaning.specs.Literals.{opposite_of}
use Rattle.clause_meaning.specs.Refutation.{Reaches, Follows, OppositesOf}
use Rattle.clause_meaning.proofs.Members.{Contains-map, Contains-map_cases}
use Rattle.clause_meaning.proofs.LiteralLaws.{opposite_of-opposite_of}
use Rattle.clause_meaning.proofs.Chains.{Reaches-given, Reaches-more, Reaches-forced, Refutes-from_clash, Refutes-more}
use Rattle.clause_meaning.specs.Learning.{Nothing}
use Rattle.clause_learning.specs.Resolving.{IsImplied}

-- what is reached with no assumption is reached with any
pub reached_anyway : (S : List ℕ → Type 0) (L : ℕ → Type 0) (l : ℕ) → Reaches S Nothing l → Reaches S L l
reached_anyway S L l r = Reaches-more S S Nothing L (λ c s. s) (λ k g. absurd g) l r

-- a clause of S without literals that are false with no assumption
pub IsImplied-start : (S : List ℕ → Type 0) (c clause : List ℕ) → S c
    → ((k : ℕ) → Contains c k → Contains clause k ⊎ Reaches S Nothing (opposite_of k)) → IsImplied S clause
IsImplied-start S c clause s split L h =
    Refutes-from_clash S (Contains L) (inl (c, s, λ k m. elim (split k m) [ inl p ↦ h k p | inr r ↦ reached_anyway S (Contains L) (opposite_of k) r ]))

-- one literal p is resolved away, by the clause d that forced its opposite
pub IsImplied-step : (S : List ℕ → Type 0) (clause d next : List ℕ) (p : ℕ) → IsImplied S clause → S d → Contains d (opposite_of p)
    → ((k : ℕ) → Contains clause k → k ≢ p → Contains next k)
    → ((k : ℕ) → Contains d k → k ≢ opposite_of p → Contains next k ⊎ Reaches S Nothing (opposite_of k)) → IsImplied S next
IsImplied-step S clause d next p implied s has keeps split L h =
    let forced = Reaches-forced S (Contains L) d (opposite_of p) s (record {
      member = has;
      others = λ k m n. elim (split k m n) [ inl q ↦ h k q | inr r ↦ reached_anyway S (Contains L) (opposite_of k) r ];
    }) in
    implied L (λ k m. elim (cases_eq k p) [ inl e ↦ subst (λ (y : ℕ). Reaches S (Contains L) (opposite_of y)) (sym e) forced | inr n ↦ h k (keeps k m n) ])

-- an implied clause follows
pub IsImplied-follows : (S : List ℕ → Type 0) (clause : List ℕ) → IsImplied S clause → Follows S clause
IsImplied-follows S clause implied =
    Refutes-more S S (Contains (map opposite_of clause)) (OppositesOf clause) (λ c s. s) (λ l m. from_map l (Contains-map_cases opposite_of clause l m))
    (implied (map opposite_of clause) (λ k m. Reaches-given S (Contains (map opposite_of clause)) (opposite_of k) (Contains-map opposite_of clause k m)))
  where
    from_map : (l : ℕ) → (k : ℕ) × Contains clause k × (opposite_of k ≡ l) → OppositesOf clause l
    from_map l (k, m, e) = subst (Contains clause) (sym (opposite_of-opposite_of k) ∙ ap opposite_of e) m
