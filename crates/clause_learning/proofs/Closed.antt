-- Closed sets of literals: what a level knows once its propagation is complete.
use Rattle.std.proofs.Common.{◌≢◌, ℕ, inl, inr, List, Contains, sym, subst, ◌∙◌}
use Rattle.std.proofs.lemmas.Bool.{cases_eq}
use Rattle.clause_meaning.specs.Literals.{opposite_of}
use Rattle.clause_meaning.specs.Refutation.{Forces, Clashes, ContainsOneOf, IsClosed}
use Rattle.clause_meaning.proofs.Chains.{Reaches-least, Forces-more, Clashes-more}
use Rattle.clause_meaning.proofs.Members.{contained_or_not}
use Rattle.clause_meaning.specs.Learning.{Nothing, IsUndecided, With}

-- the same literals are known, and there are no more clauses
pub IsClosed-same : (S T : List ℕ → Type 0) (K M : ℕ → Type 0) → ((c : List ℕ) → T c → S c) → ((l : ℕ) → K l → M l) → ((l : ℕ) → M l → K l)
    → IsClosed S K → IsClosed T M
IsClosed-same S T K M fewer to from closed = record {
  forced = λ c l t f. to l (closed.forced c l (fewer c t) (Forces-more c M K l from f));
  no_clash = λ clash. closed.no_clash (Clashes-more T S M K fewer from clash);
}

-- what isn't known to a closed set, either way, is undecided
pub IsClosed-undecided : (S : List ℕ → Type 0) (K : ℕ → Type 0) (l : ℕ) → IsClosed S K → (K l → ⊥) → (K (opposite_of l) → ⊥) → IsUndecided S l
IsClosed-undecided S K l closed n m = (
  λ r. n (Reaches-least S Nothing K (λ k g. absurd g) closed.forced l r),
  λ r. m (Reaches-least S Nothing K (λ k g. absurd g) closed.forced (opposite_of l) r),
)

-- a clause with one literal u that a closed set doesn't know, whose other literals are false there, contains no clause
pub IsClosed-contains_none : (S : List ℕ → Type 0) (K : ℕ → Type 0) (clause : List ℕ) (u : ℕ) → IsClosed S K → (K u → ⊥)
    → ((k : ℕ) → Contains clause k → k ≢ u → K (opposite_of k)) → ContainsOneOf S clause → ⊥
IsClosed-contains_none S K clause u closed n others (c, s, within) =
    elim (contained_or_not c u) [
      | inl m ↦ n (closed.forced c u s (record { member = m; others = λ k p d. others k (within k p) d }))
      | inr m ↦ closed.no_clash (inl (c, s, λ k p. others k (within k p) (λ e. m (subst (Contains c) e p))))
    ]

-- a clause with two literals that aren't false in a closed set keeps it closed
pub IsClosed-with : (S : List ℕ → Type 0) (K : ℕ → Type 0) (clause : List ℕ) (a b : ℕ) → IsClosed S K → Contains clause a → Contains clause b → a ≢ b
    → (K (opposite_of a) → ⊥) → (K (opposite_of b) → ⊥) → IsClosed (With S clause) K
IsClosed-with S K clause a b closed has_a has_b differ free_a free_b = record {
  forced = λ c l s f. elim s [ inl t ↦ closed.forced c l t f | inr e ↦ absurd (never l (subst (λ (d : List ℕ). Forces d K l) e f)) ];
  no_clash = λ clash. no_clash clash;
}
  where
    never : (l : ℕ) → Forces clause K l → ⊥
    never l f = elim (cases_eq a l) [
      | inl e ↦ free_b (f.others b has_b (λ d. differ (e ∙ sym d)))
      | inr n ↦ free_a (f.others a has_a n)
    ]

    no_clash : Clashes (With S clause) K → ⊥
    no_clash (inl (c, inl s, f)) = closed.no_clash (inl (c, s, f))
    no_clash (inl (c, inr e, f)) = free_a (f a (subst (λ (d : List ℕ). Contains d a) (sym e) has_a))
    no_clash (inr k) = closed.no_clash (inr k)
