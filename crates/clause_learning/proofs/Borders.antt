-- What holds inside a scope, where no clause crosses its border, holds among all clauses.
use Rattle.std.proofs.Common.{◌≡◌, ◌≢◌, ℕ, inl, inr, List, [], ◌∷◌, Contains, Bool, true, refl, ap, ◌∙◌, get_or}
use Rattle.std.proofs.lemmas.Bool.{both_ways}
use Rattle.std.proofs.lemmas.List.Elements.{All-contains, All-weaker, Contains-get_or}
use Rattle.clause_meaning.specs.Literals.{opposite_of, variable_of}
use Rattle.clause_meaning.specs.Refutation.{Reaches, ContainsOneOf, OppositesOf}
use Rattle.clause_meaning.specs.Assignments.{IsInside, Separates, Inside}
use Rattle.clause_meaning.proofs.LiteralLaws.{variable_of-opposite_of}
use Rattle.clause_meaning.proofs.Members.{Contains-head}
use Rattle.clause_meaning.proofs.Chains.{Reaches-least, Reaches-given, Reaches-forced, Refutes-more}
use Rattle.clause_meaning.specs.Learning.{Nothing, OccursIn, IsLearnable}

pub Reaches-inside : (scope : ℕ → Bool) (S : List ℕ → Type 0) (L : ℕ → Type 0) → Separates scope S → (l : ℕ) → Reaches S L l → scope (variable_of l) ≡ true
    → Reaches (Inside scope S) L l
Reaches-inside scope S L separated =
    Reaches-least S L (λ l. scope (variable_of l) ≡ true → Reaches (Inside scope S) L l) (λ l g _. Reaches-given (Inside scope S) L l g)
    (λ c l s f here. elim (separated c s) [
      | inl inside ↦ Reaches-forced (Inside scope S) L c l (s, inside) (record {
        member = f.member;
        others = λ k m n. f.others k m n (ap scope (variable_of-opposite_of k) ∙ inside k m);
      })
      | inr outside ↦ absurd (both_ways (scope (variable_of l)) (outside l f.member) here)
    ])

has_literal : (c : List ℕ) → c ≢ [] → (l : ℕ) × Contains c l
has_literal [] n = absurd (n refl)
has_literal (x ∷ xs) n = (x, Contains-head x xs x refl)

-- a clause inside contains only clauses inside, where no clause is empty
pub ContainsOneOf-inside : (scope : ℕ → Bool) (S : List ℕ → Type 0) (clause : List ℕ) → Separates scope S → ((c : List ℕ) → S c → c ≢ [])
    → IsInside scope clause → ContainsOneOf S clause → ContainsOneOf (Inside scope S) clause
ContainsOneOf-inside scope S clause separated some inside (c, s, within) =
    elim (separated c s) [
      | inl i ↦ (c, (s, i), within)
      | inr o ↦ (let w = has_literal c (some c s) in absurd (both_ways (scope (variable_of w.0)) (o w.0 w.1) (inside w.0 (within w.0 w.1))))
    ]

-- a clause that may be learned inside a scope may be learned among all clauses
pub IsLearnable-outside : (scope : ℕ → Bool) (S : List ℕ → Type 0) (clause : List ℕ) → Separates scope S → ((c : List ℕ) → S c → c ≢ [])
    → IsLearnable (Inside scope S) clause → IsLearnable S clause
IsLearnable-outside scope S clause separated some h = record {
  not_empty = h.not_empty;
  distinct = h.distinct;
  follows = Refutes-more (Inside scope S) S (OppositesOf clause) (OppositesOf clause) (λ c s. s.0) (λ l m. m) h.follows;
  new = λ one. h.new (ContainsOneOf-inside scope S clause separated some inside one);
  occur = All-weaker (OccursIn (Inside scope S)) (OccursIn S) (λ l (c, s, m). (c, s.0, m)) clause h.occur;
  undecided = λ k d p. (
    λ r. (h.undecided k d p).0 (Reaches-inside scope S Nothing separated (get_or clause k d) r (inside (get_or clause k d) (Contains-get_or clause k d p))),
    λ r. (h.undecided k d p).1 (Reaches-inside scope S Nothing separated (opposite_of (get_or clause k d)) r
        (ap scope (variable_of-opposite_of (get_or clause k d)) ∙ inside (get_or clause k d) (Contains-get_or clause k d p))),
  );
  joins_nothing = λ m never part parts free. h.joins_nothing m (λ (c, s, q). never (c, s.0, q)) part (λ c s f. parts c s.0 f) free;
}
  where
    inside : IsInside scope clause
    inside l m = (let one : OccursIn (Inside scope S) l = All-contains (OccursIn (Inside scope S)) clause l h.occur m in one.1.1 l one.2)
