-- Resolution of clauses joins no variables that the clauses without m don't join, where m is never present.
use Rattle.std.proofs.Common.{◌≡◌, ◌≢◌, ℕ, ◌*◌, ◌⊎◌, inl, inr, List, [], ◌∷◌, Contains, refl, sym, subst, ap, ◌∙◌, arith}
use Rattle.std.proofs.lemmas.Bool.{cases_eq, both_ways}
use Rattle.clause_meaning.specs.Literals.{opposite_of, variable_of}
use Rattle.clause_meaning.specs.Refutation.{Reaches}
use Rattle.clause_meaning.proofs.LiteralLaws.{variable_of-opposite_of}
use Rattle.clause_meaning.proofs.Members.{Contains-nil, Contains-cons_cases, Contains-head, Contains-tail}
use Rattle.clause_meaning.proofs.Chains.{Reaches-least}
use Rattle.clause_meaning.specs.Learning.{Nothing, OccursIn, IsFreeOf, IsOneSided, JoinsNothing, is_in}
use Rattle.clause_learning.specs.Resolving.{Has, JoinsNone}

-- one of a literal and its opposite is the present literal
is_twice : (m l : ℕ) → variable_of l ≡ m → (l ≡ 2 * m) ⊎ (opposite_of l ≡ 2 * m)
unfolding opposite_of variable_of
is_twice m l e = grind arith

pub cases_has : (m : ℕ) (clause : List ℕ) → Has m clause ⊎ IsFreeOf m clause
cases_has m [] = inr (λ l p. absurd (Contains-nil l p))
cases_has m (x ∷ xs) =
    elim (cases_eq (variable_of x) m) [
      | inl e ↦ inl (x, Contains-head x xs x refl, e)
      | inr n ↦ elim (cases_has m xs) [
        | inl (l, p, e) ↦ inl (l, Contains-tail x xs l p, e)
        | inr f ↦ inr (λ l p. elim (Contains-cons_cases x xs l p) [ inl e ↦ subst (λ (y : ℕ). variable_of y ≢ m) e n | inr t ↦ f l t ])
      ]
    ]

-- what is reached with no assumption stands in a clause
pub reached_occurs : (S : List ℕ → Type 0) (l : ℕ) → Reaches S Nothing l → OccursIn S l
reached_occurs S l r = Reaches-least S Nothing (OccursIn S) (λ k g. absurd g) (λ c k s f. (c, s, f.member)) l r

-- a literal of m that occurs is the absent one, so its opposite doesn't occur
opposite_absent : (S : List ℕ → Type 0) (m l : ℕ) → (OccursIn S (2 * m) → ⊥) → variable_of l ≡ m → OccursIn S l → OccursIn S (opposite_of l) → ⊥
opposite_absent S m l never e p q =
    elim (is_twice m l e) [ inl t ↦ never (subst (OccursIn S) t p) | inr t ↦ never (subst (OccursIn S) t q) ]

pub JoinsNone-start : (S : List ℕ → Type 0) (c clause : List ℕ) → S c → ((k : ℕ) → Contains clause k → Contains c k)
    → ((k : ℕ) → Contains c k → Contains clause k ⊎ Reaches S Nothing (opposite_of k)) → JoinsNone S clause
JoinsNone-start S c clause s within split m never part parts =
    elim (cases_has m c) [
      | inl (l, p, e) ↦ elim (split l p) [
        | inl q ↦ inl (l, q, e)
        | inr r ↦ absurd (opposite_absent S m l never e (c, s, p) (reached_occurs S (opposite_of l) r))
      ]
      | inr free ↦ inr (elim (parts c s free) [ inl i ↦ inl (λ l p. i l (within l p)) | inr o ↦ inr (λ l p. o l (within l p)) ])
    ]

pub JoinsNone-step : (S : List ℕ → Type 0) (clause d next : List ℕ) (p : ℕ) → JoinsNone S clause → S d
    → ((k : ℕ) → Contains clause k → OccursIn S k) → Contains clause p → Contains d (opposite_of p)
    → ((k : ℕ) → Contains clause k → k ≢ p → Contains next k)
    → ((k : ℕ) → Contains d k → k ≢ opposite_of p → Contains next k ⊎ Reaches S Nothing (opposite_of k))
    → ((k : ℕ) → Contains next k → Contains clause k ⊎ Contains d k) → JoinsNone S next
JoinsNone-step S clause d next p joins s occurs has has_opposite keeps split from m never part parts =
    elim (joins m never part parts) [
      | inl (l, q, e) ↦ elim (cases_eq l p) [
        | inl same ↦ absurd (opposite_absent S m p never (subst (λ (y : ℕ). variable_of y ≡ m) same e) (occurs p has) (d, s, has_opposite))
        | inr n ↦ inl (l, keeps l q n, e)
      ]
      | inr sided ↦ elim (cases_has m d) [
        | inl (l, q, e) ↦ elim (cases_eq l (opposite_of p)) [
          | inl same ↦ absurd (opposite_absent S m p never (sym (variable_of-opposite_of p) ∙ (ap variable_of (sym same) ∙ e)) (occurs p has)
              (d, s, has_opposite))
          | inr n ↦ elim (split l q n) [
            | inl t ↦ inl (l, t, e)
            | inr r ↦ absurd (opposite_absent S m l never e (d, s, q) (reached_occurs S (opposite_of l) r))
          ]
        ]
        | inr free ↦ inr (together sided (parts d s free))
      ]
    ]
  where
    here : is_in part (variable_of (opposite_of p)) ≡ is_in part (variable_of p)
    here = ap (is_in part) (variable_of-opposite_of p)

    together : IsOneSided (is_in part) clause → IsOneSided (is_in part) d → IsOneSided (is_in part) next
    together (inl i) (inl j) = inl (λ l q. elim (from l q) [ inl t ↦ i l t | inr t ↦ j l t ])
    together (inr o) (inr u) = inr (λ l q. elim (from l q) [ inl t ↦ o l t | inr t ↦ u l t ])
    together (inl i) (inr u) = absurd (both_ways (is_in part (variable_of p)) (sym here ∙ u (opposite_of p) has_opposite) (i p has))
    together (inr o) (inl j) = absurd (both_ways (is_in part (variable_of p)) (o p has) (sym here ∙ j (opposite_of p) has_opposite))

pub JoinsNone-nothing : (S : List ℕ → Type 0) (clause : List ℕ) → JoinsNone S clause → JoinsNothing S clause
JoinsNone-nothing S clause joins m never part parts free =
    elim (joins m never part parts) [ inl (l, p, e) ↦ absurd (free l p e) | inr sided ↦ sided ]
