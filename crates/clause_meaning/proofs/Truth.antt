-- What assignments make true.
use Rattle.std.proofs.Common.{◌≡◌, ℕ, ◌⊎◌, inl, inr, List, [], ◌∷◌, Contains, Bool, true, false, not, refl, subst, ap, ◌∙◌}
use Rattle.std.proofs.lemmas.Bool.{cases_eq, both_ways}
use Rattle.clause_meaning.specs.Literals.{opposite_of, variable_of, is_present}
use Rattle.clause_meaning.specs.Refutation.{Forces, Clashes, Refutes, Reaches, Follows, OppositesOf}
use Rattle.clause_meaning.specs.Assignments.{IsTrueIn, Satisfies, SatisfiesAll, IsOutside, Separates, Inside}
use Rattle.clause_meaning.proofs.Members.{Contains-nil, Contains-cons_cases, Contains-head, Contains-tail}
use Rattle.clause_meaning.proofs.LiteralLaws.{opposite_of-opposite_of, variable_of-opposite_of, is_present-opposite_of}
use Rattle.clause_meaning.proofs.Chains.{Reaches-least, Reaches-given, Reaches-forced, Refutes-from_clash, clash_from_Refutes, Clashes-more}

not_ne : (b : Bool) → not b ≡ b → ⊥
not_ne true e = cc
not_ne false e = cc

pub not_both_true : (v : ℕ → Bool) (l : ℕ) → IsTrueIn v l → IsTrueIn v (opposite_of l) → ⊥
not_both_true v l p q =
    let same = ap v (variable_of-opposite_of l) in
    let differ = is_present-opposite_of l in
    not_ne (is_present l) (cc)

-- each literal or its opposite is true
pub true_or_opposite : (v : ℕ → Bool) (l : ℕ) → IsTrueIn v l ⊎ IsTrueIn v (opposite_of l)
true_or_opposite v l =
    let same = ap v (variable_of-opposite_of l) in
    let differ = is_present-opposite_of l in
    elim (two (v (variable_of l)) (is_present l)) [ inl e ↦ inl e | inr e ↦ inr (cc) ]
  where
    two : (a b : Bool) → (a ≡ b) ⊎ (a ≡ not b)
    two true true = inl refl
    two true false = inr refl
    two false true = inr refl
    two false false = inl refl

-- a clause that is satisfied forces only what is true
pub forced_is_true : (v : ℕ → Bool) (c : List ℕ) (l : ℕ) → Satisfies v c → Forces c (IsTrueIn v) l → IsTrueIn v l
forced_is_true v c l (k, m, t) f =
    elim (cases_eq k l) [
      | inl e ↦ subst (IsTrueIn v) e t
      | inr n ↦ absurd (not_both_true v k t (f.others k m n))
    ]

pub reached_is_true : (S : List ℕ → Type 0) (L : ℕ → Type 0) (v : ℕ → Bool) → SatisfiesAll v S → ((l : ℕ) → L l → IsTrueIn v l) → (l : ℕ) → Reaches S L l
    → IsTrueIn v l
reached_is_true S L v s t = Reaches-least S L (IsTrueIn v) t (λ c l m f. forced_is_true v c l (s c m) f)

pub no_true_clash : (S : List ℕ → Type 0) (v : ℕ → Bool) → SatisfiesAll v S → Clashes S (IsTrueIn v) → ⊥
no_true_clash S v s (inl (c, m, f)) = let w = s c m in not_both_true v w.0 w.2 (f w.0 w.1)
no_true_clash S v s (inr (l, p, q)) = not_both_true v l p q

pub refuted_is_false : (S : List ℕ → Type 0) (L : ℕ → Type 0) → Refutes S L → (v : ℕ → Bool) → SatisfiesAll v S → ((l : ℕ) → L l → IsTrueIn v l) → ⊥
refuted_is_false S L r v s t =
    no_true_clash S v s (Clashes-more S S (Reaches S L) (IsTrueIn v) (λ c m. m) (reached_is_true S L v s t) (clash_from_Refutes S L r))

-- a clause is satisfied, or the opposites of its literals are all true
pub satisfied_or_false : (v : ℕ → Bool) (c : List ℕ) → Satisfies v c ⊎ ((k : ℕ) → Contains c k → IsTrueIn v (opposite_of k))
satisfied_or_false v [] = inr (λ k m. absurd (Contains-nil k m))
satisfied_or_false v (x ∷ xs) =
    elim (true_or_opposite v x) [
      | inl t ↦ inl (x, Contains-head x xs x refl, t)
      | inr t ↦ elim (satisfied_or_false v xs) [
        | inl (k, m, e) ↦ inl (k, Contains-tail x xs k m, e)
        | inr f ↦ inr (λ k m. elim (Contains-cons_cases x xs k m) [
          | inl e ↦ subst (λ (y : ℕ). IsTrueIn v (opposite_of y)) e t
          | inr r ↦ f k r
        ])
      ]
    ]

pub following_is_true : (S : List ℕ → Type 0) (clause : List ℕ) → Follows S clause → (v : ℕ → Bool) → SatisfiesAll v S → Satisfies v clause
following_is_true S clause r v s =
    elim (satisfied_or_false v clause) [
      | inl w ↦ w
      | inr f ↦ absurd (refuted_is_false S (OppositesOf clause) r v s (λ l m. subst (IsTrueIn v) (opposite_of-opposite_of l) (f (opposite_of l) m)))
    ]

-- the literals of a scope that its clauses reach, and those outside that the assignment makes true
abbrev ReachedOrTrue : (ℕ → Bool) → (List ℕ → Type 0) → (ℕ → Type 0) → (ℕ → Bool) → ℕ → Type 0
ReachedOrTrue scope S L v l = ((scope (variable_of l) ≡ true) × Reaches (Inside scope S) L l) ⊎ ((scope (variable_of l) ≡ false) × IsTrueIn v l)

reached : (scope : ℕ → Bool) (S : List ℕ → Type 0) (L : ℕ → Type 0) (v : ℕ → Bool) (l : ℕ) → scope (variable_of l) ≡ true → ReachedOrTrue scope S L v l
    → Reaches (Inside scope S) L l
reached scope S L v l e (inl p) = p.1
reached scope S L v l e (inr p) = absurd (both_ways (scope (variable_of l)) p.0 e)

true_outside : (scope : ℕ → Bool) (S : List ℕ → Type 0) (L : ℕ → Type 0) (v : ℕ → Bool) (l : ℕ) → scope (variable_of l) ≡ false → ReachedOrTrue scope S L v l
    → IsTrueIn v l
true_outside scope S L v l e (inl p) = absurd (both_ways (scope (variable_of l)) e p.0)
true_outside scope S L v l e (inr p) = p.1

forced_inside : (scope : ℕ → Bool) (S : List ℕ → Type 0) (L : ℕ → Type 0) (v : ℕ → Bool) → Separates scope S
    → ((c : List ℕ) → S c → IsOutside scope c → Satisfies v c)
    → (c : List ℕ) (l : ℕ) → S c → Forces c (ReachedOrTrue scope S L v) l → ReachedOrTrue scope S L v l
forced_inside scope S L v separated satisfied c l s f =
    elim (separated c s) [
      | inl inside ↦ inl (
        inside l f.member,
        Reaches-forced (Inside scope S) L c l (s, inside)
            (record {
              member = f.member;
              others = λ k m n. reached scope S L v (opposite_of k) (ap scope (variable_of-opposite_of k) ∙ inside k m)
                  (f.others k m n);
            }),
      )
      | inr outside ↦ inr (
        outside l f.member,
        forced_is_true v c l (satisfied c s outside)
            (record {
              member = f.member;
              others = λ k m n. true_outside scope S L v (opposite_of k) (ap scope (variable_of-opposite_of k) ∙ outside k m)
                  (f.others k m n);
            }),
      )
    ]

clash_inside : (scope : ℕ → Bool) (S : List ℕ → Type 0) (L : ℕ → Type 0) (v : ℕ → Bool) → Separates scope S
    → ((c : List ℕ) → S c → IsOutside scope c → Satisfies v c)
    → Clashes S (ReachedOrTrue scope S L v) → Refutes (Inside scope S) L
clash_inside scope S L v separated satisfied (inl (c, s, f)) =
    elim (separated c s) [
      | inl inside ↦ Refutes-from_clash (Inside scope S) L (inl (
        c,
        (s, inside),
        λ k m. reached scope S L v (opposite_of k) (ap scope (variable_of-opposite_of k) ∙ inside k m) (f k m),
      ))
      | inr outside ↦ (let w = satisfied c s outside in absurd (not_both_true v w.0 w.2
          (true_outside scope S L v (opposite_of w.0) (ap scope (variable_of-opposite_of w.0) ∙ outside w.0 w.1) (f w.0 w.1))))
    ]
clash_inside scope S L v separated satisfied (inr (l, inl p, q)) =
    Refutes-from_clash (Inside scope S) L (inr (l, p.1, reached scope S L v (opposite_of l) (ap scope (variable_of-opposite_of l) ∙ p.0) q))
clash_inside scope S L v separated satisfied (inr (l, inr p, q)) =
    absurd (not_both_true v l p.1 (true_outside scope S L v (opposite_of l) (ap scope (variable_of-opposite_of l) ∙ p.0) q))

pub refuted_inside : (scope : ℕ → Bool) (S : List ℕ → Type 0) (L : ℕ → Type 0) (v : ℕ → Bool) → Separates scope S
    → ((l : ℕ) → L l → scope (variable_of l) ≡ true)
    → ((c : List ℕ) → S c → IsOutside scope c → Satisfies v c)
    → Refutes S L → Refutes (Inside scope S) L
refuted_inside scope S L v separated given satisfied r =
    clash_inside scope S L v separated satisfied
    (Clashes-more S S (Reaches S L) (ReachedOrTrue scope S L v) (λ c s. s)
    (Reaches-least S L (ReachedOrTrue scope S L v) (λ l g. inl (given l g, Reaches-given (Inside scope S) L l g))
    (forced_inside scope S L v separated satisfied))
    (clash_from_Refutes S L r))
