-- A walk over live clauses in order.
use Rattle.std.proofs.Common.{◌≡◌, ℕ, suc, ◌<◌, ◌≤◌, ◌+◌, inl, inr, List, [], ◌∷◌, ◌++◌, Contains, All, Bool, true, false, cond, not, eqb, Option, Some, None}
use Rattle.std.proofs.Common.{refl, subst, ap, ◌∙◌, arith}
use Rattle.std.proofs.lemmas.Bool.{ne_eqb, eq-eqb}
use Rattle.std.proofs.lemmas.List.Elements.{All-contains, Contains-append_cases, Contains-append_right, All-head, All-tail}
use Rattle.clause_meaning.proofs.Members.{Contains-nil, Contains-cons_cases, Contains-head}
use Rattle.clause_arena.specs.declared.clause_ref.ClauseRef.{ClauseRef}
use Rattle.clause_arena.specs.State.{HeldClause, AreAscending, without}
use Rattle.clause_arena.specs.Walk.{IsFirstFrom}
use Rattle.clause_arena.proofs.Changes.{without_none}

-- the references ascend from this number on
abbrev pub RisesFrom : ℕ → List HeldClause → Type 0
RisesFrom low [] = Unit {0}
RisesFrom low (h ∷ hs) = (low ≤ h.reference) × RisesFrom (h.reference + 1) hs

-- the reference is that of the first clause, none where there is none
abbrev pub Starts : List HeldClause → Option ClauseRef → Type 0
Starts live None = live ≡ []
Starts live (Some clause) = (h : HeldClause) × (others : List HeldClause) × (live ≡ h ∷ others) × (h.reference ≡ clause.place)

pub RisesFrom-above : (low : ℕ) (live : List HeldClause) (h : HeldClause) → RisesFrom low live → Contains live h → low ≤ h.reference
RisesFrom-above low [] h rises m = absurd (Contains-nil h m)
RisesFrom-above low (x ∷ xs) h (here, rest) m =
    elim (Contains-cons_cases x xs h m) [
      | inl e ↦ subst (λ (y : HeldClause). low ≤ y.reference) e here
      | inr t ↦ (let above = RisesFrom-above (x.reference + 1) xs h rest t in omega arith)
    ]

pub RisesFrom-ascending : (low : ℕ) (live : List HeldClause) → ((h : HeldClause) → Contains live h → low ≤ h.reference) → AreAscending live → RisesFrom low live
RisesFrom-ascending low [] above ascending = tt
RisesFrom-ascending low (x ∷ xs) above ascending = (
  above x (Contains-head x xs x refl),
  RisesFrom-ascending (x.reference + 1) xs (λ h (k, p, e). let less = ascending 0 (suc k) h (omega arith) (omega arith) in
      subst (λ (y : HeldClause). x.reference + 1 ≤ y.reference) e (omega arith)) (λ i j d p q. ascending (suc i) (suc j) d (omega arith) (omega arith)),
)

-- what comes first behind clauses that are below a number
pub Starts-behind : (before rest : List HeldClause) (low : ℕ) (at : Option ClauseRef) → All (λ h. h.reference < low) before → RisesFrom low rest
    → IsFirstFrom (before ++ rest) low at → Starts rest at
Starts-behind before [] low None below rises first = refl
Starts-behind before [] low (Some r) below rises (up, small, (k, x, p, is, same), least) =
    elim (Contains-append_cases before [] x (k, p, is)) [
      | inl m ↦ absurd (let less = All-contains (λ (h : HeldClause). h.reference < low) before x below m in omega arith)
      | inr m ↦ absurd (Contains-nil x m)
    ]
Starts-behind before (h ∷ hs) low None below (here, rest) first =
    absurd (let less = All-contains (λ (x : HeldClause). x.reference < low) (before ++ h ∷ hs) h first
    (Contains-append_right before (h ∷ hs) h (Contains-head h hs h refl)) in omega arith)
Starts-behind before (h ∷ hs) low (Some r) below (here, rest) (up, small, (k, x, p, is, same), least) =
    let head = All-contains (λ (y : HeldClause). y.reference < r.place → y.reference < low) (before ++ h ∷ hs) h least
    (Contains-append_right before (h ∷ hs) h (Contains-head h hs h refl)) in (
      h,
      hs,
      refl,
      elim (Contains-append_cases before (h ∷ hs) x (k, p, is)) [
        | inl m ↦ absurd (let less = All-contains (λ (y : HeldClause). y.reference < low) before x below m in omega arith)
        | inr m ↦ elim (Contains-cons_cases h hs x m) [
          | inl e ↦ ap (λ (y : HeldClause). y.reference) e ∙ same
          | inr t ↦ absurd (let above = RisesFrom-above (h.reference + 1) hs x rest t in after head above)
        ]
      ],
    )
  where
    after : (h.reference < r.place → h.reference < low) → h.reference + 1 ≤ x.reference → ⊥
    after head above = let low_again = head (omega arith) in omega arith

-- the clause in the middle goes
pub without_middle : (before : List HeldClause) (h : HeldClause) (rest : List HeldClause) → All (λ x. x.reference < h.reference) before
    → RisesFrom (h.reference + 1) rest
    → without (before ++ h ∷ rest) h.reference ≡ before ++ rest
without_middle [] h rest below rises =
    step (eqb h.reference h.reference) (eq-eqb h.reference h.reference refl)
    (without_none rest h.reference (λ x m e. let above = RisesFrom-above (h.reference + 1) rest x rises m in omega arith))
  where
    step : (b : Bool) → b ≡ true → without rest h.reference ≡ rest → cond (not b) (h ∷ without rest h.reference) (without rest h.reference) ≡ rest
    step true e same = same
    step false e same = absurd (cc)
without_middle (x ∷ xs) h rest below rises =
    step (eqb x.reference h.reference) (ne_eqb x.reference h.reference
    (λ e. let less = All-head (λ (y : HeldClause). y.reference < h.reference) x xs below in omega arith))
    (without_middle xs h rest (All-tail (λ (y : HeldClause). y.reference < h.reference) x xs below) rises)
  where
    step : (b : Bool) → b ≡ false → without (xs ++ h ∷ rest) h.reference ≡ xs ++ rest
        → cond (not b) (x ∷ without (xs ++ h ∷ rest) h.reference) (without (xs ++ h ∷ rest) h.reference) ≡ x ∷ (xs ++ rest)
    step true e same = absurd (cc)
    step false e same = ap (λ (ys : List HeldClause). x ∷ ys) same
