-- What the levels of entries know, one entry and one cut at a time.
use Rattle.std.proofs.Common.{◌≡◌, ℕ, ◌<◌, ◌≤◌, ◌+◌, ◌⊎◌, inl, inr, List, ◌++◌, get_or, Contains, All, sym, ap, ◌∙◌, arith}
use Rattle.std.proofs.lemmas.Bool.{cases_lt, cases_order}
use Rattle.std.proofs.lemmas.List.{get_or_default}
use Rattle.std.proofs.lemmas.List.Elements.{All-contains, Contains-append_left, Contains-append_cases}
use Rattle.clause_meaning.specs.Literals.{opposite_of, variable_of}
use Rattle.cdcl_trail.specs.declared.trail_entry.TrailEntry.{TrailEntry}
use Rattle.cdcl_trail.specs.Assigned.{IsTrueOn}
use Rattle.cdcl_trail.specs.Table.{AreDistinct}
use Rattle.clause_learning.specs.Levels.{IsKnownAt, IsOnLevel, BecameFalse}

pub known_true : (entries : List TrailEntry) (n l : ℕ) → IsKnownAt entries n l → IsTrueOn entries l
known_true entries n l (k, e, p, is, (same, up)) = (k, e, p, is, same)

pub true_known : (entries : List TrailEntry) (n l : ℕ) → All (λ (e : TrailEntry). e.level ≤ n) entries → IsTrueOn entries l → IsKnownAt entries n l
true_known entries n l up (k, e, p, is, same) = (k, e, p, is, (same, All-contains (λ (x : TrailEntry). x.level ≤ n) entries e up (k, p, is)))

pub known_later : (entries : List TrailEntry) (m n l : ℕ) → m ≤ n → IsKnownAt entries m l → IsKnownAt entries n l
known_later entries m n l h (k, e, p, is, (same, up)) = (k, e, p, is, (same, omega (arith, h, up)))

pub on_level_known : (entries : List TrailEntry) (n l : ℕ) → IsOnLevel entries n l → IsKnownAt entries n l
on_level_known entries n l (k, e, p, is, (same, at)) = (k, e, p, is, (same, omega (arith, at)))

pub on_level_true : (entries : List TrailEntry) (n l : ℕ) → IsOnLevel entries n l → IsTrueOn entries l
on_level_true entries n l (k, e, p, is, (same, at)) = (k, e, p, is, same)

-- what is true among entries up to a level is of the level, or known before it
pub known_before_or_on : (entries : List TrailEntry) (n l : ℕ) → All (λ (e : TrailEntry). e.level ≤ n + 1) entries → IsTrueOn entries l
    → IsKnownAt entries n l ⊎ IsOnLevel entries (n + 1) l
known_before_or_on entries n l up (k, e, p, is, same) =
    let top : e.level ≤ n + 1 = All-contains (λ (x : TrailEntry). x.level ≤ n + 1) entries e up (k, p, is) in
    elim (cases_lt e.level (n + 1)) [
      | inl h ↦ inl (k, e, p, is, (same, omega (arith, h)))
      | inr h ↦ inr (k, e, p, is, (same, omega (arith, h, top)))
    ]

-- later entries, all above the level, add nothing to what it knows
pub IsKnownAt-append : (entries more : List TrailEntry) (n l : ℕ) → IsKnownAt entries n l → IsKnownAt (entries ++ more) n l
IsKnownAt-append entries more n l (k, e, p, is, h) = (let m = Contains-append_left entries more e (k, p, is) in (m.0, e, m.1, m.2, h))

pub IsKnownAt-append_above : (entries more : List TrailEntry) (n l : ℕ) → All (λ (e : TrailEntry). n < e.level) more → IsKnownAt (entries ++ more) n l
    → IsKnownAt entries n l
IsKnownAt-append_above entries more n l above (k, e, p, is, (same, up)) =
    elim (Contains-append_cases entries more e (k, p, is)) [
      | inl m ↦ (m.0, e, m.1, m.2, (same, up))
      | inr m ↦ (let high : n < e.level = All-contains (λ (x : TrailEntry). n < x.level) more e above m in absurd (omega (arith, high, up)))
    ]

-- each variable has one entry
pub same_entry : (entries : List TrailEntry) (a b : TrailEntry) → AreDistinct entries → Contains entries a → Contains entries b
    → variable_of a.literal ≡ variable_of b.literal → a ≡ b
same_entry entries a b distinct (i, p, is) (j, q, at) same =
    elim (cases_order i j) [
      | inl e ↦ sym is ∙ (get_or_default entries i a b p ∙ (ap (λ (k : ℕ). get_or entries k b) e ∙ at))
      | inr (inl h) ↦ absurd (distinct i j a h q (ap variable is ∙ (same ∙ ap variable (sym (get_or_default entries j a b q ∙ at)))))
      | inr (inr h) ↦ absurd (distinct j i b h p (ap variable at ∙ (sym same ∙ ap variable (sym (get_or_default entries i b a p ∙ is)))))
    ]
  where
    variable : TrailEntry → ℕ
    variable e = variable_of e.literal

-- a literal is on no level above one that knows it
pub on_level_first : (entries : List TrailEntry) (m n l : ℕ) → AreDistinct entries → IsOnLevel entries m l → IsKnownAt entries n l → m ≤ n
on_level_first entries m n l distinct (i, a, p, is, (same_a, at)) (j, b, q, was, (same_b, up)) =
    let one : a ≡ b = same_entry entries a b distinct (i, p, is) (j, q, was) (ap variable_of (same_a ∙ sym same_b)) in
    let level : a.level ≡ b.level = ap (λ (e : TrailEntry). e.level) one in
    omega (arith, level, at, up)

pub BecameFalse-from : (entries : List TrailEntry) (n l : ℕ) → AreDistinct entries → IsOnLevel entries n (opposite_of l) → BecameFalse entries n l
BecameFalse-from entries n l distinct on = record {
  on_level = on;
  not_before = λ k below known. (let first = on_level_first entries n k (opposite_of l) distinct on known in omega (arith, first, below));
}
