-- How the levels on which literals became false are told.
use Rattle.std.proofs.Common.{◌≡◌, ◌≢◌, ℕ, ◌<◌, ◌≤◌, ◌+◌, max, ◌⊎◌, inl, inr, List, [], length, take, get_or, Contains, refl, sym, subst, ap, ◌∙◌, arith}
use Rattle.std.proofs.lemmas.List.{get_or_default}
use Rattle.clause_meaning.specs.Literals.{opposite_of, variable_of}
use Rattle.clause_meaning.proofs.LiteralLaws.{opposite_of-ne, variable_of-opposite_of}
use Rattle.clause_meaning.proofs.Members.{Contains-nil, Contains-take_more_cases, Contains-take_more_left, Contains-take_more_at}
use Rattle.cdcl_trail.specs.declared.trail_entry.TrailEntry.{TrailEntry}
use Rattle.cdcl_trail.specs.Assigned.{IsTrueOn, IsUnassigned}
use Rattle.cdcl_trail.specs.Table.{AreDistinct}
use Rattle.cdcl_trail.specs.Values.{IsAssigned, HasLevel}
use Rattle.clause_learning.specs.Levels.{IsKnownAt, IsOnLevel, BecameFalse}
use Rattle.clause_learning.specs.Resolving.{IsOpen}
use Rattle.clause_learning.proofs.LevelFacts.{same_entry, BecameFalse-from, known_later, on_level_known, on_level_first}

pub assigned_by : (entries : List TrailEntry) (l : ℕ) → IsTrueOn entries (opposite_of l) → IsAssigned entries (variable_of l)
assigned_by entries l (k, e, p, is, same) = (k, e, p, is, ap variable_of same ∙ variable_of-opposite_of l)

pub BecameFalse-by_level : (entries : List TrailEntry) (n l : ℕ) → AreDistinct entries → IsTrueOn entries (opposite_of l) → HasLevel entries (variable_of l) n
    → BecameFalse entries n l
BecameFalse-by_level entries n l distinct (k, x, p, is, same) (e, m, v, at) =
    let one : x ≡ e = same_entry entries x e distinct (k, p, is) m (ap variable_of same ∙ (variable_of-opposite_of l ∙ sym v)) in
    BecameFalse-from entries n l distinct (k, x, p, is, (same, ap (λ (y : TrailEntry). y.level) one ∙ at))

-- a literal and its opposite aren't both true
pub not_both : (entries : List TrailEntry) (l : ℕ) → AreDistinct entries → IsTrueOn entries l → IsTrueOn entries (opposite_of l) → ⊥
not_both entries l distinct (i, a, p, is, same_a) (j, b, q, at, same_b) =
    let one : a ≡ b = same_entry entries a b distinct (i, p, is) (j, q, at)
    (ap variable_of same_a ∙ (sym (variable_of-opposite_of l) ∙ sym (ap variable_of same_b))) in
    opposite_of-ne l (sym same_b ∙ (sym (ap (λ (y : TrailEntry). y.literal) one) ∙ same_a))

-- the highest level of the literals but one, so far
pub record IsHighest (entries : List TrailEntry) (literals : List ℕ) (except highest : ℕ) : Type 0 where
  pub known : (k : ℕ) → Contains literals k → k ≢ except → IsKnownAt entries highest (opposite_of k)
  pub reached : (highest ≡ 0) ⊎ ((k : ℕ) × Contains literals k × (k ≢ except) × BecameFalse entries highest k)

pub IsHighest-none : (entries : List TrailEntry) (except : ℕ) → IsHighest entries [] except 0
IsHighest-none entries except = record { known = λ k m n. absurd (Contains-nil k m); reached = inl refl }

-- the greater of two numbers
max_cases : (a b m : ℕ) → m ≡ max a b → ((m ≡ a) × (b ≤ m)) ⊎ ((m ≡ b) × (a ≤ m))
max_cases a b m e = grind arith

pub IsHighest-more : (entries : List TrailEntry) (literals : List ℕ) (i except highest level next : ℕ) → i < length literals
    → IsHighest entries (take i literals) except highest
    → (get_or literals i 0 ≢ except → IsKnownAt entries level (opposite_of (get_or literals i 0)))
    → (level ≡ 0) ⊎ ((get_or literals i 0 ≢ except) × BecameFalse entries level (get_or literals i 0))
    → next ≡ max highest level → IsHighest entries (take (i + 1) literals) except next
IsHighest-more entries literals i except highest level next below before known reached is = record {
  known = λ k m n. elim (Contains-take_more_cases literals i 0 k below m) [
    | inl t ↦ known_later entries highest next (opposite_of k) (elim (max_cases highest level next is) [ inl (e, b) ↦ omega arith | inr (e, b) ↦ b ])
        (before.known k t n)
    | inr e ↦ known_later entries level next (opposite_of k) (elim (max_cases highest level next is) [ inl (d, b) ↦ b | inr (d, b) ↦ omega arith ])
        (subst (λ (y : ℕ). IsKnownAt entries level (opposite_of y)) e (known (λ d. n (sym e ∙ d))))
  ];
  reached = elim (max_cases highest level next is) [
    | inl (e, b) ↦ elim before.reached [
      | inl z ↦ inl (e ∙ z)
      | inr (k, m, n, f) ↦ inr (k, Contains-take_more_left literals i k m, n, subst (λ (y : ℕ). BecameFalse entries y k) (sym e) f)
    ]
    | inr (e, b) ↦ elim reached [
      | inl z ↦ inl (e ∙ z)
      | inr (n, f) ↦ inr (
        get_or literals i 0,
        Contains-take_more_at literals i (get_or literals i 0) below
            (get_or_default literals i (get_or literals i 0) 0 below),
        n,
        subst (λ (y : ℕ). BecameFalse entries y (get_or literals i 0)) (sym e) f,
      )
    ]
  ];
}

-- a literal that is false is open exactly where its level is above 0
pub open_by_level : (entries : List TrailEntry) (n l : ℕ) → 0 < n → IsTrueOn entries (opposite_of l) → BecameFalse entries n l → IsOpen entries l
open_by_level entries n l above on f = record { is_false = on; above = f.not_before 0 above }

pub fixed_by_level : (entries : List TrailEntry) (n l : ℕ) → n ≤ 0 → BecameFalse entries n l → IsKnownAt entries 0 (opposite_of l)
fixed_by_level entries n l low f = known_later entries n 0 (opposite_of l) low (on_level_known entries n (opposite_of l) f.on_level)

-- an unassigned literal isn't false
pub unassigned_not_false : (entries : List TrailEntry) (l : ℕ) → IsUnassigned entries (variable_of l) → IsTrueOn entries (opposite_of l) → ⊥
unassigned_not_false entries l free on = free (opposite_of l) (variable_of-opposite_of l) on

-- a literal that became false on a level is of this level alone
pub on_level_at : (entries : List TrailEntry) (n m l : ℕ) → n ≡ m → BecameFalse entries n l → IsOnLevel entries m (opposite_of l)
on_level_at entries n m l same f = subst (λ (k : ℕ). IsOnLevel entries k (opposite_of l)) same f.on_level

pub not_on_level : (entries : List TrailEntry) (n m l : ℕ) → AreDistinct entries → n ≢ m → BecameFalse entries n l → IsOnLevel entries m (opposite_of l) → ⊥
not_on_level entries n m l distinct other f on =
    let up = on_level_first entries m n (opposite_of l) distinct on (on_level_known entries n (opposite_of l) f.on_level) in
    let down = on_level_first entries n m (opposite_of l) distinct f.on_level (on_level_known entries m (opposite_of l) on) in
    other (omega (arith, up, down))
