-- Entries, one at a time.
use Rattle.std.proofs.Common.{◌≡◌, ℕ, suc, ◌-◌, length, map, take, arith, ◌⊎◌, inl, inr, List, [], ◌∷◌, ◌++◌, Contains, refl, subst, ap, ◌∙◌}
use Rattle.std.proofs.lemmas.Bool.{cases_eq}
use Rattle.std.proofs.lemmas.List.{map-append, take_at, length_push}
use Rattle.std.proofs.lemmas.List.Elements.{Contains-append_left, Contains-push_cases}
use Rattle.clause_meaning.specs.Literals.{opposite_of, variable_of}
use Rattle.clause_meaning.proofs.LiteralLaws.{same_variable}
use Rattle.clause_meaning.proofs.Members.{Contains-cons_cases}
use Rattle.cdcl_trail.specs.declared.trail_entry.TrailEntry.{TrailEntry}
use Rattle.cdcl_trail.specs.Assigned.{IsTrueOn, IsUnassigned}
use Rattle.cdcl_trail.specs.Values.{IsAssigned}

pub true_by : (entries : List TrailEntry) (e : TrailEntry) → Contains entries e → IsTrueOn entries e.literal
true_by entries e (k, p, is) = (k, e, p, is, refl)

-- one more entry at the end
pub IsTrueOn-push_cases : (entries : List TrailEntry) (e : TrailEntry) (l : ℕ) → IsTrueOn (entries ++ e ∷ []) l → IsTrueOn entries l ⊎ (e.literal ≡ l)
IsTrueOn-push_cases entries e l (k, x, p, is, same) =
    elim (Contains-push_cases entries e x (k, p, is)) [
      | inl m ↦ inl (m.0, x, m.1, m.2, same)
      | inr d ↦ inr (ap (λ (y : TrailEntry). y.literal) d ∙ same)
    ]

pub IsTrueOn-append : (entries more : List TrailEntry) (l : ℕ) → IsTrueOn entries l → IsTrueOn (entries ++ more) l
IsTrueOn-append entries more l (k, x, p, is, same) = let m = Contains-append_left entries more x (k, p, is) in (m.0, x, m.1, m.2, same)

-- a literal that isn't true, and whose opposite isn't, has an unassigned variable
pub unassigned_from_free : (entries : List TrailEntry) (l : ℕ) → (IsTrueOn entries l → ⊥) → (IsTrueOn entries (opposite_of l) → ⊥)
    → IsUnassigned entries (variable_of l)
unassigned_from_free entries l n m k same on =
    elim (same_variable k l same) [ inl e ↦ n (subst (IsTrueOn entries) e on) | inr e ↦ m (subst (IsTrueOn entries) e on) ]

-- an unassigned variable has no entry
pub no_entry : (entries : List TrailEntry) (v : ℕ) (e : TrailEntry) → IsUnassigned entries v → Contains entries e → variable_of e.literal ≡ v → ⊥
no_entry entries v e unassigned m same = unassigned e.literal same (true_by entries e m)

-- the literals without the newest
pub popped_literals : (entries : List TrailEntry) (e : TrailEntry) (literals new : List ℕ) (n : ℕ)
    → literals ≡ map (λ (x : TrailEntry). x.literal) (entries ++ e ∷ [])
    → new ≡ take n literals → n ≡ length literals - 1 → new ≡ map (λ (x : TrailEntry). x.literal) entries
popped_literals entries e literals new n is cut short =
    let both : literals ≡ map (λ (x : TrailEntry). x.literal) entries ++ e.literal ∷ [] = is ∙ map-append (λ (x : TrailEntry). x.literal) entries (e ∷ []) in
    let long = ap length both ∙ length_push (map (λ (x : TrailEntry). x.literal) entries) e.literal in
    cut ∙ (ap (take n) both ∙ take_at (map (λ (x : TrailEntry). x.literal) entries) (e.literal ∷ []) n (omega (arith, long, short)))

-- a variable is assigned or not
pub assigned_or_not : (entries : List TrailEntry) (v : ℕ) → IsAssigned entries v ⊎ IsUnassigned entries v
assigned_or_not [] v = inr (λ l same (k, x, p, is, lit). absurd (omega arith))
assigned_or_not (e ∷ es) v =
    elim (cases_eq (variable_of e.literal) v) [
      | inl same ↦ inl (0, e, omega arith, refl, same)
      | inr n ↦ elim (assigned_or_not es v) [
        | inl (k, x, p, is, same) ↦ inl (suc k, x, omega arith, is, same)
        | inr free ↦ inr (λ l same (k, x, p, is, lit). elim (Contains-cons_cases e es x (k, p, is)) [
          | inl d ↦ n (ap (λ (y : TrailEntry). variable_of y.literal) d ∙ (ap variable_of lit ∙ same))
          | inr m ↦ free l same (m.0, x, m.1, m.2, lit)
        ])
      ]
    ]
