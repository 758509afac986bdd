-- The values that a trail gives the variables.
use Rattle.std.proofs.Common.{◌≡◌, ℕ, ◌*◌, List, Bool, true, false, eqb, Option, Some, None, refl, sym, subst, ◌∙◌, arith}
use Rattle.std.specs.Prelude.{unwrap_or}
use Rattle.std.proofs.lemmas.Bool.{eq-eqb, eqb-true}
use Rattle.std.proofs.lemmas.List.Folds.{Any-from_list_any, list_any-from_Any}
use Rattle.clause_meaning.specs.Literals.{variable_of, is_present}
use Rattle.cdcl_trail.specs.declared.trail_entry.TrailEntry.{TrailEntry}
use Rattle.cdcl_trail.specs.Assigned.{IsTrueOn}
use Rattle.cdcl_trail.specs.Values.{IsValue}
use Rattle.cdcl_trail.specs.Table.{AreDistinct}
use Rattle.clause_meaning.proofs.Members.{Contains-map, Contains-map_cases}
use Rattle.clause_learning.proofs.HighestLevel.{not_both}
use Rattle.cdcl_core.specs.State.{value_in}
use Rattle.cdcl_core.specs.Shown.{literals_on}

-- the present literal of a variable is twice the variable
pub twice_of : (l v : ℕ) → variable_of l ≡ v → is_present l ≡ true → l ≡ 2 * v
unfolding variable_of is_present
twice_of l v is present = grind arith

-- the value of a variable by the literals of the entries
abbrev pub value_on : List TrailEntry → ℕ → Bool
value_on entries v = value_in (literals_on entries) v

pub value_on-true : (entries : List TrailEntry) (v : ℕ) → IsTrueOn entries (2 * v) → value_on entries v ≡ true
value_on-true entries v (k, e, p, is, same) =
    let m = Contains-map (λ (x : TrailEntry). x.literal) entries e (k, p, is) in
    list_any-from_Any (λ l. eqb l (2 * v)) (literals_on entries) (m.0, e.literal, m.1, m.2, eq-eqb e.literal (2 * v) same)

pub true_from-value_on : (entries : List TrailEntry) (v : ℕ) → value_on entries v ≡ true → IsTrueOn entries (2 * v)
true_from-value_on entries v t =
    let any = Any-from_list_any (λ l. eqb l (2 * v)) (literals_on entries) t in
    let m = Contains-map_cases (λ (x : TrailEntry). x.literal) entries any.1 (any.0, any.2, any.3) in
    (m.1.0, m.0, m.1.1, m.1.2, m.2 ∙ eqb-true any.1 (2 * v) any.4)

pub value_on-false : (entries : List TrailEntry) (v : ℕ) → (IsTrueOn entries (2 * v) → ⊥) → value_on entries v ≡ false
value_on-false entries v n = step (value_on entries v) refl
  where
    step : (b : Bool) → value_on entries v ≡ b → b ≡ false
    step true e = absurd (n (true_from-value_on entries v e))
    step false e = refl

-- what a look-up of the present literal answers
pub value_on-is : (entries : List TrailEntry) (l v : ℕ) (answer : Option Bool) → AreDistinct entries → variable_of l ≡ v → is_present l ≡ true
    → IsValue entries l answer
    → unwrap_or answer false ≡ value_on entries v
value_on-is entries l v None distinct is present free =
    sym (value_on-false entries v (λ on. free l refl (subst (IsTrueOn entries) (sym (twice_of l v is present)) on)))
value_on-is entries l v (Some true) distinct is present on = sym (value_on-true entries v (subst (IsTrueOn entries) (twice_of l v is present) on))
value_on-is entries l v (Some false) distinct is present on =
    sym (value_on-false entries v (λ here. not_both entries l distinct (subst (IsTrueOn entries) (sym (twice_of l v is present)) here) on))
