-- What the entry of a variable says of its literals.
use Rattle.std.proofs.Common.{◌≡◌, ◌↔◌, ℕ, inl, inr, List, Bool, true, false, Some, eqb, refl, sym, subst, ap, ◌∙◌}
use Rattle.std.proofs.lemmas.Bool.{eqb-true, eq-eqb, eqb-false, false≢true}
use Rattle.clause_meaning.specs.Literals.{variable_of}
use Rattle.clause_meaning.proofs.LiteralLaws.{same_variable}
use Rattle.cdcl_trail.specs.declared.trail_entry.TrailEntry.{TrailEntry}
use Rattle.cdcl_trail.specs.Assigned.{IsTrueOn, IsUnassigned, IsEntryOf}
use Rattle.cdcl_trail.specs.Values.{IsValue}
use Rattle.cdcl_trail.proofs.Entries.{true_by}

-- the literal is true where the entry of its variable has it
pub true_where_entry : (entries : List TrailEntry) (l : ℕ) (e : TrailEntry) → IsEntryOf entries (variable_of l) (Some e) → (eqb e.literal l ≡ true)
    ↔ IsTrueOn entries l
true_where_entry entries l e (m, same, only) = (
  λ b. subst (IsTrueOn entries) (eqb-true e.literal l b) (true_by entries e m),
  λ (k, x, p, is, lit). eq-eqb e.literal l (ap (λ (y : TrailEntry). y.literal) (sym (only x (k, p, is) (ap variable_of lit))) ∙ lit),
)

-- nothing is true of an unassigned variable
pub false_where_none : (entries : List TrailEntry) (l : ℕ) → IsUnassigned entries (variable_of l) → (false ≡ true) ↔ IsTrueOn entries l
false_where_none entries l unassigned = (λ e. absurd (false≢true e), λ on. absurd (unassigned l refl on))

pub value_by_entry : (entries : List TrailEntry) (l : ℕ) (e : TrailEntry) (b : Bool) → IsEntryOf entries (variable_of l) (Some e) → eqb e.literal l ≡ b
    → IsValue entries l (Some b)
value_by_entry entries l e true (m, same, only) is = subst (IsTrueOn entries) (eqb-true e.literal l is) (true_by entries e m)
value_by_entry entries l e false (m, same, only) is =
    elim (same_variable e.literal l same) [
      | inl d ↦ absurd (eqb-false e.literal l is d)
      | inr d ↦ subst (IsTrueOn entries) d (true_by entries e m)
    ]
