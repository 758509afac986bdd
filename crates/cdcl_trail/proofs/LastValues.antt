-- The last values beside the entries.
use Rattle.std.proofs.Common.{◌≡◌, inl, inr, List, [], ◌∷◌, ◌++◌, Bool, false, get_or, get_or-set_other, subst, ◌∙◌}
use Rattle.std.proofs.lemmas.List.Elements.{Contains-push_cases}
use Rattle.clause_meaning.specs.Literals.{variable_of, is_present}
use Rattle.cdcl_trail.specs.declared.trail_entry.TrailEntry.{TrailEntry}
use Rattle.cdcl_trail.specs.Assigned.{IsUnassigned}
use Rattle.cdcl_trail.specs.State.{AreLast, with_last}
use Rattle.cdcl_trail.proofs.Entries.{no_entry}

-- a value is written for a variable that has no entry yet
pub AreLast-push : (entries : List TrailEntry) (lasts : List Bool) (e : TrailEntry) → AreLast entries lasts → IsUnassigned entries (variable_of e.literal)
    → get_or (with_last lasts e.literal) (variable_of e.literal) false ≡ is_present e.literal → AreLast (entries ++ e ∷ []) (with_last lasts e.literal)
AreLast-push entries lasts e held unassigned written x m =
    elim (Contains-push_cases entries e x m) [
      | inl old ↦
          get_or-set_other lasts (variable_of e.literal) (variable_of x.literal) (is_present e.literal) false
          (λ same. no_entry entries (variable_of e.literal) x unassigned old same)
          ∙ held x old
      | inr is ↦ subst (λ (y : TrailEntry). get_or (with_last lasts e.literal) (variable_of y.literal) false ≡ is_present y.literal) is written
    ]
