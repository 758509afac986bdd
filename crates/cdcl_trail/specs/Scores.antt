-- The fields of a `Branching`, and what they keep.
use Rattle.std.specs.Prelude.{◌≡◌, ◌≤◌, ◌<◌, All, length, vec_capacity}
use Rattle.cdcl_trail.specs.declared.branching.Branching.TheInside.{Inside}
use Rattle.cdcl_trail.specs.Choices.{Choices}

-- the activities aren't seen
abbrev pub shown : Inside → Choices
shown b = record { variables = b.variables; focus = b.focus.items; counts = b.counts.items; lasts = b.lasts.items }

-- there is a place for each variable, and room for all of them in the focus
pub record IsKept (b : Inside) : Type 0 where
  pub counts : length b.counts.items ≡ b.variables
  pub lasts : length b.lasts.items ≡ b.variables
  pub activities : length b.activities.items ≡ b.variables
  pub room : b.variables ≤ vec_capacity b.focus
  pub in_range : All (λ v. v < b.variables) b.focus.items
