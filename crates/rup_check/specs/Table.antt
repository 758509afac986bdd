-- The marks by literal beside the list of the marked ones.
use Rattle.std.specs.Prelude.{◌≡◌, ◌<◌, ◌≤◌, ◌*◌, ◌↔◌, ℕ, List, Bool, length, take, slice_index_or, Contains, count_by, vec_capacity}
use Rattle.clause_meaning.specs.Marks.{HasMark}
use Rattle.rup_check.specs.declared.marks.Marks.TheInside.{Inside}
use Rattle.rup_check.specs.Marks.{Marked}

-- how many literals are marked in the table
abbrev pub mark_count : List Bool → ℕ
mark_count table = count_by (λ mark. mark) table

-- the table isn't seen
abbrev pub shown : Inside → Marked
shown m = record { variables = m.variables; literals = m.literals.items }

-- no literal is among those before it
abbrev pub AreDistinct : List ℕ → Type 0
AreDistinct literals = (i : ℕ) → i < length literals → Contains (take i literals) (slice_index_or literals i 0) → ⊥

-- the table has exactly the literals of the list, each of which stands there once
pub record Agrees (table : List Bool) (literals : List ℕ) : Type 0 where
  pub same : (l : ℕ) → HasMark table l ↔ Contains literals l
  pub counted : length literals ≡ mark_count table
  pub distinct : AreDistinct literals

-- there is room for each literal
pub record IsKept (m : Inside) : Type 0 where
  pub cover : length m.table.items ≡ 2 * m.variables
  pub agrees : Agrees m.table.items m.literals.items
  pub room : 2 * m.variables ≤ vec_capacity m.literals
