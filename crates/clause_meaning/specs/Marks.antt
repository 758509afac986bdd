-- Marks by literal, in a table that has a place for each.
use Rattle.std.specs.Prelude.{◌≡◌, ℕ, List, Bool, true, false, slice_index_or}

-- the literal has a mark
abbrev pub HasMark : List Bool → ℕ → Type 0
HasMark marks l = slice_index_or marks l false ≡ true
