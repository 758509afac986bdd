-- How the tables of a `Conflicts` come from its clashes.
use Rattle.std.specs.Prelude.{◌≡◌, ℕ, ◌<◌, ◌↔◌, List, [], ◌∷◌, length, Contains, Bool, IsTrue, false, slice_index_or}
use Rattle.std.specs.List.{flat_map}
use Rattle.cq_terms.specs.declared.flat_lists.KeyedNumber.{KeyedNumber}
use Rattle.cq_terms.specs.declared.hits.Clash.{Clash}
use Rattle.cq_terms.specs.Conflicts.{IsOwn, couples, AreInConflict, AreClashes}
use Rattle.cq_terms.specs.Lists.{IsAscending}
use Rattle.cq_terms.specs.FlatLists.{values_at}

-- each of the two facts, with the other as the key
abbrev pub both_ways : ℕ × ℕ → List KeyedNumber
both_ways p = record { key = p.0; value = p.1 } ∷ record { key = p.1; value = p.0 } ∷ []

-- an entry for each fact of each pair in conflict
abbrev pub conflict_entries : List Clash → List KeyedNumber
conflict_entries clashes = flat_map both_ways (couples clashes)

-- the facts that conflict with the fact, in the order of the clashes
abbrev pub rivals : List Clash → ℕ → List ℕ
rivals clashes i = values_at (conflict_entries clashes) i

-- a mark for each fact, true where it is self-inconsistent
pub record AreMarks (facts : ℕ) (clashes : List Clash) (marks : List Bool) : Type 0 where
  pub all : length marks ≡ facts
  pub exact : (i : ℕ) → i < facts → IsTrue (slice_index_or marks i false) ↔ IsOwn clashes i

-- the tables by fact: a mark where it is self-inconsistent, and the ascending list of the facts that conflict with it
pub record AreTables (facts : ℕ) (clashes : List Clash) (marks : List Bool) (lists : List (List ℕ)) : Type 0 where
  pub kept : AreClashes facts clashes
  pub marks_all : length marks ≡ facts
  pub marks_exact : (i : ℕ) → i < facts → IsTrue (slice_index_or marks i false) ↔ IsOwn clashes i
  pub lists_all : length lists ≡ facts
  pub lists_are : (i : ℕ) → i < facts → slice_index_or lists i [] ≡ rivals clashes i
  pub lists_ascending : (i : ℕ) → i < facts → IsAscending (slice_index_or lists i [])
  pub lists_exact : (i : ℕ) → i < facts → (j : ℕ) → Contains (slice_index_or lists i []) j ↔ AreInConflict clashes i j
