-- The conflicts of each fact in two lists: the facts that it is better than, and those that block it.
use Rattle.std.specs.Prelude.{◌≡◌, ℕ, ◌+◌, ◌<◌, ◌^◌, ◌==◌, ◌↔◌, List, [], length, map, filter, Bool, if◌then◌else◌, Contains, All, slice_index}
use Rattle.std.specs.Prelude.{slice_index_or, nat_lt, not}
use Rattle.std.specs.List.{list_any}
use Rattle.cq_terms.specs.declared.facts.Pair.{Pair}
use Rattle.cq_terms.specs.declared.flat_lists.KeyedNumber.{KeyedNumber}
use Rattle.cq_terms.specs.Conflicts.{ConflictGraph, AreInConflict}
use Rattle.cq_terms.specs.Lists.{IsAscending}
use Rattle.cq_terms.specs.ConflictTables.{conflict_entries, rivals}
use Rattle.cq_terms.specs.FlatLists.{values_at, HaveKeysBelow}
use Rattle.priority_graph.specs.Priority.{Ranks}

-- whether the list has the number
abbrev pub has : List ℕ → ℕ → Bool
has list i = list_any (λ j. j == i) list

-- the numbers at the places are the value, and all others stay
pub record SetsEach (old new places : List ℕ) (value : ℕ) : Type 0 where
  pub all : length new ≡ length old
  pub exact : (i : ℕ) → i < length old → slice_index new i ≡ (if has places i then value else slice_index old i)

-- the entries of a fact for the numbers that pass
abbrev pub entries_of : ℕ → (ℕ → Bool) → List ℕ → List KeyedNumber
entries_of fact test list = map (λ j. record { key = fact; value = j }) (filter test list)

-- an entry for each pair, with the upper fact as the key
abbrev pub pair_entries : List Pair → List KeyedNumber
pair_entries pairs = map (λ p. record { key = p.upper; value = p.lower }) pairs

-- the entries of the facts below a bound: each fact that conflicts with one, by whether the list of this one has it
pub record AreSplitEntries (g : ConflictGraph) (listed : List (List ℕ)) (bound : ℕ) (worse blockers : List KeyedNumber) : Type 0 where
  pub worse_exact : (i : ℕ) → i < bound → values_at worse i ≡ filter (has (slice_index_or listed i [])) (rivals g.clashes i)
  pub blockers_exact : (i : ℕ) → i < bound
      → values_at blockers i ≡ filter (λ j. not (has (slice_index_or listed i []) j)) (rivals g.clashes i)
  pub worse_known : HaveKeysBelow bound worse
  pub blockers_known : HaveKeysBelow bound blockers
  pub count : length worse + length blockers ≡ length (filter (λ e. nat_lt e.key bound) (conflict_entries g.clashes))
  pub few : length worse + length blockers < 2 ^ 32
  pub rivals_ascending : (i : ℕ) → i < bound → IsAscending (rivals g.clashes i)
  pub rivals_known : (i : ℕ) → i < bound → All (λ j. j < g.facts) (rivals g.clashes i)
  pub rivals_exact : (i j : ℕ) → i < bound → Contains (rivals g.clashes i) j ↔ AreInConflict g.clashes i j

-- the facts that the fact is better than, and those that conflict with it and that it isn't better than
pub record IsParted (pairs : List Pair) (g : ConflictGraph) (fact : ℕ) (worse blockers : List ℕ) : Type 0 where
  pub worse_ascending : IsAscending worse
  pub worse_exact : (j : ℕ) → Contains worse j ↔ Ranks pairs g fact j
  pub blockers_ascending : IsAscending blockers
  pub blockers_exact : (j : ℕ) → Contains blockers j ↔ (AreInConflict g.clashes fact j × ¬ Ranks pairs g fact j)

-- the two lists of each fact
pub record AreParted (pairs : List Pair) (g : ConflictGraph) (worse blockers : List (List ℕ)) : Type 0 where
  pub worse_all : length worse ≡ g.facts
  pub blockers_all : length blockers ≡ g.facts
  pub known : (i : ℕ) → i < g.facts → All (λ j. j < g.facts) (slice_index_or worse i [])
  pub exact : (i : ℕ) → i < g.facts → IsParted pairs g i (slice_index_or worse i []) (slice_index_or blockers i [])
