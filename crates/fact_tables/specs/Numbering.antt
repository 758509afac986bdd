-- How the names of a table are numbered: each is put at the end of its list where it is new.
use Rattle.std.specs.Prelude.{◌≡◌, ℕ, ◌+◌, ◌≤◌, ◌<◌, ◌^◌, List, [], ◌∷◌, ◌++◌, length, drop}
use Rattle.std.specs.List.{flat_map}
use Rattle.cq_terms.specs.Names.{with_text}
use Rattle.cq_terms.specs.declared.names.Vocab.{Vocab}
use Rattle.fact_tables.specs.Tables.{Fields}

-- the bytes and the longest list of the vocabulary have fewer than 2^31 items together
pub record HasRoom (bytes : List ℕ) (vocab : Vocab) : Type 0 where
  pub concepts : length bytes + length vocab.concepts < 2 ^ 31
  pub roles : length bytes + length vocab.roles < 2 ^ 31
  pub inds : length bytes + length vocab.inds < 2 ^ 31

-- the new list is the old one, and maybe more at its end
abbrev pub IsPrefix : List (List ℕ) → List (List ℕ) → Type 0
IsPrefix old new = (more : List (List ℕ)) × (new ≡ old ++ more)

-- all names of before stay at their places
pub record Keeps (old new : Vocab) : Type 0 where
  pub concepts : IsPrefix old.concepts new.concepts
  pub roles : IsPrefix old.roles new.roles
  pub inds : IsPrefix old.inds new.inds

-- each list has gained at most so many names
pub record Grows (count : ℕ) (old new : Vocab) : Type 0 where
  pub concepts : length new.concepts ≤ length old.concepts + count
  pub roles : length new.roles ≤ length old.roles + count
  pub inds : length new.inds ≤ length old.inds + count

-- the texts after others were put, in order
abbrev pub with_texts : List (List ℕ) → List (List ℕ) → List (List ℕ)
with_texts texts [] = texts
with_texts texts (text ∷ more) = with_texts (with_text texts text) more

-- the concept names of a fact record: its first field, where it has two
abbrev pub concepts_in : Fields → List (List ℕ)
concepts_in (concept ∷ individual ∷ []) = concept ∷ []
concepts_in fields = []

-- its role names: its first field, where it has three
abbrev pub roles_in : Fields → List (List ℕ)
roles_in (role ∷ from ∷ to ∷ []) = role ∷ []
roles_in fields = []

-- its individuals, from left to right: all fields but the first
abbrev pub individuals_in : Fields → List (List ℕ)
individuals_in fields = drop 1 fields

-- the vocabulary has gained the names of these records, in order
pub record PutsNames (rows : List Fields) (old new : Vocab) : Type 0 where
  pub concepts : new.concepts ≡ with_texts old.concepts (flat_map concepts_in rows)
  pub roles : new.roles ≡ with_texts old.roles (flat_map roles_in rows)
  pub inds : new.inds ≡ with_texts old.inds (flat_map individuals_in rows)
