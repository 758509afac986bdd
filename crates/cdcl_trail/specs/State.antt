-- What a `Trail` shows: its assigned literals with their levels and reasons, oldest first, how many of them are settled, and what
-- a guess goes by.
use Rattle.std.specs.Prelude.{◌≡◌, ℕ, ◌++◌, List, [], ◌∷◌, Bool, false, Option, Contains, slice_index, slice_index_or, slice_set, replicate}
use Rattle.clause_meaning.specs.Literals.{variable_of, is_present}
use Rattle.clause_arena.specs.declared.clause_ref.ClauseRef.{ClauseRef}
use Rattle.cdcl_trail.specs.declared.trail_entry.TrailEntry.{TrailEntry}

-- the entries from the place `settled` on are pending; the counts and the last values are lists by variable
pub record State : Type 0 where
  pub variables : ℕ
  pub entries : List TrailEntry
  pub level : ℕ
  pub settled : ℕ
  pub focus : List ℕ
  pub counts : List ℕ
  pub lasts : List Bool

-- nothing assigned, no focus, each count 0, each last value false
abbrev pub empty_trail : ℕ → State
empty_trail variables = record {
  variables = variables;
  entries = [];
  level = 0;
  settled = 0;
  focus = [];
  counts = replicate variables 0;
  lasts = replicate variables false;
}

-- the count of a variable
abbrev pub count_of : State → ℕ → ℕ
count_of trail v = slice_index trail.counts v

-- the value that a variable had last
abbrev pub last_of : State → ℕ → Bool
last_of trail v = slice_index_or trail.lasts v false

-- the last values once the literal is assigned
abbrev pub with_last : List Bool → ℕ → List Bool
with_last lasts literal = slice_set lasts (variable_of literal) (is_present literal)

-- the last values once all these are assigned, in order
abbrev pub with_lasts : List Bool → List TrailEntry → List Bool
with_lasts lasts [] = lasts
with_lasts lasts (e ∷ es) = with_lasts (with_last lasts e.literal) es

-- the last value of each assigned variable is the one that it has
abbrev pub AreLast : List TrailEntry → List Bool → Type 0
AreLast entries lasts = (entry : TrailEntry) → Contains entries entry → slice_index_or lasts (variable_of entry.literal) false ≡ is_present entry.literal

-- one more entry, pending, at a level that is the current one from then on
abbrev pub with_entry : State → ℕ → ℕ → Option ClauseRef → State
with_entry trail level literal reason =
    record trail {
      entries = trail.entries ++ record { literal = literal; level = level; reason = reason } ∷ [];
      level = level;
      lasts = with_last trail.lasts literal;
    }

-- another count of one variable
abbrev pub with_count : State → ℕ → ℕ → State
with_count trail v n = record trail { counts = slice_set trail.counts v n }
