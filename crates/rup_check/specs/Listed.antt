-- The lists in which clauses are looked up.
use Rattle.std.specs.Prelude.{◌≡◌, ◌≢◌, ◌⊎◌, ℕ, List, [], Contains, length, slice_index_or}

-- numbers of clauses: by literal, of the clauses without two different literals, and of the empty ones
pub record Listed : Type 0 where
  pub by_literal : List (List ℕ)
  pub short : List ℕ
  pub empty : List ℕ

-- two literals of the clause differ
abbrev pub HasTwo : List ℕ → Type 0
HasTwo clause = (k : ℕ) × (l : ℕ) × Contains clause k × Contains clause l × (k ≢ l)

-- the number of the clause is in each list to which it belongs
pub record IsListed (lists : Listed) (number : ℕ) (clause : List ℕ) : Type 0 where
  pub by_literal : (l : ℕ) → Contains clause l → Contains (slice_index_or lists.by_literal l []) number
  pub short : HasTwo clause ⊎ Contains lists.short number
  pub empty : clause ≡ [] → Contains lists.empty number

-- no list lost another number than this one
pub record KeepsOthers (number : ℕ) (old new : Listed) : Type 0 where
  pub same_length : length new.by_literal ≡ length old.by_literal
  pub by_literal : (l n : ℕ) → n ≢ number → Contains (slice_index_or old.by_literal l []) n → Contains (slice_index_or new.by_literal l []) n
  pub short : (n : ℕ) → n ≢ number → Contains old.short n → Contains new.short n
  pub empty : (n : ℕ) → n ≢ number → Contains old.empty n → Contains new.empty n
