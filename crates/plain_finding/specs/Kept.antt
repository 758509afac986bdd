-- The live clauses in a checker: what contracts see of them.
use Rattle.std.specs.Prelude.{◌≡◌, ◌↔◌, ◌<◌, ◌⊎◌, ℕ, List, [], ◌∷◌, map, All, Contains, Bool, if◌then◌else◌}
use Rattle.cq_terms.specs.Lists.{IsAscending}
use Rattle.rup_check.specs.State.{Numbered, LiveIn, IsLive}

-- the clauses of a checker over so many variables, the number of the next one, the numbers of the clauses of the open answer's causes,
-- and those of the learned ones, in the order of the lines
pub record Kept : Type 0 where
  pub variables : ℕ
  pub live : List Numbered
  pub next : ℕ
  pub open_numbers : List ℕ
  pub learned_numbers : List ℕ

-- the list has exactly the live clauses
abbrev pub HasLive : Kept → List (List ℕ) → Type 0
HasLive k live = (c : List ℕ) → Contains live c ↔ LiveIn k.live c

-- each number is below the next one, and those of causes and of learned clauses are live, ascending and apart
pub record IsNumbered (k : Kept) : Type 0 where
  pub below : All (λ e. e.number < k.next) k.live
  pub open_live : All (IsLive k.live) k.open_numbers
  pub learned_live : All (IsLive k.live) k.learned_numbers
  pub open_ascending : IsAscending k.open_numbers
  pub learned_ascending : IsAscending k.learned_numbers
  pub apart : (n : ℕ) → Contains k.open_numbers n → ¬ Contains k.learned_numbers n

-- the numbers and the clauses are those of these entries
pub record AreEntries (entries : List Numbered) (numbers : List ℕ) (clauses : List (List ℕ)) : Type 0 where
  pub numbers_are : map (λ (e : Numbered). e.number) entries ≡ numbers
  pub clauses_are : map (λ (e : Numbered). e.literals) entries ≡ clauses

-- exactly these base clauses, clauses of causes and learned clauses are live
pub record Holds (k : Kept) (base causes learned : List (List ℕ)) : Type 0 where
  pub base_entries : List Numbered
  pub open_entries : List Numbered
  pub learned_entries : List Numbered
  pub base_are : map (λ (e : Numbered). e.literals) base_entries ≡ base
  pub open_are : AreEntries open_entries k.open_numbers causes
  pub learned_are : AreEntries learned_entries k.learned_numbers learned
  pub exact : (e : Numbered) → Contains k.live e ↔ (Contains base_entries e ⊎ (Contains open_entries e ⊎ Contains learned_entries e))
  pub not_open : All (λ e. ¬ Contains k.open_numbers e.number) base_entries
  pub not_learned : All (λ e. ¬ Contains k.learned_numbers e.number) base_entries

-- the things at the marked places
abbrev pub kept_at : {X : Type 0} → List Bool → List X → List X
kept_at [] xs = []
kept_at (mark ∷ marks) [] = []
kept_at (mark ∷ marks) (x ∷ xs) = if mark then x ∷ kept_at marks xs else kept_at marks xs
