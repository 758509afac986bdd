-- The literals of a resolvent as marks, beside a list of those that were put in and the number of those of the current level.
use Rattle.std.specs.Prelude.{◌≡◌, ◌⊎◌, ◌<◌, ◌≤◌, ◌+◌, ◌*◌, ℕ, List, Bool, All, Contains, Option, None, Some, length}
use Rattle.clause_meaning.specs.Literals.{opposite_of}
use Rattle.clause_meaning.specs.Marks.{HasMark}
use Rattle.clause_arena.specs.State.{State as Arena}
use Rattle.cdcl_trail.specs.Choices.{DifferInPairs}
use Rattle.cdcl_trail.specs.State.{State}
use Rattle.clause_learning.specs.declared.resolving.Resolvent.{Resolvent}
use Rattle.clause_learning.specs.Levels.{IsOnLevel}
use Rattle.clause_learning.specs.Resolving.{Joins, IsResolvent, HasOther}

-- there is a place for the mark of each literal; what has a mark was put in, and no more are counted than were put in
pub record IsCovered (variables : ℕ) (r : Resolvent) : Type 0 where
  pub room : length r.marks.items ≡ 2 * variables
  pub marked : (k : ℕ) → HasMark r.marks.items k → Contains r.touched.items k
  pub in_range : All (λ l. l < 2 * variables) r.touched.items
  pub few : r.newest ≤ length r.touched.items

-- the second list has those literals of the first that are of the current level, each once
pub record AreNewest (trail : State) (literals newest : List ℕ) : Type 0 where
  pub from : (k : ℕ) → Contains newest k → Contains literals k × IsOnLevel trail.entries trail.level (opposite_of k)
  pub all : (k : ℕ) → Contains literals k → IsOnLevel trail.entries trail.level (opposite_of k) → Contains newest k
  pub once : DifferInPairs newest

-- exactly the literals of the list have marks, and those of the current level are counted
pub record Shows (trail : State) (r : Resolvent) (literals : List ℕ) : Type 0 where
  pub marked : (k : ℕ) → HasMark r.marks.items k → Contains literals k
  pub has : (k : ℕ) → Contains literals k → HasMark r.marks.items k
  pub counted : (newest : List ℕ) × AreNewest trail literals newest × (r.newest ≡ length newest)

-- the literal became false on the current level and counts as one, or it didn't and counts as none
abbrev pub CountsAs : State → ℕ → ℕ → Type 0
CountsAs trail l n =
    (IsOnLevel trail.entries trail.level (opposite_of l) × (n ≡ 1)) ⊎ ((IsOnLevel trail.entries trail.level (opposite_of l) → ⊥) × (n ≡ 0))

-- the false literals of the clause that aren't of level 0 are added
abbrev pub JoinsIn : State → Resolvent → List ℕ → Resolvent → Type 0
JoinsIn trail old clause new =
    (literals : List ℕ) → Shows trail old literals → (next : List ℕ) × Shows trail new next × Joins trail.entries literals clause next

-- the marks are those of a resolvent that ends before the place
abbrev pub Holds : State → Arena → Resolvent → ℕ → Type 0
Holds trail arena r place = (literals : List ℕ) × Shows trail r literals × IsResolvent trail arena literals place

-- and the literal is the only one of the current level in it
abbrev pub Ends : State → Arena → Resolvent → ℕ → ℕ → Type 0
Ends trail arena r place q =
    (literals : List ℕ) × Shows trail r literals × IsResolvent trail arena literals place × Contains literals q × (HasOther trail literals q → ⊥)

-- what a look at a place of the trail leaves: a resolvent that ends before the place, or an asserting literal
abbrev pub LooksBack : State → Arena → Resolvent → ℕ → Option ℕ → Type 0
LooksBack trail arena r place None = Holds trail arena r place
LooksBack trail arena r place (Some q) = Ends trail arena r (place + 1) q

-- what of the first marks is listed, once those that were done are: each has a mark or is listed, none of those that were done has a mark
-- any more
pub record Lists (start : List Bool) (done : List ℕ) (marks : List Bool) (literals : List ℕ) : Type 0 where
  pub stays : (k : ℕ) → HasMark marks k → HasMark start k
  pub gone : (k : ℕ) → Contains done k → HasMark marks k → ⊥
  pub from : (k : ℕ) → Contains literals k → HasMark start k × (HasMark marks k → ⊥)
  pub all : (k : ℕ) → HasMark start k → HasMark marks k ⊎ Contains literals k
  pub once : DifferInPairs literals
