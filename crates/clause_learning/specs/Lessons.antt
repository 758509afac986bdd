-- What a falsified clause teaches: a clause with one literal of the current level, and the level to go back to, on which the clause forces
-- this literal.
use Rattle.std.specs.Prelude.{◌≡◌, ◌≢◌, ◌⊎◌, ◌<◌, ℕ, List, Contains}
use Rattle.clause_meaning.specs.Literals.{opposite_of}
use Rattle.cdcl_trail.specs.State.{State}
use Rattle.clause_learning.specs.Levels.{IsKnownAt, BecameFalse}
use Rattle.clause_meaning.specs.Learning.{IsLearnable}

-- the asserting literal became false on the current level, each other literal of the clause at the level to go back to or before, and one
-- of these exactly there, unless it is level 0
pub record Asserts (trail : State) (clause : List ℕ) (asserting back : ℕ) : Type 0 where
  pub member : Contains clause asserting
  pub newest : BecameFalse trail.entries trail.level asserting
  pub others : (k : ℕ) → Contains clause k → k ≢ asserting → IsKnownAt trail.entries back (opposite_of k)
  pub back_below : back < trail.level
  pub back_reached : (back ≡ 0) ⊎ ((k : ℕ) × Contains clause k × (k ≢ asserting) × BecameFalse trail.entries back k)

-- a clause that may be learned, with what it asserts
pub record IsLesson (S : List ℕ → Type 0) (trail : State) (clause : List ℕ) (asserting back : ℕ) : Type 0 where
  pub learnable : IsLearnable S clause
  pub asserts : Asserts trail clause asserting back
