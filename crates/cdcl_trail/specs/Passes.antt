-- What a visit of one live clause, and a pass over all, leave.
use Rattle.std.specs.Prelude.{◌≡◌, ◌<◌, ◌≤◌, List, ℕ, length}
use Rattle.clause_meaning.specs.Resting.{Rests}
use Rattle.clause_arena.specs.State.{State as Arena, Names}
use Rattle.clause_arena.specs.declared.clause_ref.ClauseRef.{ClauseRef}
use Rattle.cdcl_trail.specs.declared.propagate.Visit.{Visit}
use Rattle.cdcl_trail.specs.declared.propagate.Visit.TheVariants as visit
use Rattle.cdcl_trail.specs.declared.propagate.Pass.{Pass}
use Rattle.cdcl_trail.specs.declared.propagate.Pass.TheVariants as pass
use Rattle.cdcl_trail.specs.Assigned.{IsTrueOn}
use Rattle.cdcl_trail.specs.State.{State}
use Rattle.cdcl_trail.specs.Fits.{IsComplete, IsFalsified}

-- what a visit of one live clause leaves
abbrev pub Visited : State → State → Arena → ClauseRef → Visit → Type 0
Visited old new arena reference visit.Clashes = IsFalsified new arena reference
Visited old new arena reference visit.Grows = length old.entries < length new.entries
Visited old new arena reference visit.Rests = (new ≡ old)
    × ((clause : List ℕ) → Names arena reference.place clause → 2 ≤ length clause → Rests (IsTrueOn new.entries) clause)

-- what a pass over the live clauses leaves
abbrev pub Passed : State → State → Arena → Pass → Type 0
Passed old new arena (pass.Clashes reference) = IsFalsified new arena reference
Passed old new arena pass.Grows = length old.entries < length new.entries
Passed old new arena pass.Settled = IsComplete new arena
