use Rattle.std.proofs.Common.{◌≡◌, ◌++◌, ℕ, map, take, drop}
use Rattle.clause_arena.specs.State.{renumbered}
use Rattle.clause_arena.specs.Slots.{contents, full_count}
use Rattle.clause_arena.proofs.slots.rename.Given as goal

abbrev pub invariant-loop-i : goal.invariant-loop-i
invariant-loop-i l =
    l.refs ≡ map (renumbered (λ (place : ℕ). full_count (take place (contents l.slots)))) (take l.i l.fn.refs) ++ drop l.i l.fn.refs
