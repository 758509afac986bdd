use Rattle.std.proofs.Common.{◌≡◌, ◌≤◌, ◌<◌, ◌++◌, List, All, length}
use Rattle.cdcl_trail.specs.declared.trail_entry.TrailEntry.{TrailEntry}
use Rattle.cdcl_trail.specs.Levels.{last_level, RiseFrom}
use Rattle.cdcl_trail.proofs.assignment.cut.Given as goal

abbrev pub invariant-loop-assigned : goal.invariant-loop-assigned
invariant-loop-assigned l = record {
  variables : l.assigned.variables ≡ l.fn.assigned.variables;
  rise : RiseFrom 0 l.assigned.entries;
  reached : l.level ≤ last_level 0 l.assigned.entries;
  cut : (gone : List TrailEntry) × (l.fn.assigned.entries ≡ l.assigned.entries ++ gone) × All (λ (e : TrailEntry). l.level < e.level) gone;
}

abbrev pub decreases-loop-assigned : goal.decreases-loop-assigned
decreases-loop-assigned l = length l.assigned.entries
