-- What the fields of a `Trail` show, and what they keep.
use Rattle.std.specs.Prelude.{◌≡◌, ◌≤◌, ◌^◌, length}
use Rattle.cdcl_trail.specs.declared.trail.Trail.TheInside.{Inside}
use Rattle.cdcl_trail.specs.State.{State, AreLast}
use Rattle.cdcl_trail.specs.Levels.{last_level, RiseFrom}

-- the entries are those of the assignment
abbrev pub shown : Inside → State
shown t = record {
  variables = t.assigned.variables;
  entries = t.assigned.entries;
  level = t.level;
  settled = t.settled;
  focus = t.branching.focus;
  counts = t.branching.counts;
  lasts = t.branching.lasts;
}

-- the levels rise by single steps up to the current one, and the last values are those of the entries
pub record IsKept (t : Inside) : Type 0 where
  pub same_variables : t.branching.variables ≡ t.assigned.variables
  pub few : t.assigned.variables ≤ 2 ^ 31
  pub fewer : length t.assigned.entries ≤ t.assigned.variables
  pub rise : RiseFrom 0 t.assigned.entries
  pub level : t.level ≡ last_level 0 t.assigned.entries
  pub settled : t.settled ≤ length t.assigned.entries
  pub held : AreLast t.assigned.entries t.branching.lasts
