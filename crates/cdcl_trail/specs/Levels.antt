-- The levels of entries: they begin at 0 or 1 and rise by single steps.
use Rattle.std.specs.Prelude.{◌≡◌, ◌<◌, ◌≤◌, ◌+◌, ℕ, List, [], ◌∷◌, ◌++◌, All, length, min}
use Rattle.cdcl_trail.specs.declared.trail_entry.TrailEntry.{TrailEntry}
use Rattle.cdcl_trail.specs.State.{State}

-- the level of the newest entry, 0 where there is none
abbrev pub last_level : ℕ → List TrailEntry → ℕ
last_level before [] = before
last_level before (e ∷ es) = last_level e.level es

-- each level is that before it or the next one
abbrev pub RiseFrom : ℕ → List TrailEntry → Type 0
RiseFrom before [] = Unit {0}
RiseFrom before (e ∷ es) = (before ≤ e.level) × (e.level ≤ before + 1) × RiseFrom e.level es

-- the entries up to the level are left, and those above it are gone; the focus, the counts and the last values stay
pub record CutsTo (old new : State) (target : ℕ) : Type 0 where
  pub variables : new.variables ≡ old.variables
  pub level : new.level ≡ target
  pub settled : new.settled ≡ min old.settled (length new.entries)
  pub focus : new.focus ≡ old.focus
  pub counts : new.counts ≡ old.counts
  pub lasts : new.lasts ≡ old.lasts
  pub cut : (gone : List TrailEntry) × (old.entries ≡ new.entries ++ gone) × All (λ e. e.level ≤ target) new.entries × All (λ e. target < e.level) gone
