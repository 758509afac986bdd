-- Counts of faults: what a call of a shelf or a sink tells of its count.
use Rattle.std.specs.Prelude.{◌≡◌, ℕ, ◌+◌, ◌-◌, ◌^◌, ◌≤◌, min, Bool, true, false, if◌then◌else◌}

-- the greatest count, at which a count stays
abbrev pub most_faults : ℕ
most_faults = 2 ^ 64 - 1

-- one more than a count, or the greatest
abbrev pub one_more : ℕ → ℕ
one_more count = min (count + 1) most_faults

-- the count is greater than before, or it is the greatest
abbrev pub Rose : ℕ → ℕ → Type 0
Rose before now = one_more before ≤ now

-- a fault was counted
pub record CountsFault (before now : ℕ) : Type 0 where
  pub never_falls : before ≤ now
  pub rose : Rose before now
  pub stays : before ≡ most_faults → now ≡ most_faults

-- the count rises where the call failed, and is left alone by every other answer
abbrev pub TellsFault : ℕ → ℕ → Bool → Type 0
TellsFault before now true = CountsFault before now
TellsFault before now false = now ≡ before

-- the count after a call that counts a fault once, where it failed
abbrev pub faults_after : ℕ → Bool → ℕ
faults_after before failed = if failed then one_more before else before
