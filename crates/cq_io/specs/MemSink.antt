-- What a sink in memory shows, and how its writes end.
use Rattle.std.specs.Prelude.{◌≡◌, ℕ, ◌+◌, ◌-◌, ◌≤◌, min, nat_lt, Bool, false, not, ◌||◌, ◌&&◌, if◌then◌else◌, List, [], length, take, Option, Some, None}
use Rattle.cq_io.specs.Faults.{faults_after}

-- A sink's bytes; how many bytes its writes may reach without memory; how many they may reach before
-- it fails for good; whether it has done so; and its count of faults.
pub record SinkState : Type 0 where
  pub bytes : List ℕ
  pub room : ℕ
  pub fail_after : Option ℕ
  pub is_spent : Bool
  pub faults : ℕ

-- so many bytes are more than the number, where there is one
abbrev pub is_past : Option ℕ → ℕ → Bool
is_past None count = false
is_past (Some most) count = nat_lt most count

-- as many of the bytes as come before the number, where there is one
abbrev pub up_to : Option ℕ → ℕ → List ℕ → List ℕ
up_to None start bytes = bytes
up_to (Some most) start bytes = take (most - start) bytes

-- how many of so many bytes come before the number, where there is one
abbrev pub count_up_to : Option ℕ → ℕ → ℕ → ℕ
count_up_to None start count = count
count_up_to (Some most) start count = min (most - start) count

-- the bytes don't fit into the room
abbrev pub is_beyond_room : SinkState → List ℕ → Bool
is_beyond_room sink bytes = nat_lt sink.room (length sink.bytes + length bytes)

-- the bytes would bring the sink past `fail_after`
abbrev pub is_past_fail_after : SinkState → List ℕ → Bool
is_past_fail_after sink bytes = is_past sink.fail_after (length sink.bytes + length bytes)

-- a write of the bytes fails
abbrev pub is_refused : SinkState → List ℕ → Bool
is_refused sink bytes = sink.is_spent || (is_beyond_room sink bytes || is_past_fail_after sink bytes)

-- after a write of the bytes every call fails
abbrev pub is_spent_after : SinkState → List ℕ → Bool
is_spent_after sink bytes = sink.is_spent || (not (is_beyond_room sink bytes) && is_past_fail_after sink bytes)

-- what a write of the bytes appends: nothing where every call fails or the room is too small, and
-- else the bytes up to `fail_after`
abbrev pub accepted : SinkState → List ℕ → List ℕ
accepted sink bytes =
    if sink.is_spent || is_beyond_room sink bytes then [] else up_to sink.fail_after (length sink.bytes) bytes

-- nothing differs but the bytes, whether every call fails, and the count where this one failed
abbrev pub OnlyWrites : SinkState → SinkState → Bool → Type 0
OnlyWrites old new failed =
    new ≡ record old { bytes = new.bytes; is_spent = new.is_spent; faults = faults_after old.faults failed }

-- no more bytes are written than fit into the room, which fits into the memory, or than come before the failure
pub record Reaches (written room capacity : ℕ) (fail_after : Option ℕ) : Type 0 where
  pub in_room : written ≤ room
  pub in_memory : room ≤ capacity
  pub before_failure : is_past fail_after written ≡ false
