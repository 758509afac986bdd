-- What a `Closure` keeps: distinct queries, each but the first with a step from an earlier one.
use Rattle.std.specs.Prelude.{◌≡◌, ◌≢◌, ℕ, ◌<◌, ◌^◌, List, length, slice_get, Some, None, AllPairs}
use Rattle.cq_steps.specs.declared.moves.Move.{Move}
use Rattle.cq_steps.specs.declared.closure.Member.{Member}

-- the member has a step, from a place before i
abbrev pub HasStepBefore : ℕ → Member → Type 0
HasStepBefore i m = (k : ℕ) × (s : Move) × (m.step ≡ Some (k, s)) × (k < i)

-- the queries are distinct, the first has no step, and each other has a step from an earlier one
pub record IsDerivation (members : List Member) : Type 0 where
  pub some : 0 < length members
  pub few : length members < 2 ^ 32
  pub distinct : AllPairs (λ m n. m.query ≢ n.query) members
  pub first : (m : Member) → slice_get members 0 ≡ Some m → m.step ≡ None
  pub later : (i : ℕ) (m : Member) → 0 < i → slice_get members i ≡ Some m → HasStepBefore i m
