-- What each learned clause is, at the clauses that are live before it.
use Rattle.std.specs.Prelude.{◌≡◌, ◌+◌, ◌++◌, ◌*◌, ℕ, List, [], ◌∷◌, Some, Contains}
use Rattle.clause_meaning.specs.Refutation.{Refutes}
use Rattle.clause_meaning.specs.Assignments.{Inside}
use Rattle.clause_meaning.specs.Learning.{is_in, OccursIn, Parts, IsFreeOf, IsOneSided, IsLearnableIn}
use Rattle.cdcl_core.specs.State.{State, LiveIn}
use Rattle.proof_logs.specs.Logs.{Learned}

-- the clauses of the scope refute the assumptions by propagation alone
abbrev pub IsRefuted : State → List ℕ → List ℕ → Type 0
IsRefuted state scope assume = Refutes (Inside (is_in scope) (LiveIn state)) (Contains assume)

-- the clause has the next number, and may be learned at the live clauses: it is over the scope, follows, is new to them, has ascending literals that
-- they have and leave open, and joins nothing
pub record IsNew (state : State) (scope : List ℕ) (entry : Learned) : Type 0 where
  pub number : entry.number ≡ state.next
  pub lesson : IsLearnableIn scope (LiveIn state) entry.clause

-- it may be learned now: the assumptions aren't refuted
pub record MayLearn (state : State) (scope assume : List ℕ) (entry : Learned) : Type 0 where
  pub unrefuted : IsRefuted state scope assume → ⊥
  pub fresh : IsNew state scope entry

-- one more learned clause, which comes last
abbrev pub with_learned : State → Learned → State
with_learned state entry =
    record state { live = state.live ++ record { number = Some entry.number; literals = entry.clause } ∷ []; next = state.next + 1 }

-- with all of them, in order
abbrev pub with_all : State → List Learned → State
with_all state [] = state
with_all state (entry ∷ entries) = with_all (with_learned state entry) entries

-- each of the clauses might be learned when it was
abbrev pub AreLearned : State → List ℕ → List ℕ → List Learned → Type 0
AreLearned state scope assume [] = Unit {0}
AreLearned state scope assume (entry ∷ entries) =
    MayLearn state scope assume entry × AreLearned (with_learned state entry) scope assume entries

-- where no live clause has m present: a list of variables that has all or none of those of each live clause without m has all or
-- none of those of each of these clauses without m
abbrev pub JoinNothing : State → List Learned → Type 0
JoinNothing state entries = (m : ℕ) → (OccursIn (LiveIn state) (2 * m) → ⊥) → (part : List ℕ) → Parts (is_in part) m (LiveIn state)
    → (entry : Learned) → Contains entries entry → IsFreeOf m entry.clause → IsOneSided (is_in part) entry.clause
