-- What is known while a closure is searched.
use Rattle.std.specs.Prelude.{◌≡◌, ◌≢◌, ℕ, ◌<◌, ◌≤◌, ◌⊎◌, ◌^◌, List, [], ◌∷◌, ◌++◌, length, map, slice_get, slice_index_or, Some, All}
use Rattle.cq_terms.specs.declared.axioms.Axiom.{Axiom}
use Rattle.cq_terms.specs.Query.{Query}
use Rattle.cq_steps.specs.declared.moves.Move.{Move}
use Rattle.cq_steps.specs.declared.closure.Member.{Member}
use Rattle.cq_steps.specs.Moves.{IsMove, AreSuccessors}
use Rattle.cq_steps.specs.Derivation.{IsDerivation}
use Rattle.cq_steps.specs.Closing.{IsQueryOf}
use Rattle.perfect_ref.specs.Code.{code_of}
use Rattle.perfect_ref.specs.BreadthFirst.{IsEarlier, IsBreadthFirst}

-- the codes of the members' queries
abbrev pub codes_of : List Member → List (List ℕ)
codes_of members = map (λ m. code_of m.query) members

-- the query was known and the list stays, or it was new, there was room, and the member goes last
abbrev pub IsNoted : ℕ → List Member → Member → List Member → Type 0
IsNoted limit old m new = (IsQueryOf old m.query × (new ≡ old))
    ⊎ (All (λ n. n.query ≢ m.query) old × (length old < limit) × (new ≡ old ++ m ∷ []))

-- the members of the one list stand at their places in the other
abbrev pub AreKept : List Member → List Member → Type 0
AreKept old new = (i : ℕ) (m : Member) → slice_get old i ≡ Some m → slice_get new i ≡ Some m

-- the members are distinct, found in order by their steps, not too many and not too long, and the results of the moves on those before `from` are members
pub record AreFound (axioms : List Axiom) (limit from : ℕ) (members : List Member) : Type 0 where
  pub derivation : IsDerivation members
  pub steps : (i k : ℕ) (m : Member) (s : Move) → slice_get members i ≡ Some m → m.step ≡ Some (k, s)
      → (p : Member) × (slice_get members k ≡ Some p) × IsMove axioms p.query s m.query
  pub closed : (k : ℕ) (m : Member) (s : Move) (r : Query) → k < from → slice_get members k ≡ Some m → IsMove axioms m.query s r → IsQueryOf members r
  pub order : IsBreadthFirst axioms members
  pub short : All (λ m. length m.query.body < 2 ^ 31) members
  pub few : length members ≤ limit

-- no step comes from the member at place `from` or a later one
abbrev pub AreBehind : ℕ → List Member → Type 0
AreBehind from members = (i : ℕ) (m : Member) (a : ℕ × Move) → slice_get members i ≡ Some m → m.step ≡ Some a → a.0 < from

-- the first n moves on the member at place `from` were tried: their results are members, and no step is later than the next of them
pub record AreTried (from : ℕ) (moves : List (Move × Query)) (n : ℕ) (members : List Member) : Type 0 where
  pub known : (j : ℕ) (d : Move × Query) → j < n → j < length moves → IsQueryOf members ((slice_index_or moves j d).1)
  pub source : (i : ℕ) (m : Member) (a : ℕ × Move) → slice_get members i ≡ Some m → m.step ≡ Some a → a.0 ≤ from
  pub behind : (i j : ℕ) (m : Member) (a : ℕ × Move) (d : Move × Query) → slice_get members i ≡ Some m → m.step ≡ Some a → n ≤ j → j < length moves
      → IsEarlier a (from, (slice_index_or moves j d).0)

-- the turn of the member at place `from` begins: these are the moves on it
pub record IsTurn (axioms : List Axiom) (limit from : ℕ) (p : Member) (moves : List (Move × Query)) (members : List Member) : Type 0 where
  pub at : slice_get members from ≡ Some p
  pub successors : AreSuccessors axioms p.query moves
  pub found : AreFound axioms limit from members
  pub behind : AreBehind from members
