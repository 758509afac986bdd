-- The moves on a query, their order, and the list of all of them with their results.
use Rattle.std.specs.Prelude.{◌≡◌, ◌<◌, ◌⊎◌, List, [], ◌∷◌, ◌++◌, Option, Some, None, All, AllPairs, Contains}
use Rattle.cq_terms.specs.declared.axioms.Axiom.{Axiom}
use Rattle.cq_terms.specs.Query.{Query}
use Rattle.cq_meaning.specs.Rewriting.{IsAxiomMove, IsReduceMove}
use Rattle.cq_steps.specs.declared.moves.Move.{Move}
use Rattle.cq_steps.specs.declared.moves.Move.TheVariants as move

-- the move leads from the first query to the second
abbrev pub IsMove : List Axiom → Query → Move → Query → Type 0
IsMove axioms q (move.Axiom i n) q' = IsAxiomMove axioms q i n q'
IsMove axioms q (move.Reduce i j) q' = IsReduceMove q i j q'

-- axiom steps stand first, by atom and then axiom, and then reduce steps, by their first and then their second atom
abbrev pub IsBefore : Move → Move → Type 0
IsBefore (move.Axiom i n) (move.Axiom j m) = (i < j) ⊎ ((i ≡ j) × (n < m))
IsBefore (move.Axiom i n) (move.Reduce j k) = Unit {0}
IsBefore (move.Reduce i j) (move.Axiom k n) = ⊥
IsBefore (move.Reduce i j) (move.Reduce k l) = (i < k) ⊎ ((i ≡ k) × (j < l))

-- the list has every move on the query with its result, in order, and nothing else
pub record AreSuccessors (axioms : List Axiom) (q : Query) (found : List (Move × Query)) : Type 0 where
  pub ascending : AllPairs (λ s t. IsBefore s.0 t.0) found
  pub sound : All (λ s. IsMove axioms q s.0 s.1) found
  pub complete : (m : Move) (q' : Query) → IsMove axioms q m q' → Contains found (m, q')

-- the list has every move on the query before the given one with its result, in order, and nothing else
pub record AreSuccessorsBefore (axioms : List Axiom) (q : Query) (bound : Move) (found : List (Move × Query)) : Type 0 where
  pub ascending : AllPairs (λ s t. IsBefore s.0 t.0) found
  pub sound : All (λ s. IsMove axioms q s.0 s.1 × IsBefore s.0 bound) found
  pub complete : (m : Move) (q' : Query) → IsBefore m bound → IsMove axioms q m q' → Contains found (m, q')

-- the list with the move behind it, where it has a result
abbrev pub with_result : List (Move × Query) → Move → Option Query → List (Move × Query)
with_result found m None = found
with_result found m (Some q) = found ++ (m, q) ∷ []
