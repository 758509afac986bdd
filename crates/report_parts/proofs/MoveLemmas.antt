-- What moves lead to, by a list of all results and by the one result of a move.
use Rattle.std.proofs.Common.{◌≡◌, ◌↔◌, ℕ, ◌<◌, List, length, Contains, get_or, sym, subst, ap, Some}
use Rattle.cq_terms.specs.declared.axioms.Axiom.{Axiom}
use Rattle.cq_terms.specs.Query.{Query}
use Rattle.cq_meaning.specs.Rewriting.{IsSuccessor}
use Rattle.cq_steps.specs.declared.moves.Move.{Move}
use Rattle.cq_steps.specs.Moves.{AreSuccessors, IsMove}
use Rattle.cq_steps.proofs.ClosureLemmas.{move_of_successor, successor_of_move}
use Rattle.cq_steps.proofs.OneResult.{IsMoveResult}

-- where all results of moves are members, each successor is one
pub successors_in : (axioms : List Axiom) (q : Query) (found : List (Move × Query)) (members : List Query) → AreSuccessors axioms q found
    → ((k : ℕ) (d : Move × Query) → k < length found → Contains members ((get_or found k d).1)) → (p : Query) → IsSuccessor axioms q p → Contains members p
successors_in axioms q found members are each p s =
    let (m, move) = move_of_successor axioms q p s in
    let (k, l, e) = are.complete m p move in
    subst (Contains members) (ap (λ (x : Move × Query). x.1) e) (each k (m, p) l)

-- each result is a successor
pub is_successor : (axioms : List Axiom) (q : Query) (found : List (Move × Query)) → AreSuccessors axioms q found → (k : ℕ) (d : Move × Query)
    → k < length found
    → IsSuccessor axioms q ((get_or found k d).1)
is_successor axioms q found are k d l = successor_of_move axioms q ((get_or found k d).1) ((get_or found k d).0) (are.sound k d l)

-- the one result of a move tells it
pub told_result : (axioms : List Axiom) (p q r : Query) (m : Move) → IsMoveResult axioms p m (Some r) → (q ≡ r) ↔ IsMove axioms p m q
told_result axioms p q r m w = (
  (λ e. subst (IsMove axioms p m) (sym e) w.0),
  (λ h. w.1 q h),
)
