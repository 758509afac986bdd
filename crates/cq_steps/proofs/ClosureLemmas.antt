-- Lists of members against closures.
use Rattle.std.proofs.Common.{◌≡◌, ℕ, ◌<◌, zero, suc, inl, inr, Some, List, [], ◌∷◌, get_or, refl, ap, sym, ◌∙◌, subst, arith, Contains}
use Rattle.std.specs.List.{slice_get}
use Rattle.std.proofs.lemmas.Option.{slice_get_within, slice_get-get_or}
use Rattle.cq_terms.specs.declared.axioms.Axiom.{Axiom}
use Rattle.cq_terms.specs.Query.{Query}
use Rattle.cq_meaning.specs.NormalForm.{normal}
use Rattle.cq_meaning.specs.Rewriting.{IsSuccessor, Reaches, IsInClosure, IsClosure}
use Rattle.cq_meaning.proofs.Members.{Contains-nil, Contains-cases, Contains-head, Contains-later}
use Rattle.cq_steps.specs.declared.moves.Move.{Move}
use Rattle.cq_steps.specs.declared.moves.Move.TheVariants as move
use Rattle.cq_steps.specs.declared.closure.Member.{Member}
use Rattle.cq_steps.specs.Moves.{IsMove}
use Rattle.cq_steps.specs.Derivation.{IsDerivation}
use Rattle.cq_steps.specs.Closing.{queries_of, IsQueryOf, AreDerived, IsClosed, Closes}
use Rattle.cq_steps.proofs.Anywhere.{Any-head, Any-later, Any-cases, Any-nil}

-- a move is a step to a successor, and the other way round
pub successor_of_move : (axioms : List Axiom) (q r : Query) (s : Move) → IsMove axioms q s r → IsSuccessor axioms q r
successor_of_move axioms q r (move.Axiom i n) is = inl (i, n, is)
successor_of_move axioms q r (move.Reduce i j) is = inr (i, j, is)

pub move_of_successor : (axioms : List Axiom) (q r : Query) → IsSuccessor axioms q r → (s : Move) × IsMove axioms q s r
move_of_successor axioms q r (inl (i, n, is)) = (move.Axiom i n, is)
move_of_successor axioms q r (inr (i, j, is)) = (move.Reduce i j, is)

-- one more step at the end
pub Reaches-push : (axioms : List Axiom) (n : ℕ) (q p r : Query) → Reaches axioms n q p → IsSuccessor axioms p r → Reaches axioms (suc n) q r
Reaches-push axioms zero q p r e is = (r, subst (λ (x : Query). IsSuccessor axioms x r) (sym e) is, refl)
Reaches-push axioms (suc n) q p r (x, first, more) is = (x, first, Reaches-push axioms n x p r more is)

-- a query of the list is that of a member, and the other way round
pub Contains-from_query : (members : List Member) (q : Query) → IsQueryOf members q → Contains (queries_of members) q
Contains-from_query [] q some = absurd (Any-nil (λ m. m.query ≡ q) some)
Contains-from_query (m ∷ members) q some =
    elim (Any-cases (λ m. m.query ≡ q) m members some) [
      | inl e ↦ subst (Contains (m.query ∷ queries_of members)) e (Contains-head m.query (queries_of members))
      | inr later ↦ Contains-later m.query (queries_of members) q (Contains-from_query members q later)
    ]

pub query_from_Contains : (members : List Member) (q : Query) → Contains (queries_of members) q → IsQueryOf members q
query_from_Contains [] q some = absurd (Contains-nil q some)
query_from_Contains (m ∷ members) q some =
    elim (Contains-cases m.query (queries_of members) q some) [
      | inl e ↦ Any-head (λ m. m.query ≡ q) m members e
      | inr later ↦ Any-later (λ m. m.query ≡ q) m members (query_from_Contains members q later)
    ]

-- the member at a place, counted up to n, is in the closure
reached : (axioms : List Axiom) (q : Query) (members : List Member) → IsDerivation members → AreDerived axioms q members
    → (n i : ℕ) → i < n → (m : Member) → slice_get members i ≡ Some m → IsInClosure axioms q m.query
reached axioms q members d a zero i h m at = absurd (omega arith)
reached axioms q members d a (suc n) zero h m at =
    let same : a.first.0 ≡ m = cc (a.first.1, at) in (0, sym a.first.2 ∙ ap (λ (x : Member). x.query) same)
reached axioms q members d a (suc n) (suc i) h m at =
    let step = d.later (suc i) m (omega arith) at in
    let from = a.steps (suc i) step.0 m step.1 at step.2 in
    let before = reached axioms q members d a n step.0 (omega (arith, step.3)) from.0 from.1 in
    (suc before.0, Reaches-push axioms before.0 (normal q) from.0.query m.query before.1 (successor_of_move axioms from.0.query m.query step.1 from.2))

-- each query of a derived list is in the closure
pub derived-in-closure : (axioms : List Axiom) (q : Query) (members : List Member) → IsDerivation members → AreDerived axioms q members
    → (m : Member) → Contains members m → IsInClosure axioms q m.query
derived-in-closure axioms q members d a m (k, inside, is) =
    reached axioms q members d a (suc k) k (omega arith) m (slice_get-get_or members k m inside ∙ ap Some is)

-- moves from a member lead to members of a closed list
stays_inside : (axioms : List Axiom) (members : List Member) → IsClosed axioms members → (n : ℕ) (p r : Query) → IsQueryOf members p → Reaches axioms n p r
    → IsQueryOf members r
stays_inside axioms members closed zero p r some e = subst (IsQueryOf members) e some
stays_inside axioms members closed (suc n) p r (k, m, inside, at, is) (x, first, more) =
    let by = move_of_successor axioms m.query x (subst (λ (y : Query). IsSuccessor axioms y x) (sym is) first) in
    stays_inside axioms members closed n x r (closed m by.0 x (k, inside, at) by.1) more

first_inside : (axioms : List Axiom) (q : Query) (members : List Member) → AreDerived axioms q members → IsQueryOf members (normal q)
first_inside axioms q members a =
    let m = a.first.0 in
    let inside = slice_get_within members 0 m a.first.1 in
    let at : get_or members 0 m ≡ m = cc (slice_get-get_or members 0 m inside, a.first.1) in
    (0, m, inside, at, a.first.2)

-- a list that closes the query is its closure
pub closing-is-closure : (axioms : List Axiom) (q : Query) (members : List Member) → IsDerivation members → Closes axioms q members
    → IsClosure axioms q (queries_of members)
closing-is-closure axioms q members d c = λ r. (to r, from r)
  where
    to : (r : Query) → Contains (queries_of members) r → IsInClosure axioms q r
    to r some = by_member (query_from_Contains members r some)
      where
        by_member : IsQueryOf members r → IsInClosure axioms q r
        by_member (k, m, inside, at, is) = subst (IsInClosure axioms q) is (derived-in-closure axioms q members d c.derived m (k, inside, at))

    from : (r : Query) → IsInClosure axioms q r → Contains (queries_of members) r
    from r (n, path) = Contains-from_query members r (stays_inside axioms members c.closed n (normal q) r (first_inside axioms q members c.derived) path)
