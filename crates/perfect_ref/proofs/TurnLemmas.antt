-- One member after the other while a closure is searched, and what the end of the search tells.
use Rattle.std.proofs.Common.{◌≡◌, ◌≢◌, ℕ, ◌+◌, ◌^◌, ◌<◌, ◌≤◌, zero, suc, ◌⊎◌, inl, inr, Some, None, List, [], ◌∷◌, ◌++◌, length, get_or, refl, ap, sym, ◌∙◌}
use Rattle.std.proofs.Common.{subst, arith, Contains, All}
use Rattle.std.specs.List.{slice_get}
use Rattle.std.proofs.lemmas.Bool.{cases_lt}
use Rattle.std.proofs.lemmas.List.{length_push, length-map, get_or-map}
use Rattle.std.proofs.lemmas.List.Elements.{All-push, Contains-get_or}
use Rattle.std.proofs.lemmas.List.Quantifiers.{all_pairs_push}
use Rattle.std.proofs.lemmas.Option.{slice_get_within, slice_get-get_or}
use Rattle.cq_terms.specs.declared.axioms.Axiom.{Axiom}
use Rattle.cq_terms.specs.declared.facts.Fact.{Fact}
use Rattle.cq_terms.specs.Query.{Query}
use Rattle.cq_meaning.specs.Entailment.{Entails, Match}
use Rattle.cq_meaning.specs.NormalForm.{normal}
use Rattle.cq_meaning.specs.Rewriting.{IsInClosure, IsClosure}
use Rattle.cq_meaning.specs.RewritingLaws.{ClosureIsExact}
use Rattle.cq_steps.specs.declared.moves.Move.{Move}
use Rattle.cq_steps.specs.declared.closure.Member.{Member}
use Rattle.cq_steps.specs.Moves.{IsMove, AreSuccessors}
use Rattle.cq_steps.specs.Derivation.{IsDerivation}
use Rattle.cq_steps.specs.Closing.{IsQueryOf, AreDerived, Closes, queries_of}
use Rattle.cq_steps.proofs.ClosureLemmas.{query_from_Contains, Contains-from_query, derived-in-closure, Reaches-push, successor_of_move}
use Rattle.cq_steps.proofs.Derivations.{slice_get-stays}
use Rattle.perfect_ref.specs.BreadthFirst.{HasMoreThan, MatchesTell}
use Rattle.perfect_ref.specs.Search.{AreFound, AreBehind, AreTried, AreKept, IsNoted, IsTurn}
use Rattle.perfect_ref.proofs.Shorter.{normal_shorter}
use Rattle.perfect_ref.proofs.SearchLemmas.{none_tried, known_tried, new_tried, new_found, made_by, Contains-at}

pub kept_alone : (members : List Member) → AreKept members members
kept_alone members = λ i m at. at

pub kept_then : (a b c : List Member) → AreKept a b → AreKept b c → AreKept a c
kept_then a b c f g = λ i m at. g i m (f i m at)

-- what holds in the middle of a turn
pub record IsAmid (axioms : List Axiom) (limit from : ℕ) (moves : List (Move × Query)) (n : ℕ) (members : List Member) : Type 0 where
  pub found : AreFound axioms limit from members
  pub tried : AreTried from moves n members

-- the turn begins with no move tried
pub turn_begins : (axioms : List Axiom) (limit from : ℕ) (p : Member) (moves : List (Move × Query)) (members : List Member)
    → IsTurn axioms limit from p moves members → IsAmid axioms limit from moves 0 members
turn_begins axioms limit from p moves members turn = record { found = turn.found; tried = none_tried from moves members turn.behind }

-- noting a member keeps the others
pub noted_keeps : (limit : ℕ) (old new : List Member) (m : Member) → IsNoted limit old m new → AreKept old new
noted_keeps limit old new m (inl (known, same)) = subst (AreKept old) (sym same) (kept_alone old)
noted_keeps limit old new m (inr (fresh, room, more)) = subst (AreKept old) (sym more) (λ i w at. slice_get-stays old m i w at)

-- one more move was tried and its result noted
pub turn_goes_on : (axioms : List Axiom) (limit from : ℕ) (p : Member) (moves : List (Move × Query)) (n : ℕ) (old new : List Member) (x : Move × Query)
    → n < length moves → x ≡ get_or moves n x → slice_get old from ≡ Some p → AreSuccessors axioms p.query moves → limit < 2 ^ 32
    → IsNoted limit old (made_by from x) new → IsAmid axioms limit from moves n old → IsAmid axioms limit from moves (n + 1) new
turn_goes_on axioms limit from p moves n old new x inside is at all fits (inl (known, same)) so =
    subst (IsAmid axioms limit from moves (n + 1)) (sym same) (record { found = so.found; tried = known_tried from moves n old x inside is known so.tried })
turn_goes_on axioms limit from p moves n old new x inside is at all fits (inr (fresh, room, more)) so =
    subst (IsAmid axioms limit from moves (n + 1)) (sym more) (record {
      found = new_found axioms limit from p moves n old x inside is at all so.tried fresh room fits so.found;
      tried = new_tried axioms from p.query moves n old x inside is all so.tried;
    })

-- all moves were tried: the turn is over
pub turn_ends : (axioms : List Axiom) (limit from : ℕ) (p : Member) (moves : List (Move × Query)) (n : ℕ) (members : List Member) → length moves ≤ n
    → slice_get members from ≡ Some p
    → AreSuccessors axioms p.query moves → IsAmid axioms limit from moves n members → AreFound axioms limit (from + 1) members
turn_ends axioms limit from p moves n members end at all so = record {
  derivation = so.found.derivation;
  steps = so.found.steps;
  closed = λ k m s r less at_k is. by_place k m s r less at_k is (cases_lt k from);
  order = so.found.order;
  short = so.found.short;
  few = so.found.few;
}
  where
    result : (r : Query) (s : Move) → Contains moves (s, r) → IsQueryOf members r
    result r s (j, lt, e) = subst (λ (y : Move × Query). IsQueryOf members y.1) e (so.tried.known j (s, r) (omega arith) lt)

    by_place : (k : ℕ) (m : Member) (s : Move) (r : Query) → k < from + 1 → slice_get members k ≡ Some m → IsMove axioms m.query s r → (k < from) ⊎ (from ≤ k)
        → IsQueryOf members r
    by_place k m s r less at_k is (inl before) = so.found.closed k m s r before at_k is
    by_place k m s r less at_k is (inr more) =
        let place : k ≡ from = omega arith in
        let here = ap (slice_get members) place in
        let same : m ≡ p = cc (at_k, here, at) in
        result r s (all.complete s r (subst (λ (y : Member). IsMove axioms y.query s r) same is))

pub turn_behind : (axioms : List Axiom) (limit from : ℕ) (moves : List (Move × Query)) (n : ℕ) (members : List Member)
    → IsAmid axioms limit from moves n members → AreBehind (from + 1) members
turn_behind axioms limit from moves n members so = λ i m a at e. let le = so.tried.source i m a at e in omega arith

-- ---- the beginning

-- the first member alone
pub first_found : (axioms : List Axiom) (limit : ℕ) (q : Query) → 0 < limit → length q.body < 2 ^ 31
    → AreFound axioms limit 0 (record { query = normal q; step = None } ∷ [])
first_found axioms limit q h fits = record {
  derivation = record {
    some = omega arith;
    few = lone;
    distinct = λ i j d less lt. absurd (omega arith);
    first = λ m at. own m at;
    later =
        λ i m after at. absurd (nothing i m after at);
  };
  steps = λ i k m s at e. absurd (no_step i m (k, s) at e);
  closed = λ k m s r less. absurd (omega arith);
  order = record { ascending = λ i j m n a b less at_i at_j e f. absurd (no_step i m a at_i e); earliest = λ i l m p a t at e. absurd (no_step i m a at e) };
  short = λ k d lt. short k d lt;
  few = omega arith;
}
  where
    lone : 1 < 2 ^ 32
    lone = omega arith

    alone : List Member
    alone = record { query = normal q; step = None } ∷ []

    nothing : (i : ℕ) (m : Member) → 0 < i → slice_get {X = Member} (record { query = normal q; step = None } ∷ []) i ≡ Some m → ⊥
    nothing zero m h e = omega arith
    nothing (suc i) m h e = cc

    own : (m : Member) → slice_get {X = Member} (record { query = normal q; step = None } ∷ []) 0 ≡ Some m → m.step ≡ None
    own m e = let same : record { query = normal q; step = None } ≡ m = cc in sym (ap (λ (y : Member). y.step) same)

    no_step : (i : ℕ) (m : Member) (a : ℕ × Move) → slice_get {X = Member} (record { query = normal q; step = None } ∷ []) i ≡ Some m → m.step ≡ Some a → ⊥
    no_step zero m a at e = let none = own m at in cc
    no_step (suc i) m a at e = cc

    short : (k : ℕ) (d : Member) → k < 1 → length (get_or {A = Member} (record { query = normal q; step = None } ∷ []) k d).query.body < 2 ^ 31
    short zero d lt = omega (arith, normal_shorter q)
    short (suc k) d lt = absurd (omega arith)

pub first_behind : (q : Query) → AreBehind 0 (record { query = q; step = None } ∷ [])
first_behind q = λ i m a at e. absurd (none i m a at e)
  where
    none : (i : ℕ) (m : Member) (a : ℕ × Move) → slice_get {X = Member} (record { query = q; step = None } ∷ []) i ≡ Some m → m.step ≡ Some a → ⊥
    none zero m a at e = let same : record { query = q; step = None } ≡ m = cc in let steps = ap (λ (y : Member). y.step) same in cc
    none (suc i) m a at e = cc

-- ---- the end

-- the first member is the normal form
abbrev pub BeginsWith : Query → List Member → Type 0
BeginsWith q members = (m : Member) × (slice_get members 0 ≡ Some m) × (m.query ≡ normal q)

pub derived_now : (axioms : List Axiom) (limit from : ℕ) (q : Query) (members : List Member) → BeginsWith q members → AreFound axioms limit from members
    → AreDerived axioms q members
derived_now axioms limit from q members first so = record { first = first; steps = so.steps }

-- every member had its turn
pub closes_now : (axioms : List Axiom) (limit from : ℕ) (q : Query) (members : List Member) → BeginsWith q members → length members ≤ from
    → AreFound axioms limit from members → Closes axioms q members
closes_now axioms limit from q members first end so = record {
  derived = derived_now axioms limit from q members first so;
  closed =
      λ m s r some is. by_place m s r some is;
}
  where
    by_place : (m : Member) (s : Move) (r : Query) → Contains members m → IsMove axioms m.query s r → IsQueryOf members r
    by_place m s r (k, lt, e) is = so.closed k m s r (omega arith) (slice_get-get_or members k m lt ∙ ap Some e) is

-- a closure tells what is entailed
pub tells : ClosureIsExact → (axioms : List Axiom) (q : Query) (members : List Member) → IsClosure axioms q (queries_of members) → MatchesTell axioms q members
tells law axioms q members is = λ facts tuple. (to facts tuple, from facts tuple)
  where
    member_of : (r : Query) → IsQueryOf members r → (m : Member) × Contains members m × (m.query ≡ r)
    member_of r (k, m, lt, at, e) = (m, (k, lt, at), e)

    to : (facts : List Fact) (tuple : List ℕ) → Entails axioms (Contains facts) q tuple → (m : Member) × (image : List Fact) × Contains members m
        × Match m.query (Contains facts) tuple image
    to facts tuple h =
        let some = (law axioms q (queries_of members) is facts tuple).0 h in
        let at = member_of some.0 (query_from_Contains members some.0 some.2) in
        (at.0, some.1, at.1, subst (λ (r : Query). Match r (Contains facts) tuple some.1) (sym at.2) some.3)

    from : (facts : List Fact) (tuple : List ℕ) → ((m : Member) × (image : List Fact) × Contains members m × Match m.query (Contains facts) tuple image)
        → Entails axioms (Contains facts) q tuple
    from facts tuple (m, image, (k, lt, e), match) =
        (law axioms q (queries_of members) is facts tuple).1 (m.query, image, Contains-from_query members m.query (k, m, lt, e, refl), match)

-- one more result than there is room for
pub more_than : (axioms : List Axiom) (limit from : ℕ) (q : Query) (p : Member) (members : List Member) (s : Move) (r : Query) → AreDerived axioms q members
    → IsDerivation members
    → slice_get members from ≡ Some p → IsMove axioms p.query s r → All (λ m. m.query ≢ r) members → limit ≤ length members → HasMoreThan axioms q limit
more_than axioms limit from q p members s r derived d at is new full = record {
  items = queries_of members ++ r ∷ [];
  each = All-push (IsInClosure axioms q) (queries_of members) r inside last;
  apart = all_pairs_push (λ a b. a ≢ b) (queries_of members) r distinct fresh;
  longer = rw (length_push (queries_of members) r, length-map members (λ (m : Member). m.query)) (omega arith);
}
  where
    lengths : length (queries_of members) ≡ length members
    lengths = length-map members (λ (m : Member). m.query)

    query_at : (k : ℕ) (e : Query) → k < length members → get_or (queries_of members) k e ≡ (get_or members k p).query
    query_at k e lt = get_or-map (λ (m : Member). m.query) members k p e lt

    distinct : (i j : ℕ) (e : Query) → i < j → j < length (queries_of members) → get_or (queries_of members) i e ≢ get_or (queries_of members) j e
    distinct i j e less lt same =
        let inside_j : j < length members = omega (arith, lengths) in
        let inside_i : i < length members = omega arith in
        d.distinct i j p less inside_j (sym (query_at i e inside_i) ∙ same ∙ query_at j e inside_j)

    fresh : (k : ℕ) (e : Query) → k < length (queries_of members) → get_or (queries_of members) k e ≢ r
    fresh k e lt same =
        let inside_k : k < length members = omega (arith, lengths) in
        new k p inside_k (sym (query_at k e inside_k) ∙ same)

    inside : (k : ℕ) (e : Query) → k < length (queries_of members) → IsInClosure axioms q (get_or (queries_of members) k e)
    inside k e lt =
        let inside_k : k < length members = omega (arith, lengths) in
        subst (IsInClosure axioms q) (sym (query_at k e inside_k)) (derived-in-closure axioms q members d derived (get_or members k p)
        (Contains-get_or members k p inside_k))

    last : IsInClosure axioms q r
    last =
        let before = derived-in-closure axioms q members d derived p (Contains-at members from p at) in
        (suc before.0, Reaches-push axioms before.0 (normal q) p.query r before.1 (successor_of_move axioms p.query r s is))

-- no room for the first member
pub none_fits : (axioms : List Axiom) (q : Query) → HasMoreThan axioms q 0
none_fits axioms q = record { items = normal q ∷ []; each = one; apart = λ i j d less lt. absurd (omega arith); longer = omega arith }
  where
    one : (k : ℕ) (e : Query) → k < 1 → IsInClosure axioms q (get_or (normal q ∷ []) k e)
    one zero e lt = (0, refl)
    one (suc k) e lt = absurd (omega arith)

-- a place inside the list stays inside
pub kept_inside : (old new : List Member) (k : ℕ) (d : Member) → AreKept old new → k < length old → k < length new
kept_inside old new k d kept lt = slice_get_within new k (get_or old k d) (kept k (get_or old k d) (slice_get-get_or old k d lt))
