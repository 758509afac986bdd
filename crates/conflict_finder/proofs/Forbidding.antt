-- What the closures of the disjointnesses show is what is forbidden, and so what conflicts.
use Rattle.std.proofs.Common.{◌≡◌, ℕ, ◌<◌, List, [], ◌∷◌, length, Contains, ◌⊎◌, inl, inr, slice_get, Some, sym, ap, ◌∙◌, subst}
use Rattle.std.specs.List.{All}
use Rattle.std.proofs.lemmas.Option.{slice_get_within}
use Rattle.std.proofs.lemmas.List.Elements.{All-contains}
use Rattle.cq_terms.specs.declared.axioms.Axiom.{Axiom}
use Rattle.cq_terms.specs.declared.facts.Fact.{Fact}
use Rattle.cq_terms.specs.Knowledge.{AreDistinct, kb_of}
use Rattle.cq_terms.specs.Query.{Query}
use Rattle.cq_meaning.specs.Entailment.{HasImage}
use Rattle.cq_meaning.specs.Conflicts.{IsSelfInconsistent, Conflict}
use Rattle.cq_meaning.specs.Rewriting.{disjointness_query, IsClosure, IsInClosure}
use Rattle.cq_meaning.specs.RewritingLaws.{IsForbidden}
use Rattle.cq_meaning.proofs.Members.{Contains-head, Contains-later, Contains-cases, Contains-nil, Contains-slice_get, slice_get-Contains}
use Rattle.cq_meaning.proofs.Forbidden.{own_is_forbidden, conflict_is_forbidden}
use Rattle.cq_meaning.proofs.Ascending.{All-of}
use Rattle.cq_meaning.proofs.Places.{some_inj}
use Rattle.cq_steps.specs.declared.closure.Member.{Member}
use Rattle.cq_steps.specs.Derivation.{IsDerivation}
use Rattle.cq_steps.specs.Closing.{Closes, queries_of}
use Rattle.cq_steps.specs.Closing.{ClosingListIsClosure}
use Rattle.conflict_finder.specs.Finding.{Forbids, AreClosures, Shows}
use Rattle.conflict_finder.specs.Images.{IsShort, AreShort}
use Rattle.conflict_finder.proofs.Shapes.{short_in_closure, short_forbidden}

-- each closure is a derivation, as its type keeps
abbrev pub AreDerivations : List (ℕ × List Member) → Type 0
AreDerivations closures = All (λ c. IsDerivation c.1) closures

query_there : (members : List Member) (m : Member) → Contains members m → Contains (queries_of members) m.query
query_there [] m c = absurd (Contains-nil m c)
query_there (x ∷ members) m c = by (Contains-cases x members m c) (query_there members m)
  where
    by : (x ≡ m) ⊎ Contains members m → (Contains members m → Contains (queries_of members) m.query) → Contains (queries_of (x ∷ members)) m.query
    by (inl e) again = subst (λ (y : Member). Contains (queries_of (x ∷ members)) y.query) e (Contains-head x.query (queries_of members))
    by (inr d) again = Contains-later x.query (queries_of members) m.query (again d)

query_from : (members : List Member) (q : Query) → Contains (queries_of members) q → (m : Member) × Contains members m × (m.query ≡ q)
query_from [] q c = absurd (Contains-nil q c)
query_from (x ∷ members) q c = by (Contains-cases x.query (queries_of members) q c) (query_from members q)
  where
    by : (x.query ≡ q) ⊎ Contains (queries_of members) q → (Contains (queries_of members) q → (m : Member) × Contains members m × (m.query ≡ q))
        → (m : Member) × Contains (x ∷ members) m × (m.query ≡ q)
    by (inl e) again = (x, Contains-head x members, e)
    by (inr d) again = let w = again d in (w.0, Contains-later x members w.0 w.1, w.2)

module _ (law : ClosingListIsClosure) (axioms : List Axiom) (facts : List Fact) (closures : List (ℕ × List Member)) (are : AreClosures axioms closures)
    (derived : AreDerivations closures) where
  -- each closure is that of its query
  closure_is : (n : ℕ) (members : List Member) → Contains closures (n, members) → (q : Query) × Forbids axioms n q × IsClosure axioms q (queries_of members)
  closure_is n members c =
      let w = All-contains (λ (d : ℕ × List Member). (q : Query) × Forbids axioms d.0 q × Closes axioms q d.1) closures (n, members) are.each c in
      let d = All-contains (λ (d : ℕ × List Member). IsDerivation d.1) closures (n, members) derived c in
      (w.0, w.1, law axioms w.0 members d w.2)

  pub all_short : AreShort closures
  all_short = All-of (λ (c : ℕ × List Member). All (λ (m : Member). IsShort m.query) c.1) closures
      (λ c there. All-of (λ (m : Member). IsShort m.query) c.1 (λ m inside. short c m there inside))
    where
      short : (c : ℕ × List Member) (m : Member) → Contains closures c → Contains c.1 m → IsShort m.query
      short (n, members) m c d =
          let w = closure_is n members c in
          short_in_closure axioms w.0 m.query (short_forbidden w.1.0 w.0 w.1.2) ((w.2 m.query).0 (query_there members m d))

  pub shown_forbidden : (numbers : List ℕ) (n p : ℕ) → Shows facts closures n p numbers → IsForbidden (kb_of axioms facts) numbers
  shown_forbidden numbers n p (members, m, c, at, h) =
      let w = closure_is n members c in
      (w.1.0, w.0, Contains-slice_get axioms n w.1.0 w.1.1, w.1.2, (m.query, (w.2 m.query).0 (query_there members m (Contains-slice_get members p m at)), h))

  pub forbidden_shown : (numbers : List ℕ) → IsForbidden (kb_of axioms facts) numbers → (n : ℕ) × (p : ℕ) × Shows facts closures n p numbers
  forbidden_shown numbers (rule, q, c, d, (r, inside, h)) =
      let at = slice_get-Contains axioms rule c in
      let ms = are.complete at.0 q (rule, at.1, d) in
      let w = closure_is at.0 ms.0 ms.1 in
      let same : w.0 ≡ q = same_query w.1.0 w.0 rule q at.0 w.1.1 w.1.2 at.1 d in
      let it = query_from ms.0 r ((w.2 r).1 (subst (λ (z : Query). IsInClosure axioms z r) (sym same) inside)) in
      let place = slice_get-Contains ms.0 it.0 it.1 in
      (at.0, place.0, (ms.0, it.0, ms.1, place.1, subst (λ (z : Query). HasImage facts z [] numbers) (sym it.2) h))
    where
      same_query : (a : Axiom) (p : Query) (b : Axiom) (s : Query) (i : ℕ) → slice_get axioms i ≡ Some a → disjointness_query a ≡ Some p
          → slice_get axioms i ≡ Some b → disjointness_query b ≡ Some s → p ≡ s
      same_query a p b s i e f g h = let same : a ≡ b = some_inj (sym e ∙ g) in some_inj (sym f ∙ ap disjointness_query same ∙ h)

  module _ (distinct : AreDistinct facts) where
    pub own_shown : (i : ℕ) → IsSelfInconsistent (kb_of axioms facts) i → (n : ℕ) × (p : ℕ) × Shows facts closures n p (i ∷ [])
    own_shown i s = forbidden_shown (i ∷ []) ((own_is_forbidden (kb_of axioms facts) distinct i).0 s)

    pub shown_own : (i n p : ℕ) → Shows facts closures n p (i ∷ []) → IsSelfInconsistent (kb_of axioms facts) i
    shown_own i n p s = (own_is_forbidden (kb_of axioms facts) distinct i).1 (shown_forbidden (i ∷ []) n p s)

    pub conflict_shown : (i j : ℕ) → i < j → Conflict (kb_of axioms facts) i j → (n : ℕ) × (p : ℕ) × Shows facts closures n p (i ∷ j ∷ [])
    conflict_shown i j l c = forbidden_shown (i ∷ j ∷ []) (((conflict_is_forbidden (kb_of axioms facts) distinct i j l).0 c).2)

    pub shown_conflict : (i j n p : ℕ) → i < j → ((m q : ℕ) → Shows facts closures m q (i ∷ []) → ⊥) → ((m q : ℕ) → Shows facts closures m q (j ∷ []) → ⊥)
        → Shows facts closures n p (i ∷ j ∷ []) → Conflict (kb_of axioms facts) i j
    shown_conflict i j n p l a b s = (conflict_is_forbidden (kb_of axioms facts) distinct i j l).1 (
      (λ f. let w = forbidden_shown (i ∷ []) f in a w.0 w.1 w.2),
      (λ f. let w = forbidden_shown (j ∷ []) f in b w.0 w.1 w.2),
      shown_forbidden (i ∷ j ∷ []) n p s,
    )

-- the numbers of an image are those of facts
pub image_within : (facts : List Fact) (q : Query) (numbers : List ℕ) → HasImage facts q [] numbers → (i : ℕ) → Contains numbers i → i < length facts
image_within facts q numbers h i c = let f = (h.match.2 i).0 c in slice_get_within facts i f.0 f.2
