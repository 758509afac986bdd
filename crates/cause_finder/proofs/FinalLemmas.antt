-- The supports of a query and the candidates that are picked from them are the answers.
use Rattle.std.proofs.Common.{◌≡◌, ℕ, zero, suc, ◌<◌, ◌≤◌, List, [], ◌∷◌, length, get_or, map, All, AllPairs, Contains, inl, inr, slice_get, Some, refl, sym}
use Rattle.std.proofs.Common.{ap, ◌∙◌, subst, arith}
use Rattle.std.specs.List.{AllZip}
use Rattle.std.specs.Ordering.{nat_cmp}
use Rattle.std.specs.declared.cmp.Ordering.TheVariants.{Less}
use Rattle.std.specs.Cmp.Lexicographic.{slice_cmp}
use Rattle.std.proofs.lemmas.List.{get_or-map, length-map}
use Rattle.std.proofs.lemmas.List.Elements.{All-contains, All-map, Contains-get_or}
use Rattle.std.proofs.lemmas.Option.{slice_get_within}
use Rattle.cq_terms.specs.declared.axioms.Axiom.{Axiom}
use Rattle.cq_terms.specs.declared.facts.Fact.{Fact}
use Rattle.cq_terms.specs.declared.hits.Clash.{Clash}
use Rattle.cq_terms.specs.declared.hits.Hit.{Hit}
use Rattle.cq_terms.specs.Conflicts.{own_facts, couples, ConflictGraph}
use Rattle.cq_terms.specs.Knowledge.{AreDistinct, kb_of}
use Rattle.cq_terms.specs.Query.{Query}
use Rattle.cq_meaning.specs.Candidates.{Every, IsCause, AreCandidates, AreCauses}
use Rattle.cq_meaning.specs.ConflictGraphs.{AreConflictsOf}
use Rattle.cq_meaning.specs.Conflicts.{AreConsistent, FactsEntail}
use Rattle.cq_meaning.specs.Entailment.{HasImage}
use Rattle.cq_terms.specs.Lists.{IsAscending}
use Rattle.cq_meaning.specs.Rewriting.{IsClosure, IsSupport}
use Rattle.cq_meaning.proofs.Ascending.{All-of}
use Rattle.cq_meaning.proofs.ByLists.{consistent_by_lists}
use Rattle.cq_meaning.proofs.Members.{Contains-head, Contains-later, Contains-slice_get}
use Rattle.cq_meaning.proofs.Supports.{by_any_support, cause_is_support}
use Rattle.cq_steps.specs.declared.closure.Member.{Member}
use Rattle.cq_steps.specs.Closing.{queries_of}
use Rattle.cause_finder.specs.declared.candidate.Candidate.{Candidate}
use Rattle.cause_finder.specs.declared.support.Support.{Support}
use Rattle.cause_finder.specs.Causes.{MatchesAt, IsLeastMember, HasLeastMembers, AreAnswers, HasMoreSupports}
use Rattle.cause_finder.specs.Supports.{pair_of, AreSupports, HasMorePairs}
use Rattle.query_matching.specs.Hits.{IsBefore}
use Rattle.query_matching.proofs.Ascending.{no_longer}
use Rattle.query_matching.proofs.RowLemmas.{not_before_itself}
use Rattle.cause_finder.proofs.SmallerLemmas.{images_in_order}
use Rattle.cause_finder.proofs.SupportLemmas.{pairs_ascend}
use Rattle.cq_terms.specs.Conflicts.{AreInConflict}
use Rattle.cause_finder.specs.Groups.{IsFree, IsFreeAmong, ArePicked, IsPickedFrom, AreGrouped}

-- an element of a mapped list is the image of one
map_there : {X Y : Type 0} (f : X → Y) (xs : List X) (x : X) → Contains xs x → Contains (map f xs) (f x)
map_there f xs x (k, l, e) = (k, omega (arith, l, length-map xs f), get_or-map f xs k x (f x) l ∙ ap f e)

module _ (axioms : List Axiom) (facts : List Fact) (q : Query) (members : List Member) (closure : IsClosure axioms q (queries_of members)) where
  -- a member that matches makes a support
  pub match_supports : (tuple image : List ℕ) (i : ℕ) → MatchesAt facts members tuple image i → IsSupport (kb_of axioms facts) q tuple image
  match_supports tuple image i (m, at, is) = (
    m.query,
    (closure m.query).0
        (map_there (λ (x : Member). x.query) members m (Contains-slice_get members i m at)),
    is,
  )

  pub more_supports : (limit : ℕ) → HasMorePairs facts members limit → HasMoreSupports (kb_of axioms facts) q limit
  more_supports limit more = record {
    items = more.items;
    each = λ k d l. let w = more.each k d l in match_supports (get_or more.items k d).tuple (get_or more.items k d).image w.0 w.1;
    apart = more.apart;
    longer = more.longer;
  }

-- an element of a mapped list comes from one at some place
map_back : {X Y : Type 0} (f : X → Y) (xs : List X) (y : Y) → Contains (map f xs) y → (i : ℕ) × (x : X) × (slice_get xs i ≡ Some x) × (f x ≡ y)
map_back f [] y (k, l, e) = absurd (omega arith)
map_back f (x ∷ xs) y (zero, l, e) = (0, x, refl, e)
map_back f (x ∷ xs) y (suc k, l, e) = let w = map_back f xs y (k, omega arith, e) in (suc w.0, w.1, w.2, w.3)

-- what is free of the listed conflicts is consistent
module _ (axioms : List Axiom) (facts : List Fact) (graph : ConflictGraph) (conflicts : AreConflictsOf (kb_of axioms facts) graph) (image : List ℕ) where
  free_consistent : IsFree graph.clashes image → AreConsistent (kb_of axioms facts) (Contains image)
  free_consistent free = (consistent_by_lists (kb_of axioms facts) (own_facts graph.clashes) (couples graph.clashes) conflicts.exact (Contains image)).1 (
    All-of (λ i. ¬ Contains image i) (own_facts graph.clashes) (λ i m s. (All-contains (IsFreeAmong graph.clashes image) image i free s).0 m),
    All-of (λ p. ¬ (Contains image p.0 × Contains image p.1)) (couples graph.clashes)
        (λ p m w. All-contains (λ j. ¬ AreInConflict graph.clashes p.0 j) image p.1 (All-contains (IsFreeAmong graph.clashes image) image p.0 free w.0).1 w.1
        (inl m)),
  )

  consistent_free : AreConsistent (kb_of axioms facts) (Contains image) → IsFree graph.clashes image
  consistent_free consistent =
      let w = (consistent_by_lists (kb_of axioms facts) (own_facts graph.clashes) (couples graph.clashes) conflicts.exact (Contains image)).0 consistent in
      All-of (IsFreeAmong graph.clashes image) image (λ i s. (
        (λ own. All-contains (λ l. ¬ Contains image l) (own_facts graph.clashes) i w.0 own s),
        All-of (λ j. ¬ AreInConflict graph.clashes i j) image (λ j t h. elim h [
          | inl m ↦ All-contains (λ p. ¬ (Contains image p.0 × Contains image p.1)) (couples graph.clashes) (i, j) w.1 m (s, t)
          | inr m ↦ All-contains (λ p. ¬ (Contains image p.0 × Contains image p.1)) (couples graph.clashes) (j, i) w.1 m (t, s)
        ]),
      ))

module _ (axioms : List Axiom) (facts : List Fact) (q : Query) (members : List Member) (closure : IsClosure axioms q (queries_of members))
    (supports : List Support) (are : AreSupports facts members supports) where
  to_support : (s : Support) → Contains supports s → IsSupport (kb_of axioms facts) q s.tuple s.image
  to_support s c = match_supports axioms facts q members closure s.tuple s.image s.member (are.gathered.each s c).1.matches

  from_support : (tuple image : List ℕ) → IsSupport (kb_of axioms facts) q tuple image → (s : Support) × Contains supports s × (s.tuple ≡ tuple)
      × (s.image ≡ image)
  from_support tuple image (member, inside, has) =
      let w = map_back (λ (m : Member). m.query) members member ((closure member).1 inside) in
      let found = are.gathered.complete w.0 (record { tuple = tuple; image = image }) (slice_get_within members w.0 w.1 w.2)
      (w.1, w.2, subst (λ (p : Query). HasImage facts p tuple image) (sym w.3) has) in
      (found.0, found.1, ap (λ (h : Hit). h.tuple) found.2, ap (λ (h : Hit). h.image) found.2)

  module _ (clashes : List Clash) (candidates : List Candidate) (grouped : AreGrouped clashes supports candidates) where
    pub are_candidates : AreCandidates (kb_of axioms facts) q (map (λ c. c.tuple) candidates)
    are_candidates = record {
      entailed = All-map (FactsEntail (kb_of axioms facts) Every q) (λ (c : Candidate). c.tuple) candidates
          (All-of (λ (c : Candidate). FactsEntail (kb_of axioms facts) Every q c.tuple) candidates (λ c k.
          let w = grouped.each c k in
          subst (FactsEntail (kb_of axioms facts) Every q) w.2 ((by_any_support (kb_of axioms facts) q w.0.tuple).1 (w.0.image, to_support w.0 w.1))));
      complete = λ tuple e.
          let n = (by_any_support (kb_of axioms facts) q tuple).0 e in
          let s = from_support tuple n.0 n.1 in
          let c = grouped.complete s.0 s.1 in
          subst (Contains (map (λ (x : Candidate). x.tuple) candidates)) (c.2 ∙ s.2) (map_there (λ (x : Candidate). x.tuple) candidates c.0 c.1);
      ascending = ascend;
    }
      where
        ascend : AllPairs (λ a b. slice_cmp nat_cmp a b ≡ Less) (map (λ (c : Candidate). c.tuple) candidates)
        ascend i j d lt within =
            let e : Candidate = record { tuple = d; causes = []; members = [] } in
            let inside : j < length candidates = omega (arith, within, length-map candidates (λ (c : Candidate). c.tuple)) in
            let left = get_or-map (λ (c : Candidate). c.tuple) candidates i e d (omega arith) in
            let right = get_or-map (λ (c : Candidate). c.tuple) candidates j e d inside in
            rw (left, right) (grouped.ascending i j e lt inside)

    -- ---- the causes of one candidate

    module _ (graph : ConflictGraph) (distinct : AreDistinct facts) (conflicts : AreConflictsOf (kb_of axioms facts) graph) (c : Candidate)
        (picked : List Support) (exact : ArePicked graph.clashes supports c.tuple picked) where
      picked_is_cause : (s : Support) → Contains picked s → IsAscending s.image × IsCause (kb_of axioms facts) q c.tuple (Contains s.image)
      picked_is_cause s k =
          let w = exact.each s k in
          let support = subst (λ (t : List ℕ). IsSupport (kb_of axioms facts) q t s.image) w.same (to_support s w.there) in
          let ascending = support.2.ascending in (
            ascending,
            (cause_is_support (kb_of axioms facts) q c.tuple distinct s.image ascending).1 (
              support,
              free_consistent axioms facts graph conflicts s.image w.free,
              λ smaller sup part.
                  let r = from_support c.tuple smaller sup in
                  sym r.3 ∙ w.least r.0 r.1 r.2 (subst (λ (xs : List ℕ). All (Contains s.image) xs) (sym r.3) part),
            ),
          )

      cause_is_picked : (numbers : List ℕ) → IsAscending numbers → IsCause (kb_of axioms facts) q c.tuple (Contains numbers)
          → Contains (map (λ s. s.image) picked) numbers
      cause_is_picked numbers ascending cause =
          let w = (cause_is_support (kb_of axioms facts) q c.tuple distinct numbers ascending).0 cause in
          let s = from_support c.tuple numbers w.0 in
          let in_picked = exact.complete s.0 (record {
            there = s.1;
            same = s.2;
            free = consistent_free axioms facts graph conflicts s.0.image
                (subst (λ (xs : List ℕ). AreConsistent (kb_of axioms facts) (Contains xs)) (sym s.3) w.1);
            least = λ r d e part. w.2 r.image (subst (λ (t : List ℕ). IsSupport (kb_of axioms facts) q t r.image) e (to_support r d))
                (subst (λ (xs : List ℕ). All (Contains xs) r.image) s.3 part) ∙ sym s.3;
          }) in
          subst (Contains (map (λ (x : Support). x.image) picked)) s.3 (map_there (λ (x : Support). x.image) picked s.0 in_picked)

      pub are_causes : AreCauses (kb_of axioms facts) q c.tuple (map (λ s. s.image) picked)
      are_causes = record {
        each = All-map (λ (xs : List ℕ). IsAscending xs × IsCause (kb_of axioms facts) q c.tuple (Contains xs)) (λ (s : Support). s.image) picked
            (All-of (λ (s : Support). IsAscending s.image × IsCause (kb_of axioms facts) q c.tuple (Contains s.image)) picked picked_is_cause);
        complete = cause_is_picked;
        ascending = ascend;
      }
        where
          ascend : AllPairs (λ a b. slice_cmp nat_cmp a b ≡ Less) (map (λ (s : Support). s.image) picked)
          ascend i j d lt within =
              let e : Support = record { tuple = []; image = d; member = 0 } in
              let inside : j < length picked = omega (arith, within, length-map picked (λ (s : Support). s.image)) in
              let left = get_or-map (λ (s : Support). s.image) picked i e d (omega arith) in
              let right = get_or-map (λ (s : Support). s.image) picked j e d inside in
              let first = (exact.each (get_or picked i e) (Contains-get_or picked i e (omega arith))).same in
              let second = (exact.each (get_or picked j e) (Contains-get_or picked j e inside)).same in
              rw (left, right) (images_in_order (get_or picked i e) (get_or picked j e) (first ∙ sym second) (exact.ascending i j e lt inside))

      pub least_members : (xs : List Support) → ((s : Support) → Contains xs s → Contains picked s)
          → AllZip (IsLeastMember facts members c.tuple) (map (λ s. s.image) xs) (map (λ s. s.member) xs)
      least_members [] inside = tt
      least_members (x ∷ xs) inside =
          let w = exact.each x (inside x (Contains-head x xs)) in (
            subst (λ (t : List ℕ). IsLeastMember facts members t x.image x.member) w.same (are.gathered.each x w.there).1,
            least_members xs (λ s k. inside s (Contains-later x xs s k)),
          )

-- ---- all of it

-- the images of supports are ascending numbers of facts
module _ (facts : List Fact) (members : List Member) (supports : List Support) (are : AreSupports facts members supports) where
  pub images_known : (count : ℕ) → count ≡ length facts → All (λ s. All (λ i. i < count) s.image) supports
  images_known count counted = All-of (λ (s : Support). All (λ i. i < count) s.image) supports (λ s c. All-of (λ (i : ℕ). i < count) s.image (λ i d.
      let (m, at, is) = (are.gathered.each s c).1.matches in
      let (f, there, found) = (is.match.2 i).0 d in
      omega (arith, counted, slice_get_within facts i f found)))

  pub images_ascend : All (λ s. IsAscending s.image) supports
  images_ascend = All-of (λ (s : Support). IsAscending s.image) supports (λ s c. (are.gathered.each s c).1.matches.2.ascending)

module _ (axioms : List Axiom) (facts : List Fact) (q : Query) (members : List Member) (closure : IsClosure axioms q (queries_of members))
    (supports : List Support) (are : AreSupports facts members supports) where
  -- no more supports than are listed
  pub no_more_supports : (limit : ℕ) → length supports ≤ limit → HasMoreSupports (kb_of axioms facts) q limit → ⊥
  no_more_supports limit few more =
      let within = no_longer IsBefore not_before_itself more.items (map pair_of supports) more.apart there in
      omega (arith, within, length-map supports pair_of, few, more.longer)
    where
      there : (h : Hit) → Contains more.items h → Contains (map pair_of supports) h
      there h c =
          let s = from_support axioms facts q members closure supports are h.tuple h.image
          (All-contains (λ (x : Hit). IsSupport (kb_of axioms facts) q x.tuple x.image) more.items h more.each c) in
          let same : pair_of s.0 ≡ h = λ i. record { tuple = s.2 i; image = s.3 i } in
          subst (Contains (map pair_of supports)) same (map_there pair_of supports s.0 s.1)

  pub are_answers : (graph : ConflictGraph) (candidates : List Candidate) → AreDistinct facts → AreConflictsOf (kb_of axioms facts) graph
      → AreGrouped graph.clashes supports candidates → AreAnswers axioms facts q members candidates
  are_answers graph candidates distinct conflicts grouped = record {
    candidates = are_candidates axioms facts q members closure supports are graph.clashes candidates grouped;
    causes = All-of (λ (c : Candidate). AreCauses (kb_of axioms facts) q c.tuple c.causes) candidates (λ c k. causes_of c (grouped.picked c k));
    least = All-of (HasLeastMembers facts members) candidates (λ c k. least_of c (grouped.picked c k));
  }
    where
      causes_of : (c : Candidate) → IsPickedFrom graph.clashes supports c → AreCauses (kb_of axioms facts) q c.tuple c.causes
      causes_of c (picked, exact, causes, places) = subst (AreCauses (kb_of axioms facts) q c.tuple) (sym causes)
          (are_causes axioms facts q members closure supports are graph.clashes candidates grouped graph distinct conflicts c picked exact)

      least_of : (c : Candidate) → IsPickedFrom graph.clashes supports c → HasLeastMembers facts members c
      least_of c (picked, exact, causes, places) =
          subst (λ (xs : List (List ℕ)). AllZip (IsLeastMember facts members c.tuple) xs c.members) (sym causes)
          (subst (λ (ys : List ℕ). AllZip (IsLeastMember facts members c.tuple) (map (λ (s : Support). s.image) picked) ys) (sym places)
          (least_members axioms facts q members closure supports are graph.clashes candidates grouped graph distinct conflicts c picked exact picked
          (λ s k. k)))
