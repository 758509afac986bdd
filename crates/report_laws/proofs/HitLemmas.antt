-- The conflicts and the candidates, found out from what the members of closed blocks match.
use Rattle.std.proofs.Common.{◌≡◌, ℕ, suc, ◌<◌, ◌≤◌, ◌⊎◌, ◌↔◌, inl, inr, List, [], ◌∷◌, ◌++◌, length, map, filter, filter_map, All, AllPairs, Any, Contains}
use Rattle.std.proofs.Common.{Bool, true, false, true≢false, not, ◌&&◌, ◌||◌, cond, Option, Some, None, slice_get, refl, sym, subst, ap, ◌∙◌, arith}
use Rattle.std.specs.List.{list_any, cons_option}
use Rattle.std.specs.Str.{bytes_eq}
use Rattle.std.specs.Ordering.{nat_cmp, ordering_then}
use Rattle.std.specs.declared.cmp.Ordering.{Ordering}
use Rattle.std.specs.declared.cmp.Ordering.TheVariants.{Less, Equal, Greater}
use Rattle.std.specs.Cmp.Lexicographic.{slice_cmp}
use Rattle.std.proofs.lemmas.Bool.{cases_lt, cases_eq}
use Rattle.std.proofs.lemmas.Bool.Decides.{nat_tests}
use Rattle.std.proofs.lemmas.List.Elements.{All-contains, Contains-append_left, Contains-append_right}
use Rattle.std.proofs.lemmas.List.Kept.{AllPairs-cons, AllPairs-filter}
use Rattle.std.proofs.lemmas.Option.{slice_get_within}
use Rattle.cq_terms.specs.declared.axioms.Axiom.{Axiom}
use Rattle.cq_terms.specs.Knowledge.{Knowledge, AreDistinct}
use Rattle.cq_terms.specs.Conflicts.{single, couple}
use Rattle.cq_terms.specs.Query.{Query}
use Rattle.cq_meaning.specs.Conflicts.{FactsEntail, AreConsistent, Conflict, AreConflicts}
use Rattle.cq_meaning.specs.Candidates.{Every, AreCandidates, IsCause, AreCauses}
use Rattle.cq_meaning.specs.Entailment.{HasImage}
use Rattle.cq_terms.specs.Lists.{IsAscending}
use Rattle.cq_meaning.specs.Rewriting.{IsClosure, IsSupport, disjointness_query}
use Rattle.cq_meaning.specs.RewritingLaws.{IsForbidden}
use Rattle.cq_meaning.proofs.Ascending.{All-of}
use Rattle.cq_meaning.proofs.ByLists.{consistent_by_lists}
use Rattle.cq_meaning.proofs.Forbidden.{own_is_forbidden, conflict_is_forbidden}
use Rattle.cq_meaning.proofs.Listed.{append_cases}
use Rattle.cq_meaning.proofs.Members.{Contains-head, Contains-later, Contains-cases, Contains-nil, Contains-slice_get, slice_get-Contains}
use Rattle.cq_meaning.proofs.Supports.{cause_is_support, by_any_support}
use Rattle.clause_meaning.proofs.Members.{Contains-map, Contains-map_cases}
use Rattle.cq_steps.specs.declared.moves.Move.{Move}
use Rattle.priority_graph.specs.Split.{has}
use Rattle.report_text.specs.declared.line.Line.{Line}
use Rattle.report_text.specs.declared.line.Line.TheVariants as line
use Rattle.report_text.specs.declared.line.Origin.{Origin}
use Rattle.report_text.specs.declared.line.Origin.TheVariants as origin
use Rattle.report_rules.specs.declared.place.Place.{Place}
use Rattle.report_rules.specs.declared.place.Place.TheVariants.{AfterHead, InBlock, InConflicts}
use Rattle.report_rules.specs.Inputs.{Input, Form, OneQuery, Session}
use Rattle.report_rules.specs.Order.{place_of, IsNegativeAt, AreBlocksOver}
use Rattle.report_rules.specs.Told.{same_origin, is_query, block_of}
use Rattle.report_rules.specs.Blocks.{MayJoin}
use Rattle.report_laws.specs.BlockLaws.{IsPast}
use Rattle.report_rules.specs.Accepted.{AreRight}
use Rattle.report_laws.specs.Standing.{Block, with_query, blocks_of, members_at}
use Rattle.report_laws.specs.AtStanding.{Candidate, AreCandidatesOf}
use Rattle.report_laws.specs.HitLaws.{OverAndClosed, negative_members, IsHit, NegativeBlocksStand, ForbiddenAreHits, AreInOrder, owns_of, pairs_of}
use Rattle.report_laws.specs.HitLaws.{ForbiddenTellConflicts, Group, AreSupports, is_free, has_all, is_least, causes_of, candidates_of}
use Rattle.report_laws.specs.HitLaws.{SupportsTellCandidates, HitsAreSupports, LawsOfHits}
use Rattle.report_laws.proofs.BlocksDone.{last_stands, disjointness_blocks_are_closures}
use Rattle.report_laws.proofs.ClosureLemmas.{negative_block_is_closure}
use Rattle.report_laws.proofs.ListLemmas.{Contains-filter, filter-Contains, AllPairs-head, AllPairs-tail}
use Rattle.report_laws.proofs.StandingLemmas.{same_or_not, blocks_listed}
use Rattle.report_laws.proofs.TestLemmas.{Tells, tells_like, tells_both, tells_not, tells_any, tells_all, tells_has, tells_same, Contains-filter_map}
use Rattle.report_laws.proofs.TestLemmas.{filter_map-Contains}
use Rattle.report_laws.proofs.UniqueLists.{less_once}

-- ---- blocks that are over

module _ (input : Input) (b : List Line) (r : AreRight input b) (w : OverAndClosed input b) (i : ℕ) (rule : Axiom) (q : Query)
    (at : slice_get input.kb.axioms i ≡ Some rule) (is : disjointness_query rule ≡ Some q) where
  negative : IsNegativeAt input.kb.axioms i
  negative = (rule, q, at, is)

  past : IsPast input.form (place_of b) i → IsClosure input.kb.axioms q (block_of (origin.Negative i) b)
  past p = disjointness_blocks_are_closures input b r i rule q at is p

  last : place_of b ≡ InBlock (origin.Negative i) → IsClosure input.kb.axioms q (block_of (origin.Negative i) b)
  last e = negative_block_is_closure input i rule q at is b r (last_stands i b e) (w.closed (origin.Negative i) e)

  in_block : (j : ℕ) → place_of b ≡ InBlock (origin.Negative j) → (suc j ≤ i → ⊥) → IsClosure input.kb.axioms q (block_of (origin.Negative i) b)
  in_block j e none = elim (cases_lt i j) [
    | inl l ↦ past (subst (λ (p : Place). IsPast input.form p i) (sym e) l)
    | inr l ↦ elim (cases_eq i j) [
      | inl same ↦ last (e ∙ ap (λ (k : ℕ). InBlock (origin.Negative k)) (sym same))
      | inr other ↦ absurd (none (grind arith))
    ]
  ]

  over : (form : Form) → input.form ≡ form → (p : Place) → place_of b ≡ p → AreBlocksOver form input.kb.axioms p
      → IsClosure input.kb.axioms q (block_of (origin.Negative i) b)
  over form f InConflicts e h = past (subst (λ (p : Place). IsPast input.form p i) (sym e) tt)
  over OneQuery f (InBlock (origin.Negative j)) e h = in_block j e (λ l. h i l negative)
  over Session f (InBlock (origin.Negative j)) e h = in_block j e (λ l. h i l negative)
  over OneQuery f (InBlock origin.Query) e h = absurd (h i (omega arith) negative)
  over Session f (InBlock origin.Query) e h = absurd h
  over OneQuery f AfterHead e h = absurd h
  over Session f AfterHead e h = absurd (h i (omega arith) negative)
  over OneQuery f _ e h = absurd h
  over Session f _ e h = absurd h

pub stand : NegativeBlocksStand
stand input b r w i rule q at is = over input b r w i rule q at is input.form refl (place_of b) refl w.over

-- ---- the members of the blocks

-- a block that has a member is that of a disjointness
member_negative : (input : Input) (b : List Line) → AreRight input b → (i : ℕ) (m : Query) → Contains (block_of (origin.Negative i) b) m
    → IsNegativeAt input.kb.axioms i
member_negative input [] r i m k = absurd (Contains-nil m k)
member_negative input (line.Cq o q step ∷ b) (r, rs) i m k = elim (same_or_not (origin.Negative i) o) [
  | inl w ↦ joined (sym w.1) (block_of (origin.Negative i) b) refl step (subst (λ (p : Origin). MayJoin input b p (block_of p b) q step) (sym w.1) r.own)
      (λ m' k'. member_negative input b rs i m' k')
  | inr w ↦ member_negative input b rs i m (rw w.0 at k)
]
  where
    joined : o ≡ origin.Negative i → (members : List Query) → block_of (origin.Negative i) b ≡ members → (step : Option (ℕ × Move))
        → MayJoin input b (origin.Negative i) (block_of (origin.Negative i) b) q step
        → ((m : Query) → Contains (block_of (origin.Negative i) b) m → IsNegativeAt input.kb.axioms i) → IsNegativeAt input.kb.axioms i
    joined e members same step j again = go members same step (subst (λ (ms : List Query). MayJoin input b (origin.Negative i) ms q step) same j)
      where
        go : (members : List Query) → block_of (origin.Negative i) b ≡ members → (step : Option (ℕ × Move))
            → MayJoin input b (origin.Negative i) members q step → IsNegativeAt input.kb.axioms i
        go [] same None (rule, at, is) = (rule, q, at, is)
        go [] same (Some s) j = absurd j
        go (first ∷ others) same s j = again first (subst (λ (ms : List Query). Contains ms first) (sym same) (Contains-head first others))
member_negative input (line.Head axioms budget facts keep repairs version ∷ b) (r, rs) i m k = member_negative input b rs i m k
member_negative input (line.Conflict facts rule member ∷ b) (r, rs) i m k = member_negative input b rs i m k
member_negative input (line.Ask candidate tuple causes members ∷ b) (r, rs) i m k = member_negative input b rs i m k
member_negative input (line.Try question assume ∷ b) (r, rs) i m k = member_negative input b rs i m k
member_negative input (line.Learn number clause ∷ b) (r, rs) i m k = member_negative input b rs i m k
member_negative input (line.Core number kept dropped ∷ b) (r, rs) i m k = member_negative input b rs i m k
member_negative input (line.Done how core ∷ b) (r, rs) i m k = member_negative input b rs i m k
member_negative input (line.Forget clauses ∷ b) (r, rs) i m k = member_negative input b rs i m k
member_negative input (line.Answer brave ar iar cores names tuple ∷ b) (r, rs) i m k = member_negative input b rs i m k
member_negative input (line.End answers brave ar iar undecided ∷ b) (r, rs) i m k = member_negative input b rs i m k

-- the blocks have different origins
abbrev Apart : List Block → Type 0
Apart [] = Unit {0}
Apart (b ∷ blocks) = ((c : Block) → Contains blocks c → b.origin ≡ c.origin → ⊥) × Apart blocks

-- each block of one query more has the query's origin, or that of a block before
origin_with : (blocks : List Block) (o : Origin) (q : Query) (c : Block) → Contains (with_query blocks o q) c → (o ≡ c.origin)
    ⊎ ((d : Block) × Contains blocks d × (d.origin ≡ c.origin))
origin_with [] o q c m = elim (Contains-cases (record { origin = o; members = q ∷ [] }) [] c m)
    [ inl e ↦ inl (ap (λ (x : Block). x.origin) e) | inr n ↦ absurd (Contains-nil c n) ]
origin_with (b ∷ blocks) o q c m = by (same_origin o b.origin) m (λ k. origin_with blocks o q c k)
  where
    by : (t : Bool) → Contains (cond t (record { origin = b.origin; members = b.members ++ q ∷ [] } ∷ blocks) (b ∷ with_query blocks o q)) c
        → (Contains (with_query blocks o q) c → (o ≡ c.origin) ⊎ ((d : Block) × Contains blocks d × (d.origin ≡ c.origin)))
        → (o ≡ c.origin) ⊎ ((d : Block) × Contains (b ∷ blocks) d × (d.origin ≡ c.origin))
    by true m again = elim (Contains-cases (record { origin = b.origin; members = b.members ++ q ∷ [] }) blocks c m) [
      | inl e ↦ inr (b, Contains-head b blocks, ap (λ (x : Block). x.origin) e)
      | inr k ↦ inr (c, Contains-later b blocks c k, refl)
    ]
    by false m again = elim (Contains-cases b (with_query blocks o q) c m) [
      | inl e ↦ inr (b, Contains-head b blocks, ap (λ (x : Block). x.origin) e)
      | inr k ↦ elim (again k) [ inl e ↦ inl e | inr w ↦ inr (w.0, Contains-later b blocks w.0 w.1, w.2) ]
    ]

apart_with : (blocks : List Block) (o : Origin) (q : Query) → Apart blocks → Apart (with_query blocks o q)
apart_with [] o q a = ((λ c m e. Contains-nil c m), tt)
apart_with (b ∷ blocks) o q (h, a) = by (same_or_not o b.origin) (apart_with blocks o q a)
  where
    by : ((same_origin o b.origin ≡ true) × (o ≡ b.origin)) ⊎ ((same_origin o b.origin ≡ false) × (o ≡ b.origin → ⊥)) → Apart (with_query blocks o q)
        → Apart (with_query (b ∷ blocks) o q)
    by (inl w) again = rw w.0 (h, a)
    by (inr w) again = rw w.0 ((λ c m e. elim (origin_with blocks o q c m) [ inl f ↦ w.1 (f ∙ sym e) | inr v ↦ h v.0 v.1 (e ∙ sym v.2) ]), again)

apart_filter : (p : Block → Bool) (blocks : List Block) → Apart blocks → Apart (filter p blocks)
apart_filter p [] a = tt
apart_filter p (b ∷ blocks) (h, a) = by (p b) (apart_filter p blocks a)
  where
    by : (t : Bool) → Apart (filter p blocks) → Apart (cond t (b ∷ filter p blocks) (filter p blocks))
    by true again = ((λ c m e. h c (Contains-filter p blocks c m).0 e), again)
    by false again = again

blocks_apart : (b : List Line) → Apart (blocks_of b)
blocks_apart [] = tt
blocks_apart (line.Cq o q step ∷ b) = apart_with (blocks_of b) o q (blocks_apart b)
blocks_apart (line.End answers brave ar iar undecided ∷ b) = apart_filter (λ c. not (is_query c.origin)) (blocks_of b) (blocks_apart b)
blocks_apart (line.Head axioms budget facts keep repairs version ∷ b) = blocks_apart b
blocks_apart (line.Conflict facts rule member ∷ b) = blocks_apart b
blocks_apart (line.Ask candidate tuple causes members ∷ b) = blocks_apart b
blocks_apart (line.Try question assume ∷ b) = blocks_apart b
blocks_apart (line.Learn number clause ∷ b) = blocks_apart b
blocks_apart (line.Core number kept dropped ∷ b) = blocks_apart b
blocks_apart (line.Done how core ∷ b) = blocks_apart b
blocks_apart (line.Forget clauses ∷ b) = blocks_apart b
blocks_apart (line.Answer brave ar iar cores names tuple ∷ b) = blocks_apart b

-- each block is the one of its origin
at_own : (blocks : List Block) → Apart blocks → (c : Block) → Contains blocks c → members_at blocks c.origin ≡ c.members
at_own [] a c m = absurd (Contains-nil c m)
at_own (b ∷ blocks) (h, a) c m = by (same_or_not c.origin b.origin) (Contains-cases b blocks c m) (λ k. at_own blocks a c k)
  where
    by : ((same_origin c.origin b.origin ≡ true) × (c.origin ≡ b.origin)) ⊎ ((same_origin c.origin b.origin ≡ false) × (c.origin ≡ b.origin → ⊥)) → (b ≡ c)
        ⊎ Contains blocks c
        → (Contains blocks c → members_at blocks c.origin ≡ c.members) → members_at (b ∷ blocks) c.origin ≡ c.members
    by (inl w) (inl e) again = rw w.0 (ap (λ (x : Block). x.members) e)
    by (inl w) (inr k) again = absurd (h c k (sym w.1))
    by (inr w) (inl e) again = absurd (w.1 (ap (λ (x : Block). x.origin) (sym e)))
    by (inr w) (inr k) again = rw w.0 (again k)

-- a member of an origin's block is in a block of it
at_block : (blocks : List Block) (o : Origin) (m : Query) → Contains (members_at blocks o) m → (c : Block) × Contains blocks c × (c.origin ≡ o)
    × Contains c.members m
at_block [] o m k = absurd (Contains-nil m k)
at_block (b ∷ blocks) o m k = by (same_or_not o b.origin) (λ l. at_block blocks o m l)
  where
    by : ((same_origin o b.origin ≡ true) × (o ≡ b.origin)) ⊎ ((same_origin o b.origin ≡ false) × (o ≡ b.origin → ⊥))
        → (Contains (members_at blocks o) m → (c : Block) × Contains blocks c × (c.origin ≡ o) × Contains c.members m)
        → (c : Block) × Contains (b ∷ blocks) c × (c.origin ≡ o) × Contains c.members m
    by (inl w) again = (b, Contains-head b blocks, sym w.1, rw w.0 at k)
    by (inr w) again = let (c, l, e, n) = again (rw w.0 at k) in (c, Contains-later b blocks c l, e, n)

-- the members of the blocks of disjointnesses
to_negative : (blocks : List Block) (c : Block) (m : Query) → Contains blocks c → is_query c.origin ≡ false → Contains c.members m
    → Contains (negative_members blocks) m
to_negative [] c m k e n = absurd (Contains-nil c k)
to_negative (b ∷ blocks) c m k e n = by (is_query b.origin) refl (Contains-cases b blocks c k) (λ l. to_negative blocks c m l e n)
  where
    by : (t : Bool) → is_query b.origin ≡ t → (b ≡ c) ⊎ Contains blocks c → (Contains blocks c → Contains (negative_members blocks) m)
        → Contains (cond t (negative_members blocks) (b.members ++ negative_members blocks)) m
    by true f (inl same) again = absurd (true≢false (sym f ∙ (ap (λ (x : Block). is_query x.origin) same ∙ e)))
    by true f (inr l) again = again l
    by false f (inl same) again = Contains-append_left b.members (negative_members blocks) m (subst (λ (x : Block). Contains x.members m) (sym same) n)
    by false f (inr l) again = Contains-append_right b.members (negative_members blocks) m (again l)

of_negative : (blocks : List Block) (m : Query) → Contains (negative_members blocks) m → (c : Block) × Contains blocks c × (is_query c.origin ≡ false)
    × Contains c.members m
of_negative [] m k = absurd (Contains-nil m k)
of_negative (b ∷ blocks) m k = by (is_query b.origin) refl k (λ l. of_negative blocks m l)
  where
    by : (t : Bool) → is_query b.origin ≡ t → Contains (cond t (negative_members blocks) (b.members ++ negative_members blocks)) m
        → (Contains (negative_members blocks) m → (c : Block) × Contains blocks c × (is_query c.origin ≡ false) × Contains c.members m)
        → (c : Block) × Contains (b ∷ blocks) c × (is_query c.origin ≡ false) × Contains c.members m
    by true f k again = let (c, l, e, n) = again k in (c, Contains-later b blocks c l, e, n)
    by false f k again = elim (append_cases b.members (negative_members blocks) m k) [
      | inl n ↦ (b, Contains-head b blocks, f, n)
      | inr l ↦ (let (c, l', e, n) = again l in (c, Contains-later b blocks c l', e, n))
    ]

any_of : {X : Type 0} (P : X → Type 0) (xs : List X) (x : X) → Contains xs x → P x → Any P xs
any_of P xs x (k, l, e) p = (k, x, l, e, p)

of_any : {X : Type 0} (P : X → Type 0) (xs : List X) → Any P xs → (x : X) × Contains xs x × P x
of_any P xs (k, x, l, e, p) = (x, (k, l, e), p)

module _ (input : Input) (b : List Line) (r : AreRight input b) (w : OverAndClosed input b) (numbers : List ℕ) where
  hit_of : IsForbidden input.kb numbers → IsHit input.kb.facts (negative_members (blocks_of b)) [] numbers
  hit_of (rule, q, there, is, (member, inside, image)) =
      let (i, at) = slice_get-Contains input.kb.axioms rule there in
      let m = ((stand input b r w i rule q at is) member).1 inside in
      let (c, k, e, n) = at_block (blocks_of b) (origin.Negative i) member
      (subst (λ (ms : List Query). Contains ms member) (sym (blocks_listed b (origin.Negative i))) m) in
      any_of (λ (p : Query). HasImage input.kb.facts p [] numbers) (negative_members (blocks_of b)) member
      (to_negative (blocks_of b) c member k (ap is_query e) n) image

  of_hit : IsHit input.kb.facts (negative_members (blocks_of b)) [] numbers → IsForbidden input.kb numbers
  of_hit h =
      let (m, k, image) = of_any (λ (p : Query). HasImage input.kb.facts p [] numbers) (negative_members (blocks_of b)) h in
      let (c, l, e, n) = of_negative (blocks_of b) m k in
      go c.origin e m (subst (λ (ms : List Query). Contains ms m) (sym (at_own (blocks_of b) (blocks_apart b) c l) ∙ blocks_listed b c.origin) n) image
    where
      go : (o : Origin) → is_query o ≡ false → (m : Query) → Contains (block_of o b) m → HasImage input.kb.facts m [] numbers → IsForbidden input.kb numbers
      go origin.Query e m k image = absurd (true≢false e)
      go (origin.Negative i) e m k image =
          let (rule, q, at, is) = member_negative input b r i m k in
          (rule, q, Contains-slice_get input.kb.axioms i rule at, is, (m, ((stand input b r w i rule q at is) m).0 k, image))

pub forbidden : ForbiddenAreHits
forbidden input b r w numbers = (hit_of input b r w numbers, of_hit input b r w numbers)

pub supports : HitsAreSupports
supports kb q members closure tuple numbers = (
  (λ (m, inside, image). any_of (λ (p : Query). HasImage kb.facts p tuple numbers) members m ((closure m).1 inside) image),
  (λ h. let (m, k, image) = of_any (λ (p : Query). HasImage kb.facts p tuple numbers) members h in (m, (closure m).0 k, image)),
)

-- ---- conflicts

-- what a function gives of a list in order is in order
filter_map_pairs : {X Y : Type 0} (R : X → X → Type 0) (Q : Y → Y → Type 0) (f : X → Option Y)
    → ((x y : X) (a b : Y) → R x y → f x ≡ Some a → f y ≡ Some b → Q a b) → (xs : List X) → AllPairs R xs → AllPairs Q (filter_map f xs)
filter_map_pairs R Q f keeps [] h = λ i j d l m. absurd (omega arith)
filter_map_pairs {X} {Y} R Q f keeps (x ∷ xs) h = go (f x) refl (filter_map_pairs R Q f keeps xs (AllPairs-tail R x xs h))
  where
    go : (o : Option Y) → f x ≡ o → AllPairs Q (filter_map f xs) → AllPairs Q (cons_option o (filter_map f xs))
    go None e again = again
    go (Some a) e again = AllPairs-cons Q a (filter_map f xs) (All-of (Q a) (filter_map f xs)
        (λ b m. let (y, k, g) = Contains-filter_map f xs b m in keeps x y a b (AllPairs-head R x xs h y k) e g)) again

single_is : (x : List ℕ) (i : ℕ) → single x ≡ Some i → x ≡ i ∷ []
single_is [] i e = absurd (cc e)
single_is (a ∷ []) i e = let same : a ≡ i = cc e in ap (λ (n : ℕ). n ∷ []) same
single_is (a ∷ b ∷ x) i e = absurd (cc e)

couple_is : (x : List ℕ) (c : ℕ × ℕ) → couple x ≡ Some c → x ≡ c.0 ∷ c.1 ∷ []
couple_is [] c e = absurd (cc e)
couple_is (a ∷ []) c e = absurd (cc e)
couple_is (a ∷ b ∷ []) c e = pair (one a b c e)
  where
    one : (a b : ℕ) (c : ℕ × ℕ) → Some (a, b) ≡ Some c → (a, b) ≡ c
    one a b c e = cc e

    pair : (a, b) ≡ c → a ∷ b ∷ [] ≡ c.0 ∷ c.1 ∷ []
    pair e = ap (λ (p : ℕ × ℕ). p.0 ∷ p.1 ∷ []) e
couple_is (a ∷ b ∷ d ∷ x) c e = absurd (cc e)

less_one : (a b : ℕ) → slice_cmp nat_cmp (a ∷ []) (b ∷ []) ≡ Less → a < b
less_one a b e = by (nat_cmp a b) refl e
  where
    by : (o : Ordering) → nat_cmp a b ≡ o → ordering_then o Equal ≡ Less → a < b
    by Less is e = grind (arith, nat_tests)
    by Equal is e = absurd (cc e)
    by Greater is e = absurd (cc e)

less_two : (a b c d : ℕ) → slice_cmp nat_cmp (a ∷ b ∷ []) (c ∷ d ∷ []) ≡ Less → (a < c) ⊎ ((a ≡ c) × (b < d))
less_two a b c d e = by (nat_cmp a c) refl e
  where
    by : (o : Ordering) → nat_cmp a c ≡ o → ordering_then o (slice_cmp nat_cmp (b ∷ []) (d ∷ [])) ≡ Less → (a < c) ⊎ ((a ≡ c) × (b < d))
    by Less is e = inl (grind (arith, nat_tests))
    by Equal is e = let same : a ≡ c = grind (arith, nat_tests) in inr (same, less_one b d e)
    by Greater is e = absurd (cc e)

-- neither of two tests holds
neither : (a b : Bool) → not (a || b) ≡ true → (a ≡ false) × (b ≡ false)
neither true b e = absurd (true≢false (sym e))
neither false true e = absurd (true≢false (sym e))
neither false false e = (refl, refl)

module _ (kb : Knowledge) (distinct : AreDistinct kb.facts) (images : List (List ℕ)) (order : AreInOrder images)
    (exact : (numbers : List ℕ) → Contains images numbers ↔ IsForbidden kb numbers) where
  forbidden_fact : (numbers : List ℕ) → IsForbidden kb numbers → (i : ℕ) → Contains numbers i → i < length kb.facts
  forbidden_fact numbers (rule, q, there, is, (member, inside, image)) i m = let (f, k, at) = (image.match.2 i).0 m in slice_get_within kb.facts i f at

  forbidden_ascends : (numbers : List ℕ) → IsForbidden kb numbers → IsAscending numbers
  forbidden_ascends numbers (rule, q, there, is, (member, inside, image)) = image.ascending

  own_there : (i : ℕ) → Contains (owns_of images) i ↔ IsForbidden kb (i ∷ [])
  own_there i = (
    (λ m. let (x, k, e) = Contains-filter_map single images i m in (exact (i ∷ [])).0 (subst (Contains images) (single_is x i e) k)),
    (λ f. filter_map-Contains single images (i ∷ []) i ((exact (i ∷ [])).1 f) refl),
  )

  not_own : (i : ℕ) → has (owns_of images) i ≡ false → ¬ IsForbidden kb (i ∷ [])
  not_own i e f = true≢false (sym ((tells_has (owns_of images) i).1 ((own_there i).1 f)) ∙ e)

  own_not : (i : ℕ) → ¬ IsForbidden kb (i ∷ []) → has (owns_of images) i ≡ false
  own_not i n = go (has (owns_of images) i) refl
    where
      go : (t : Bool) → has (owns_of images) i ≡ t → t ≡ false
      go true e = absurd (n ((own_there i).0 ((tells_has (owns_of images) i).0 e)))
      go false e = refl

  abbrev passes : ℕ × ℕ → Bool
  passes p = not (has (owns_of images) p.0 || has (owns_of images) p.1)

  both_pass : (i j : ℕ) → has (owns_of images) i ≡ false → has (owns_of images) j ≡ false → not (has (owns_of images) i || has (owns_of images) j) ≡ true
  both_pass i j e f = rw (e, f) refl

  pair_to : (i j : ℕ) → Contains (pairs_of images) (i, j) → (i < j) × Conflict kb i j
  pair_to i j m =
      let (k, t) = Contains-filter (λ (p : ℕ × ℕ). not (has (owns_of images) p.0 || has (owns_of images) p.1)) (filter_map couple images) (i, j) m in
      let (x, l, e) = Contains-filter_map couple images (i, j) k in
      let f : IsForbidden kb (i ∷ j ∷ []) = (exact (i ∷ j ∷ [])).0 (subst (Contains images) (couple_is x (i, j) e) l) in
      let less : i < j = forbidden_ascends (i ∷ j ∷ []) f 0 1 0 (omega arith) (omega arith) in
      let n = neither (has (owns_of images) i) (has (owns_of images) j) t in
      (less, (conflict_is_forbidden kb distinct i j less).1 (not_own i n.0, not_own j n.1, f))

  pair_from : (i j : ℕ) → (i < j) × Conflict kb i j → Contains (pairs_of images) (i, j)
  pair_from i j (less, c) =
      let (n, n', f) = (conflict_is_forbidden kb distinct i j less).0 c in
      filter-Contains (λ (p : ℕ × ℕ). not (has (owns_of images) p.0 || has (owns_of images) p.1)) (filter_map couple images) (i, j)
      (filter_map-Contains couple images (i ∷ j ∷ []) (i, j) ((exact (i ∷ j ∷ [])).1 f) refl) (both_pass i j (own_not i n) (own_not j n'))

  told : AreConflicts kb (owns_of images) (pairs_of images)
  told = record {
    owns_exact = λ i. (
      (λ m. let f = (own_there i).0 m in (forbidden_fact (i ∷ []) f i (Contains-head i []), (own_is_forbidden kb distinct i).1 f)),
      (λ (l, s). (own_there i).1 ((own_is_forbidden kb distinct i).0 s)),
    );
    pairs_exact = λ i j. (pair_to i j, pair_from i j);
    owns_ascending = filter_map_pairs (λ (a b : List ℕ). slice_cmp nat_cmp a b ≡ Less) (λ (i j : ℕ). i < j) single
        (λ x y a b l e f. less_one a b (subst (λ (u : List ℕ). slice_cmp nat_cmp (a ∷ []) u ≡ Less) (single_is y b f)
        (subst (λ (u : List ℕ). slice_cmp nat_cmp u y ≡ Less) (single_is x a e) l))) images order;
    pairs_ascending = AllPairs-filter (λ (p r : ℕ × ℕ). (p.0 < r.0) ⊎ ((p.0 ≡ r.0) × (p.1 < r.1)))
        (λ (p : ℕ × ℕ). not (has (owns_of images) p.0 || has (owns_of images) p.1)) (filter_map couple images)
        (filter_map_pairs (λ (a b : List ℕ). slice_cmp nat_cmp a b ≡ Less) (λ (p r : ℕ × ℕ). (p.0 < r.0) ⊎ ((p.0 ≡ r.0) × (p.1 < r.1))) couple
        (λ x y a b l e f. less_two a.0 a.1 b.0 b.1 (subst (λ (u : List ℕ). slice_cmp nat_cmp (a.0 ∷ a.1 ∷ []) u ≡ Less) (couple_is y b f)
        (subst (λ (u : List ℕ). slice_cmp nat_cmp u y ≡ Less) (couple_is x a e) l))) images order);
  }

pub conflicts : ForbiddenTellConflicts
conflicts kb distinct images order exact = told kb distinct images order exact

-- ---- candidates

abbrev candidate_so : List ℕ → List (List ℕ) → Candidate
candidate_so tuple causes = record { tuple = tuple; causes = causes }

tells_implies : {P Q : Type 0} (a b : Bool) → Tells a P → Tells b Q → Tells (not a || b) (P → Q)
tells_implies true b t u = ((λ e p. u.0 e), (λ h. u.1 (h (t.0 refl))))
tells_implies false b t u = ((λ e p. absurd (true≢false (sym (t.1 p)))), (λ h. refl))

tells_free : (owns : List ℕ) (pairs : List (ℕ × ℕ)) (c : List ℕ)
    → Tells (is_free owns pairs c) (All (λ i. ¬ Contains c i) owns × All (λ (p : ℕ × ℕ). ¬ (Contains c p.0 × Contains c p.1)) pairs)
tells_free owns pairs c = tells_both (not (list_any (has c) owns)) (not (list_any (λ (p : ℕ × ℕ). has c p.0 && has c p.1) pairs))
    (tells_like (not (list_any (has c) owns)) (tells_not (list_any (has c) owns) (tells_any (has c) (Contains c) (tells_has c) owns))
    (λ n. All-of (λ i. ¬ Contains c i) owns (λ i m k. n (i, m, k))) (λ h (i, m, k). All-contains (λ i. ¬ Contains c i) owns i h m k))
    (tells_like (not (list_any (λ (p : ℕ × ℕ). has c p.0 && has c p.1) pairs)) (tells_not (list_any (λ (p : ℕ × ℕ). has c p.0 && has c p.1) pairs)
    (tells_any (λ (p : ℕ × ℕ). has c p.0 && has c p.1) (λ (p : ℕ × ℕ). Contains c p.0 × Contains c p.1)
    (λ p. tells_both (has c p.0) (has c p.1) (tells_has c p.0) (tells_has c p.1)) pairs))
    (λ n. All-of (λ (p : ℕ × ℕ). ¬ (Contains c p.0 × Contains c p.1)) pairs (λ p m k. n (p, m, k)))
    (λ h (p, m, k). All-contains (λ (p : ℕ × ℕ). ¬ (Contains c p.0 × Contains c p.1)) pairs p h m k))

tells_least : (images : List (List ℕ)) (c : List ℕ) → Tells (is_least images c) ((d : List ℕ) → Contains images d → All (Contains c) d → d ≡ c)
tells_least images c = tells_all (λ d. not (has_all c d) || bytes_eq d c) (λ (d : List ℕ). All (Contains c) d → d ≡ c)
    (λ d. tells_implies (has_all c d) (bytes_eq d c)
    (tells_like (has_all c d) (tells_all (has c) (Contains c) (tells_has c) d) (λ h. All-of (Contains c) d h) (λ h i m. All-contains (Contains c) d i h m))
    (tells_same d c)) images

module _ (kb : Knowledge) (distinct : AreDistinct kb.facts) (q : Query) (owns : List ℕ) (pairs : List (ℕ × ℕ)) (exact : AreConflicts kb owns pairs)
    (groups : List Group) (are : AreSupports kb q groups) where
  -- there is one group of a tuple
  one_group : (gs : List Group) → AreInOrder (map (λ (g : Group). g.tuple) gs) → (g h : Group) → Contains gs g → Contains gs h → g.tuple ≡ h.tuple → g ≡ h
  one_group [] o g h m k e = absurd (Contains-nil g m)
  one_group (x ∷ gs) o g h m k e = by (Contains-cases x gs g m) (Contains-cases x gs h k)
      (λ l n. one_group gs (AllPairs-tail (λ (a b : List ℕ). slice_cmp nat_cmp a b ≡ Less) x.tuple (map (λ (g : Group). g.tuple) gs) o) g h l n e)
    where
      above : (y : Group) → Contains gs y → x.tuple ≡ y.tuple → ⊥
      above y m e =
          let l = AllPairs-head (λ (a b : List ℕ). slice_cmp nat_cmp a b ≡ Less) x.tuple (map (λ (g : Group). g.tuple) gs) o y.tuple
          (Contains-map (λ (g : Group). g.tuple) gs y m) in
          let l' = subst (λ (t : List ℕ). slice_cmp nat_cmp t y.tuple ≡ Less) e l in
          less_once y.tuple y.tuple l' l'

      by : (x ≡ g) ⊎ Contains gs g → (x ≡ h) ⊎ Contains gs h → (Contains gs g → Contains gs h → g ≡ h) → g ≡ h
      by (inl a) (inl b) again = sym a ∙ b
      by (inl a) (inr b) again = absurd (above h b (ap (λ (y : Group). y.tuple) a ∙ e))
      by (inr a) (inl b) again = absurd (above g a (ap (λ (y : Group). y.tuple) b ∙ sym e))
      by (inr a) (inr b) again = again a b

  -- a support of the group's tuple is an image of the group
  support_of : (g : Group) → Contains groups g → (numbers : List ℕ) → Contains g.images numbers → IsSupport kb q g.tuple numbers
  support_of g m numbers k = (are.exact g.tuple numbers).1 (g, m, refl, k)

  image_of : (g : Group) → Contains groups g → (numbers : List ℕ) → IsSupport kb q g.tuple numbers → Contains g.images numbers
  image_of g m numbers s =
      let (h, k, e, l) = (are.exact g.tuple numbers).0 s in
      subst (λ (x : Group). Contains x.images numbers) (one_group groups are.tuples h g k m e) l

  module _ (g : Group) (m : Contains groups g) where
    abbrev test : List ℕ → Bool
    test numbers = is_free owns pairs numbers && is_least g.images numbers

    tells_test : (c : List ℕ) → Tells (is_free owns pairs c && is_least g.images c)
        (AreConsistent kb (Contains c) × ((smaller : List ℕ) → IsSupport kb q g.tuple smaller → All (Contains c) smaller → smaller ≡ c))
    tells_test c = tells_both (is_free owns pairs c) (is_least g.images c)
        (tells_like (is_free owns pairs c) (tells_free owns pairs c) (consistent_by_lists kb owns pairs exact (Contains c)).1
        (consistent_by_lists kb owns pairs exact (Contains c)).0)
        (tells_like (is_least g.images c) (tells_least g.images c) (λ h d s w. h d (image_of g m d s) w) (λ h d k w. h d (support_of g m d k) w))

    causes_are : AreCauses kb q g.tuple (causes_of owns pairs g.images)
    causes_are = record {
      each = All-of (λ c. IsAscending c × IsCause kb q g.tuple (Contains c)) (causes_of owns pairs g.images) each;
      complete = λ c a w.
          let (s, free, least) = (cause_is_support kb q g.tuple distinct c a).0 w in
          filter-Contains (λ numbers. is_free owns pairs numbers && is_least g.images numbers) g.images c (image_of g m c s) ((tells_test c).1 (free, least));
      ascending = AllPairs-filter (λ (a b : List ℕ). slice_cmp nat_cmp a b ≡ Less) (λ numbers. is_free owns pairs numbers && is_least g.images numbers)
          g.images (All-contains (λ (g : Group). AreInOrder g.images) groups g are.images m);
    }
      where
        each : (c : List ℕ) → Contains (causes_of owns pairs g.images) c → IsAscending c × IsCause kb q g.tuple (Contains c)
        each c k =
            let (l, t) = Contains-filter (λ numbers. is_free owns pairs numbers && is_least g.images numbers) g.images c k in
            let s = support_of g m c l in
            let a : IsAscending c = s.2.ascending in
            (a, (cause_is_support kb q g.tuple distinct c a).1 (s, ((tells_test c).0 t).0, ((tells_test c).0 t).1))

  same_tuples : (gs : List Group) → map (λ (c : Candidate). c.tuple) (candidates_of owns pairs gs) ≡ map (λ (g : Group). g.tuple) gs
  same_tuples [] = refl
  same_tuples (g ∷ gs) = ap (λ (ts : List (List ℕ)). g.tuple ∷ ts) (same_tuples gs)

  tuples_are : AreCandidates kb q (map (λ (g : Group). g.tuple) groups)
  tuples_are = record {
    entailed = All-of (FactsEntail kb Every q) (map (λ (g : Group). g.tuple) groups)
        (λ t m. let (g, k, e) = Contains-map_cases (λ (g : Group). g.tuple) groups t m in subst (FactsEntail kb Every q) e (entailed g k));
    complete = λ t w. let (numbers, s) = (by_any_support kb q t).0 w in let (g, k, e, l) = (are.exact t numbers).0 s in
        subst (Contains (map (λ (g : Group). g.tuple) groups)) e (Contains-map (λ (g : Group). g.tuple) groups g k);
    ascending = are.tuples;
  }
    where
      entailed : (g : Group) → Contains groups g → FactsEntail kb Every q g.tuple
      entailed g k = go g.images refl
        where
          go : (images : List (List ℕ)) → g.images ≡ images → FactsEntail kb Every q g.tuple
          go [] e = absurd (are.some g k e)
          go (x ∷ xs) e = (by_any_support kb q g.tuple).1 (x, support_of g k x (subst (λ (is : List (List ℕ)). Contains is x) (sym e) (Contains-head x xs)))

  candidates_are : AreCandidatesOf kb q (candidates_of owns pairs groups)
  candidates_are = record {
    tuples = subst (AreCandidates kb q) (sym (same_tuples groups)) tuples_are;
    causes = All-of (λ (c : Candidate). AreCauses kb q c.tuple c.causes) (candidates_of owns pairs groups) (λ c m.
        let (g, k, e) = Contains-map_cases (λ (g : Group). candidate_so g.tuple (causes_of owns pairs g.images)) groups c m in
        subst (λ (c : Candidate). AreCauses kb q c.tuple c.causes) e (causes_are g k));
  }

pub candidates : SupportsTellCandidates
candidates kb distinct q owns pairs exact groups are = candidates_are kb distinct q owns pairs exact groups are

pub laws : LawsOfHits
laws = record { stand = stand; forbidden = forbidden; conflicts = conflicts; supports = supports; candidates = candidates }
