-- The lines of closures are right, block after block.
use Rattle.std.proofs.Common.{◌≡◌, ◌≢◌, ℕ, zero, suc, ◌<◌, ◌≤◌, ◌⊎◌, inl, inr, List, [], ◌∷◌, ◌++◌, length, Contains, AllPairs, Bool, true, false}
use Rattle.std.proofs.Common.{eq-eqb, ne_eqb, Option, Some, None, slice_get, refl, sym, subst, ap, ◌∙◌, arith}
use Rattle.std.specs.Prelude.{option_map, All, if◌then◌else◌}
use Rattle.std.proofs.lemmas.List.{append-nil, append_assoc, map_push}
use Rattle.std.proofs.lemmas.List.Elements.{Contains-append_right, Contains-append_cases, Contains-append_left, All-contains}
use Rattle.std.proofs.lemmas.Option.{slice_get-map}
use Rattle.cq_terms.specs.declared.axioms.Axiom.{Axiom}
use Rattle.cq_terms.specs.declared.axioms.Axiom.TheVariants.{Sub, Disjoint, SubRole, DisjointRole}
use Rattle.cq_terms.specs.declared.query.Term.TheVariants.{Var}
use Rattle.cq_terms.specs.Knowledge.{Knowledge}
use Rattle.cq_terms.specs.Query.{Query}
use Rattle.cq_meaning.specs.NormalForm.{normal}
use Rattle.cq_meaning.specs.Rewriting.{IsAxiomMove, IsReduceMove, disjointness_query, basic_at, role_at}
use Rattle.cq_meaning.proofs.Again.{normal_again}
use Rattle.cq_meaning.proofs.Members.{Contains-head, Contains-cases, Contains-nil}
use Rattle.cq_steps.specs.declared.moves.Move.{Move}
use Rattle.cq_steps.specs.declared.moves.Move.TheVariants as move
use Rattle.cq_steps.specs.declared.closure.Member.{Member}
use Rattle.cq_steps.specs.Closing.{queries_of, IsQueryOf, AreDerived, Closes}
use Rattle.cq_steps.specs.Derivation.{IsDerivation}
use Rattle.cq_steps.proofs.ClosureLemmas.{Contains-from_query, query_from_Contains}
use Rattle.conflict_finder.specs.Finding.{Forbids, AreClosures}
use Rattle.report_text.specs.declared.line.Line.{Line}
use Rattle.report_text.specs.declared.line.Line.TheVariants as line
use Rattle.report_text.specs.declared.line.Origin.{Origin}
use Rattle.report_text.specs.declared.line.Origin.TheVariants as origin
use Rattle.report_rules.specs.declared.place.Place.{Place}
use Rattle.report_rules.specs.declared.place.Place.TheVariants.{InBlock}
use Rattle.report_rules.specs.Inputs.{Input, OneQuery, report_on}
use Rattle.report_rules.specs.Order.{place_of, IsNegativeAt, next_axiom, IsLastBlock, IsNextBlock, MayHaveBlock}
use Rattle.report_rules.specs.Told.{same_origin, block_of, conflicts_of, HasQueryLeft}
use Rattle.report_rules.specs.Blocks.{IsOfOrigin, MayJoin, IsClosedBlock}
use Rattle.report_rules.specs.Rules.{LeavesNoneOut}
use Rattle.report_rules.specs.Accepted.{Right}
use Rattle.report_laws.proofs.ListLemmas.{AllPairs-head, AllPairs-tail}
use Rattle.classifier.specs.WholeLines.{cq_line, cq_lines, negative_lines, block_lines}
use Rattle.classifier.specs.WholeWriting.{with_lines, AreRightInTurn}
use Rattle.classifier.proofs.WholeWritingLemmas.{with_lines-append, in_turn_append}

-- ---- lists

-- the item behind the first of two lists
get_behind : {X : Type 0} (xs : List X) (y : X) (ys : List X) → slice_get (xs ++ y ∷ ys) (length xs) ≡ Some y
get_behind [] y ys = refl
get_behind (x ∷ xs) y ys = get_behind xs y ys

-- an item before the end of the first of two lists is one of it
get_before : {X : Type 0} (xs ys : List X) (k : ℕ) (x : X) → k < length xs → slice_get (xs ++ ys) k ≡ Some x → slice_get xs k ≡ Some x
get_before [] ys k x l e = absurd (omega arith)
get_before (z ∷ xs) ys zero x l e = e
get_before (z ∷ xs) ys (suc k) x l e = get_before xs ys k x (omega arith) e

-- ---- what a block has

same_origin-same : (o : Origin) → same_origin o o ≡ true
same_origin-same origin.Query = refl
same_origin-same (origin.Negative i) = eq-eqb i i refl

pub negative_differs : (i j : ℕ) → i ≢ j → same_origin (origin.Negative i) (origin.Negative j) ≡ false
negative_differs i j n = ne_eqb i j n

pub block_more : (o : Origin) (m : Member) (before : List Line) → block_of o (cq_line o m ∷ before) ≡ block_of o before ++ m.query ∷ []
block_more o m before =
    ap (λ (b : Bool). if b then block_of o before ++ m.query ∷ [] else block_of o before) (same_origin-same o)

pub block_grows : (o : Origin) (members : List Member) (before : List Line)
    → block_of o (with_lines before (cq_lines o members)) ≡ block_of o before ++ queries_of members
block_grows o [] before = sym (append-nil (block_of o before))
block_grows o (m ∷ members) before = block_grows o members (cq_line o m ∷ before)
    ∙ (ap (λ (qs : List Query). qs ++ queries_of members) (block_more o m before)
    ∙ append_assoc (block_of o before) (m.query ∷ []) (queries_of members))

pub block_stays : (o p : Origin) → same_origin o p ≡ false → (members : List Member) (before : List Line)
    → block_of o (with_lines before (cq_lines p members)) ≡ block_of o before
block_stays o p differ [] before = refl
block_stays o p differ (m ∷ members) before = block_stays o p differ members (cq_line p m ∷ before)
    ∙ ap (λ (b : Bool). if b then block_of o before ++ m.query ∷ [] else block_of o before) differ

pub place_in_block : (o : Origin) (m : Member) (members : List Member) (before : List Line)
    → place_of (with_lines before (cq_lines o (m ∷ members))) ≡ InBlock o
place_in_block o m [] before = refl
place_in_block o m (n ∷ members) before = place_in_block o n members (cq_line o m ∷ before)

pub conflicts_stay : (o : Origin) (members : List Member) (before : List Line) → conflicts_of (with_lines before (cq_lines o members)) ≡ conflicts_of before
conflicts_stay o [] before = refl
conflicts_stay o (m ∷ members) before = conflicts_stay o members (cq_line o m ∷ before)

-- ---- a closed block

-- a block that has a closure is closed
pub closed_block : (axioms : List Axiom) (q : Query) (members : List Member) → Closes axioms q members → IsClosedBlock axioms (queries_of members)
closed_block axioms q members closes p r c s = by (query_from_Contains members p c)
  where
    by : IsQueryOf members p → Contains (queries_of members) r
    by (k, m, l, e, same) = Contains-from_query members r (elim s [
      | inl w ↦ closes.closed m (move.Axiom w.0 w.1) r (k, l, e) (subst (λ (x : Query). IsAxiomMove axioms x w.0 w.1 r) (sym same) w.2)
      | inr w ↦ closes.closed m (move.Reduce w.0 w.1) r (k, l, e) (subst (λ (x : Query). IsReduceMove x w.0 w.1 r) (sym same) w.2)
    ])

-- ---- a member joins its block

-- no earlier member has its query
no_earlier : (xs : List Member) (m : Member) (rest : List Member) → AllPairs (λ a b. a.query ≢ b.query) (xs ++ m ∷ rest)
    → Contains (queries_of xs) m.query → ⊥
no_earlier [] m rest d c = Contains-nil m.query c
no_earlier (x ∷ xs) m rest d c = elim (Contains-cases x.query (queries_of xs) m.query c) [
  | inl e ↦ AllPairs-head (λ (a b : Member). a.query ≢ b.query) x (xs ++ m ∷ rest) d m (Contains-append_right xs (m ∷ rest) m (Contains-head m rest)) e
  | inr k ↦ no_earlier xs m rest (AllPairs-tail (λ (a b : Member). a.query ≢ b.query) x (xs ++ m ∷ rest) d) k
]

joins_first : (input : Input) (before : List Line) (o : Origin) (start : Query) (m : Member) → m.step ≡ None → m.query ≡ start
    → IsOfOrigin input before o start → MayJoin input before o [] m.query m.step
joins_first input before o start m step same starts =
    subst (λ (s : Option (ℕ × Move)). MayJoin input before o [] m.query s) (sym step) (subst (IsOfOrigin input before o) (sym same) starts)

joins_later : (input : Input) (before : List Line) (o : Origin) (start : Query) (d : Member) (done : List Member) (m : Member) (rest : List Member)
    → IsDerivation ((d ∷ done) ++ m ∷ rest) → AreDerived input.kb.axioms start ((d ∷ done) ++ m ∷ rest)
    → MayJoin input before o (queries_of (d ∷ done)) m.query m.step
joins_later input before o start d done m rest derivation derived = by (derivation.later (length (d ∷ done)) m (omega arith) at)
  where
    at : slice_get ((d ∷ done) ++ m ∷ rest) (length (d ∷ done)) ≡ Some m
    at = get_behind (d ∷ done) m rest

    by : (k : ℕ) × (s : Move) × (m.step ≡ Some (k, s)) × (k < length (d ∷ done)) → MayJoin input before o (queries_of (d ∷ done)) m.query m.step
    by (k, s, is, earlier) =
        let (p, there, leads) = derived.steps (length (d ∷ done)) k m s at is in
        let inside : slice_get (d ∷ done) k ≡ Some p = get_before (d ∷ done) (m ∷ rest) k p earlier there in
        let listed : slice_get (queries_of (d ∷ done)) k ≡ Some p.query = slice_get-map (λ (x : Member). x.query) (d ∷ done) k
        ∙ ap (option_map (λ (x : Member). x.query)) inside in
        subst (λ (t : Option (ℕ × Move)). MayJoin input before o (queries_of (d ∷ done)) m.query t) (sym is)
        ((p.query, listed, leads), no_earlier (d ∷ done) m rest derivation.distinct)

-- ---- a line of a block

-- a line of the block may come next
pub record MayEnter (axioms : List Axiom) (before : List Line) (o : Origin) : Type 0 where
  pub order : MayHaveBlock OneQuery axioms (place_of before) o
  pub closed : (p : Origin) → place_of before ≡ InBlock p → (o ≡ p) ⊎ IsClosedBlock axioms (block_of p before)

-- so it is behind one of it
entered : (axioms : List Axiom) (before : List Line) (o : Origin) (m : Member) → MayEnter axioms (cq_line o m ∷ before) o
entered axioms before o m = record { order = inl refl; closed = λ p e. inl (cc) }

one_query_left : (kb : Knowledge) (texts : List (List ℕ)) (q : Query) (before : List Line) (o : Origin) (query : Query) (step : Option (ℕ × Move))
    → HasQueryLeft (report_on kb texts q) before (line.Cq o query step)
one_query_left kb texts q before origin.Query query step = λ e. absurd (cc)
one_query_left kb texts q before (origin.Negative i) query step = tt

none_left_out : (kb : Knowledge) (texts : List (List ℕ)) (q : Query) (before : List Line) (o : Origin) (query : Query) (step : Option (ℕ × Move))
    → LeavesNoneOut (report_on kb texts q) before (line.Cq o query step)
none_left_out kb texts q before origin.Query query step = λ e. absurd (cc)
none_left_out kb texts q before (origin.Negative i) query step = tt

right_member : (kb : Knowledge) (texts : List (List ℕ)) (q : Query) (before : List Line) (o : Origin) (m : Member) → MayEnter kb.axioms before o
    → MayJoin (report_on kb texts q) before o (block_of o before) m.query m.step → Right (report_on kb texts q) before (cq_line o m)
right_member kb texts q before o m enter joins = record {
  order = enter.order;
  query_left = one_query_left kb texts q before o m.query m.step;
  closed = enter.closed;
  complete = none_left_out kb texts q before o m.query m.step;
  own = joins;
}

-- the members behind the first ones
later_members : (kb : Knowledge) (texts : List (List ℕ)) (q : Query) (o : Origin) (start : Query) (d : Member) (done rest : List Member)
    (before : List Line) → IsDerivation ((d ∷ done) ++ rest) → AreDerived kb.axioms start ((d ∷ done) ++ rest)
    → block_of o before ≡ queries_of (d ∷ done) → MayEnter kb.axioms before o → AreRightInTurn (report_on kb texts q) before (cq_lines o rest)
later_members kb texts q o start d done [] before derivation derived block enter = tt
later_members kb texts q o start d done (m ∷ rest) before derivation derived block enter =
    let input : Input = report_on kb texts q in
    let joins : MayJoin input before o (block_of o before) m.query m.step =
    subst (λ (qs : List Query). MayJoin input before o qs m.query m.step) (sym block) (joins_later input before o start d done m rest derivation derived) in
    let split : ((d ∷ done) ++ m ∷ rest) ≡ ((d ∷ (done ++ m ∷ [])) ++ rest) = sym (append_assoc (d ∷ done) (m ∷ []) rest) in
    let grown : block_of o (cq_line o m ∷ before) ≡ queries_of (d ∷ (done ++ m ∷ [])) = block_more o m before
    ∙ (ap (λ (qs : List Query). qs ++ m.query ∷ []) block ∙ sym (map_push (λ (x : Member). x.query) (d ∷ done) m)) in (
      right_member kb texts q before o m enter joins,
      later_members kb texts q o start d (done ++ m ∷ []) rest (cq_line o m ∷ before) (subst IsDerivation split derivation)
          (subst (AreDerived kb.axioms start) split derived) grown (entered kb.axioms before o m),
    )

-- a whole block
pub block_in_turn : (kb : Knowledge) (texts : List (List ℕ)) (q : Query) (o : Origin) (start : Query) (members : List Member) (before : List Line)
    → IsDerivation members → AreDerived kb.axioms start members → IsOfOrigin (report_on kb texts q) before o (normal start)
    → block_of o before ≡ [] → MayEnter kb.axioms before o → AreRightInTurn (report_on kb texts q) before (cq_lines o members)
block_in_turn kb texts q o start [] before derivation derived starts block enter = tt
block_in_turn kb texts q o start (m ∷ rest) before derivation derived starts block enter =
    let input : Input = report_on kb texts q in
    let (first, at, same) = derived.first in
    let is : m ≡ first = cc in
    let query : m.query ≡ normal start = ap (λ (x : Member). x.query) is ∙ same in
    let joins : MayJoin input before o (block_of o before) m.query m.step =
    subst (λ (qs : List Query). MayJoin input before o qs m.query m.step) (sym block)
    (joins_first input before o (normal start) m (derivation.first m refl) query starts) in
    let grown : block_of o (cq_line o m ∷ before) ≡ queries_of (m ∷ []) = block_more o m before ∙ ap (λ (qs : List Query). qs ++ m.query ∷ []) block in (
      right_member kb texts q before o m enter joins,
      later_members kb texts q o start m [] rest (cq_line o m ∷ before) derivation derived grown (entered kb.axioms before o m),
    )

-- ---- the blocks of the disjointnesses

-- a normal form is its own
normal_is_own : (p q : Query) → Some (normal p) ≡ Some q → normal q ≡ q
normal_is_own p q e = let h : normal p ≡ q = cc in subst (λ z. normal z ≡ z) h (normal_again p)

-- the query of a disjointness is its own normal form
disjointness_normal : (rule : Axiom) (q : Query) → disjointness_query rule ≡ Some q → normal q ≡ q
disjointness_normal (Disjoint b c) q e = normal_is_own (record { head = []; body = basic_at b (Var 0) ∷ basic_at c (Var 0) ∷ [] }) q e
disjointness_normal (DisjointRole s t) q e = normal_is_own (record { head = []; body = role_at s (Var 0) (Var 1) ∷ role_at t (Var 0) (Var 1) ∷ [] }) q e
disjointness_normal (Sub b c) q e = absurd (cc)
disjointness_normal (SubRole s t) q e = absurd (cc)

-- behind the blocks of the query and of these closures, the last of which is closed
pub record BlocksTold (axioms : List Axiom) (members : List Member) (done : List (ℕ × List Member)) (at : Origin) (before : List Line) : Type 0 where
  pub place : place_of before ≡ InBlock at
  pub closed : IsClosedBlock axioms (block_of at before)
  pub query : block_of origin.Query before ≡ queries_of members
  pub negative : (n : ℕ) (ms : List Member) → Contains done (n, ms) → block_of (origin.Negative n) before ≡ queries_of ms
  pub fresh : (n : ℕ) → ((ms : List Member) → Contains done (n, ms) → ⊥) → block_of (origin.Negative n) before ≡ []
  pub passed : (n : ℕ) (ms : List Member) → Contains done (n, ms) → n < next_axiom at
  pub no_conflict : conflicts_of before ≡ []

-- what one more block leaves
block_told : (axioms : List Axiom) (members : List Member) (done : List (ℕ × List Member)) (at : Origin) (before : List Line) (n : ℕ) (q : Query)
    (m : Member) (ms : List Member) → BlocksTold axioms members done at before → next_axiom at ≤ n → Closes axioms q (m ∷ ms)
    → BlocksTold axioms members (done ++ (n, m ∷ ms) ∷ []) (origin.Negative n) (with_lines before (cq_lines (origin.Negative n) (m ∷ ms)))
block_told axioms members done at before n q m ms t next closes = record {
  place = place_in_block (origin.Negative n) m ms before;
  closed = subst (IsClosedBlock axioms) (sym own) (closed_block axioms q (m ∷ ms) closes);
  query = block_stays origin.Query (origin.Negative n) refl (m ∷ ms) before ∙ t.query;
  negative = negative;
  fresh = λ k none. stays k (λ e. none (m ∷ ms) (subst (λ (i : ℕ). Contains (done ++ (n, m ∷ ms) ∷ []) (i, m ∷ ms)) (sym e)
      (Contains-append_right done ((n, m ∷ ms) ∷ []) (n, m ∷ ms) (Contains-head (n, m ∷ ms) []))))
      ∙ t.fresh k (λ ks c. none ks (Contains-append_left done ((n, m ∷ ms) ∷ []) (k, ks) c));
  passed = passed;
  no_conflict = conflicts_stay (origin.Negative n) (m ∷ ms) before ∙ t.no_conflict;
}
  where
    not_told : (ks : List Member) → Contains done (n, ks) → ⊥
    not_told ks c = let l = t.passed n ks c in omega (arith, l, next)

    own : block_of (origin.Negative n) (with_lines before (cq_lines (origin.Negative n) (m ∷ ms))) ≡ queries_of (m ∷ ms)
    own = block_grows (origin.Negative n) (m ∷ ms) before ∙ ap (λ (qs : List Query). qs ++ queries_of (m ∷ ms)) (t.fresh n not_told)

    stays : (k : ℕ) → k ≢ n → block_of (origin.Negative k) (with_lines before (cq_lines (origin.Negative n) (m ∷ ms))) ≡ block_of (origin.Negative k) before
    stays k ne = block_stays (origin.Negative k) (origin.Negative n) (negative_differs k n ne) (m ∷ ms) before

    last_of : (k : ℕ) (ks : List Member) → Contains {X = ℕ × List Member} ((n, m ∷ ms) ∷ []) (k, ks) → (n ≡ k) × ((m ∷ ms) ≡ ks)
    last_of k ks c = elim (Contains-cases (n, m ∷ ms) [] (k, ks) c) [
      | inl e ↦ (ap (λ (p : ℕ × List Member). p.0) e, ap (λ (p : ℕ × List Member). p.1) e)
      | inr none ↦ absurd (Contains-nil (k, ks) none)
    ]

    negative : (k : ℕ) (ks : List Member) → Contains (done ++ (n, m ∷ ms) ∷ []) (k, ks)
        → block_of (origin.Negative k) (with_lines before (cq_lines (origin.Negative n) (m ∷ ms))) ≡ queries_of ks
    negative k ks c = elim (Contains-append_cases done ((n, m ∷ ms) ∷ []) (k, ks) c) [
      | inl old ↦ stays k (λ e. not_told ks (subst (λ (i : ℕ). Contains done (i, ks)) e old)) ∙ t.negative k ks old
      | inr new ↦ (let w = last_of k ks new in
          subst (λ (i : ℕ). block_of (origin.Negative i) (with_lines before (cq_lines (origin.Negative n) (m ∷ ms))) ≡ queries_of ks) w.0
          (own ∙ ap queries_of w.1))
    ]

    passed : (k : ℕ) (ks : List Member) → Contains (done ++ (n, m ∷ ms) ∷ []) (k, ks) → k < next_axiom (origin.Negative n)
    passed k ks c = elim (Contains-append_cases done ((n, m ∷ ms) ∷ []) (k, ks) c) [
      | inl old ↦ (let l = t.passed k ks old in omega (arith, l, next))
      | inr new ↦ (let w = last_of k ks new in let e = w.0 in omega (arith, e))
    ]

-- each axiom whose block is left comes behind those that were told
abbrev AreAhead : Origin → List (ℕ × List Member) → Type 0
AreAhead at rest = (n : ℕ) (ms : List Member) → Contains rest (n, ms) → next_axiom at ≤ n

-- the numbers ascend
abbrev Ascend : List (ℕ × List Member) → Type 0
Ascend closures = AllPairs (λ c d. c.0 < d.0) closures

pub one_place : (o p : Origin) → InBlock o ≡ InBlock p → o ≡ p
one_place o p e = cc

-- the blocks that are left, each the next
module _ (kb : Knowledge) (texts : List (List ℕ)) (q : Query) (members : List Member) (all : List (ℕ × List Member)) (are : AreClosures kb.axioms all)
    (derived : All (λ c. IsDerivation c.1) all) where
  has_closure : (n : ℕ) → IsNegativeAt kb.axioms n → (ms : List Member) × Contains all (n, ms)
  has_closure n (rule, p, at, is) = are.complete n p (rule, at, is)

  next_block : (done : List (ℕ × List Member)) (n : ℕ) (ms : List Member) (rest : List (ℕ × List Member)) (at : Origin) (before : List Line) (p : Query)
      → done ++ (n, ms) ∷ rest ≡ all → BlocksTold kb.axioms members done at before → AreAhead at ((n, ms) ∷ rest) → Ascend ((n, ms) ∷ rest)
      → Forbids kb.axioms n p → IsNextBlock kb.axioms at (origin.Negative n)
  next_block done n ms rest at before p split t ahead ascending (rule, stands, is) =
      (ahead n ms (Contains-head (n, ms) rest), (rule, p, stands, is), between)
    where
      between : (i : ℕ) → next_axiom at ≤ i → i < n → ¬ IsNegativeAt kb.axioms i
      between i low high negative =
          let (ks, c) = has_closure i negative in
          let found : Contains (done ++ (n, ms) ∷ rest) (i, ks) = subst (λ (cs : List (ℕ × List Member)). Contains cs (i, ks)) (sym split) c in
          elim (Contains-append_cases done ((n, ms) ∷ rest) (i, ks) found) [
            | inl told ↦ (let l = t.passed i ks told in absurd (omega (arith, l, low)))
            | inr left ↦ elim (Contains-cases (n, ms) rest (i, ks) left) [
              | inl e ↦ (let same : n ≡ i = ap (λ (x : ℕ × List Member). x.0) e in absurd (omega (arith, same, high)))
              | inr later ↦ (let l : n < i = AllPairs-head (λ (c d : ℕ × List Member). c.0 < d.0) (n, ms) rest ascending (i, ks) later in
                  absurd (omega (arith, l, high)))
            ]
          ]

  -- the next one
  one_block : (done : List (ℕ × List Member)) (n : ℕ) (ms : List Member) (rest : List (ℕ × List Member)) (at : Origin) (before : List Line)
      → done ++ (n, ms) ∷ rest ≡ all → BlocksTold kb.axioms members done at before → AreAhead at ((n, ms) ∷ rest) → Ascend ((n, ms) ∷ rest)
      → BlocksTold kb.axioms members (done ++ (n, ms) ∷ []) (origin.Negative n) (with_lines before (negative_lines (n, ms)))
      × AreRightInTurn (report_on kb texts q) before (negative_lines (n, ms))
  one_block done n ms rest at before split t ahead ascending = (by ms refl, right)
    where
      inside : Contains all (n, ms)
      inside = subst (λ (cs : List (ℕ × List Member)). Contains cs (n, ms)) split
          (Contains-append_right done ((n, ms) ∷ rest) (n, ms) (Contains-head (n, ms) rest))

      derivation : IsDerivation ms
      derivation = All-contains (λ (c : ℕ × List Member). IsDerivation c.1) all (n, ms) derived inside

      own : (p : Query) × Forbids kb.axioms n p × Closes kb.axioms p ms
      own = All-contains (λ (c : ℕ × List Member). (p : Query) × Forbids kb.axioms c.0 p × Closes kb.axioms p c.1) all (n, ms) are.each inside

      low : next_axiom at ≤ n
      low = ahead n ms (Contains-head (n, ms) rest)

      enter : MayEnter kb.axioms before (origin.Negative n)
      enter = record {
        order = subst (λ (p : Place). MayHaveBlock OneQuery kb.axioms p (origin.Negative n)) (sym t.place)
            (inr (next_block done n ms rest at before own.0 split t ahead ascending own.1));
        closed = λ p e. inr (subst (λ (o : Origin). IsClosedBlock kb.axioms (block_of o before)) (one_place at p (sym t.place ∙ e)) t.closed);
      }

      starts : IsOfOrigin (report_on kb texts q) before (origin.Negative n) (normal own.0)
      starts = let (rule, stands, is) = own.1 in (rule, stands, is ∙ ap (λ (x : Query). Some x) (sym (disjointness_normal rule own.0 is)))

      not_told : (ks : List Member) → Contains done (n, ks) → ⊥
      not_told ks c = let l = t.passed n ks c in omega (arith, l, low)

      right : AreRightInTurn (report_on kb texts q) before (negative_lines (n, ms))
      right = block_in_turn kb texts q (origin.Negative n) own.0 ms before derivation own.2.derived starts (t.fresh n not_told) enter

      by : (ks : List Member) → ms ≡ ks
          → BlocksTold kb.axioms members (done ++ (n, ms) ∷ []) (origin.Negative n) (with_lines before (negative_lines (n, ms)))
      by [] e = absurd (let l = derivation.some in let none : length ms ≡ 0 = ap (λ (xs : List Member). length xs) e in omega (arith, l, none))
      by (m ∷ ks) e =
          subst (λ (xs : List Member). BlocksTold kb.axioms members (done ++ (n, xs) ∷ []) (origin.Negative n) (with_lines before (negative_lines
          (n, xs)))) (sym e)
          (block_told kb.axioms members done at before n own.0 m ks t low (subst (Closes kb.axioms own.0) e own.2))

  blocks_left : (done rest : List (ℕ × List Member)) (at : Origin) (before : List Line) → done ++ rest ≡ all
      → BlocksTold kb.axioms members done at before → AreAhead at rest → Ascend rest
      → (last : Origin) × BlocksTold kb.axioms members all last (with_lines before (block_lines rest))
      × AreRightInTurn (report_on kb texts q) before (block_lines rest)
  blocks_left done [] at before split t ahead ascending =
      (at, subst (λ (cs : List (ℕ × List Member)). BlocksTold kb.axioms members cs at before) (sym (append-nil done) ∙ split) t, tt)
  blocks_left done ((n, ms) ∷ rest) at before split t ahead ascending =
      let w = one_block done n ms rest at before split t ahead ascending in
      let (last, told, turn) = blocks_left (done ++ (n, ms) ∷ []) rest (origin.Negative n) (with_lines before (negative_lines (n, ms)))
      (append_assoc done ((n, ms) ∷ []) rest ∙ split) w.0
      (λ i is c. AllPairs-head (λ (c d : ℕ × List Member). c.0 < d.0) (n, ms) rest ascending (i, is) c)
      (AllPairs-tail (λ (c d : ℕ × List Member). c.0 < d.0) (n, ms) rest ascending) in (
        last,
        subst (BlocksTold kb.axioms members all last) (sym (with_lines-append before (negative_lines (n, ms)) (block_lines rest))) told,
        in_turn_append (report_on kb texts q) before (negative_lines (n, ms)) (block_lines rest) w.1 turn,
      )

  -- no further disjointness is left behind all blocks
  pub none_further : (at : Origin) (before : List Line) → BlocksTold kb.axioms members all at before → IsLastBlock kb.axioms at
  none_further at before t i low negative = let (ms, c) = has_closure i negative in let l = t.passed i ms c in omega (arith, l, low)

  -- all of them, behind the block of the query
  pub all_blocks : (before : List Line) → BlocksTold kb.axioms members [] origin.Query before
      → (last : Origin) × BlocksTold kb.axioms members all last (with_lines before (block_lines all))
      × AreRightInTurn (report_on kb texts q) before (block_lines all)
  all_blocks before t = blocks_left [] all origin.Query before refl t (λ n ms c. omega arith) are.ascending
