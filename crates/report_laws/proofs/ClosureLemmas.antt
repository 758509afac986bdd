-- A block of right lines that is closed is the closure of its query.
use Rattle.std.proofs.Common.{◌≡◌, ◌≢◌, ℕ, zero, suc, ◌⊎◌, ◌↔◌, inl, inr, List, [], ◌∷◌, ◌++◌, Contains, Bool, true, false, Option, Some, None, slice_get}
use Rattle.std.proofs.Common.{cond, true≢false, eqb-true, refl, sym, subst, ap, ◌∙◌}
use Rattle.std.proofs.lemmas.List.Elements.{Contains-append_left, Contains-push_cases}
use Rattle.cq_terms.specs.declared.axioms.Axiom.{Axiom}
use Rattle.cq_terms.specs.declared.axioms.Axiom.TheVariants.{Sub, Disjoint, SubRole, DisjointRole}
use Rattle.cq_terms.specs.declared.query.Term.TheVariants.{Var}
use Rattle.cq_terms.specs.Knowledge.{Knowledge}
use Rattle.cq_terms.specs.Query.{Query}
use Rattle.cq_meaning.specs.NormalForm.{normal}
use Rattle.cq_meaning.specs.Rewriting.{Reaches, IsClosure, IsSupport, disjointness_query, basic_at, role_at}
use Rattle.cq_meaning.proofs.Again.{normal_again}
use Rattle.cq_meaning.proofs.Members.{Contains-head, Contains-nil, Contains-slice_get, slice_get-Contains}
use Rattle.cq_meaning.proofs.Moves.{reaches_more}
use Rattle.cq_steps.specs.declared.moves.Move.{Move}
use Rattle.cq_steps.proofs.ClosureLemmas.{successor_of_move}
use Rattle.report_text.specs.declared.line.Line.{Line}
use Rattle.report_text.specs.declared.line.Line.TheVariants as line
use Rattle.report_text.specs.declared.line.Origin.{Origin}
use Rattle.report_text.specs.declared.line.Origin.TheVariants as origin
use Rattle.report_rules.specs.Inputs.{Input}
use Rattle.report_rules.specs.Told.{block_of, same_origin, query_of}
use Rattle.report_rules.specs.Blocks.{IsResultAt, MayJoin, IsClosedBlock}
use Rattle.report_rules.specs.Rules.{MemberMatches}
use Rattle.report_rules.specs.Accepted.{AreRight}

-- ---- what a block grows from

-- the block is of what comes from the start, and has the start unless it is empty
record IsGrown (axioms : List Axiom) (start : Query) (members : List Query) : Type 0 where
  begun : (members ≡ []) ⊎ Contains members start
  reached : (p : Query) → Contains members p → (n : ℕ) × Reaches axioms n start p

grown_nothing : (axioms : List Axiom) (start : Query) → IsGrown axioms start []
grown_nothing axioms start = record { begun = inl refl; reached = λ p m. absurd (Contains-nil p m) }

grown_first : (axioms : List Axiom) (start q : Query) → q ≡ start → IsGrown axioms start (q ∷ [])
grown_first axioms start q e = subst (λ s. IsGrown axioms s (q ∷ [])) e
    (record { begun = inr (Contains-head q []); reached = λ p m. elim (Contains-push_cases [] q p m) [ inl n ↦ absurd (Contains-nil p n) | inr h ↦ (0, h) ] })

grown_more : (axioms : List Axiom) (start : Query) (members : List Query) (step : ℕ × Move) (q : Query) → IsGrown axioms start members
    → IsResultAt axioms members step q → IsGrown axioms start (members ++ q ∷ [])
grown_more axioms start members step q w (p, at, leads) = record {
  begun = elim w.begun [
    | inl e ↦ absurd (Contains-nil p (subst (λ xs. Contains xs p) e there))
    | inr h ↦ inr (Contains-append_left members (q ∷ []) start h)
  ];
  reached = λ r k. elim (Contains-push_cases members q r k) [
    | inl old ↦ w.reached r old
    | inr new ↦ (let (n, path) = w.reached p there in (
      suc n,
      subst (Reaches axioms (suc n) start) new
          (reaches_more axioms n start p q path (successor_of_move axioms p q step.1 leads)),
    ))
  ];
}
  where
    there : Contains members p
    there = Contains-slice_get members step.0 p at

same_origin_is : (o o' : Origin) → same_origin o o' ≡ true → o ≡ o'
same_origin_is origin.Query origin.Query e = refl
same_origin_is (origin.Negative i) (origin.Negative j) e = ap origin.Negative (eqb-true i j e)
same_origin_is origin.Query (origin.Negative j) e = absurd (true≢false (sym e))
same_origin_is (origin.Negative i) origin.Query e = absurd (true≢false (sym e))

-- the block of a disjointness grows from its query
negative_grown : (input : Input) (i : ℕ) (rule : Axiom) (start : Query) → slice_get input.kb.axioms i ≡ Some rule → disjointness_query rule ≡ Some start
    → (before : List Line) → AreRight input before
    → IsGrown input.kb.axioms start (block_of (origin.Negative i) before)
negative_grown input i rule start at is [] r = grown_nothing input.kb.axioms start
negative_grown input i rule start at is (line.Cq o q step ∷ b) (r, rs) =
    go (same_origin (origin.Negative i) o) (λ e. same_origin_is (origin.Negative i) o e) (negative_grown input i rule start at is b rs)
  where
    joined : (members : List Query) (step : Option (ℕ × Move)) → MayJoin input b (origin.Negative i) members q step → IsGrown input.kb.axioms start members
        → IsGrown input.kb.axioms start (members ++ q ∷ [])
    joined [] None (rule', at', e) w =
        let same : rule' ≡ rule = (let h : Some rule' ≡ Some rule = sym at' ∙ at in cc) in
        let one : Some q ≡ Some start = sym e ∙ (ap disjointness_query same ∙ is) in
        grown_first input.kb.axioms start q (cc)
    joined [] (Some s) j w = absurd j
    joined (first ∷ others) None j w = absurd j
    joined (first ∷ others) (Some s) (j, new) w = grown_more input.kb.axioms start (first ∷ others) s q w j

    go : (t : Bool) → (t ≡ true → origin.Negative i ≡ o) → IsGrown input.kb.axioms start (block_of (origin.Negative i) b)
        → IsGrown input.kb.axioms start (cond t (block_of (origin.Negative i) b ++ q ∷ []) (block_of (origin.Negative i) b))
    go true same w = joined (block_of (origin.Negative i) b) step (subst (λ o'. MayJoin input b o' (block_of o' b) q step) (sym (same refl)) r.own) w
    go false same w = w
negative_grown input i rule start at is (line.Head axioms budget facts keep repairs version ∷ b) (r, rs) = negative_grown input i rule start at is b rs
negative_grown input i rule start at is (line.Conflict facts number member ∷ b) (r, rs) = negative_grown input i rule start at is b rs
negative_grown input i rule start at is (line.Ask candidate tuple causes members ∷ b) (r, rs) = negative_grown input i rule start at is b rs
negative_grown input i rule start at is (line.Try question assume ∷ b) (r, rs) = negative_grown input i rule start at is b rs
negative_grown input i rule start at is (line.Learn number clause ∷ b) (r, rs) = negative_grown input i rule start at is b rs
negative_grown input i rule start at is (line.Core number kept dropped ∷ b) (r, rs) = negative_grown input i rule start at is b rs
negative_grown input i rule start at is (line.Done how core ∷ b) (r, rs) = negative_grown input i rule start at is b rs
negative_grown input i rule start at is (line.Forget clauses ∷ b) (r, rs) = negative_grown input i rule start at is b rs
negative_grown input i rule start at is (line.Answer brave ar iar cores names tuple ∷ b) (r, rs) = negative_grown input i rule start at is b rs
negative_grown input i rule start at is (line.End answers brave ar iar undecided ∷ b) (r, rs) = negative_grown input i rule start at is b rs

-- the query's block grows from its normal form
query_grown : (input : Input) (before : List Line) → AreRight input before
    → IsGrown input.kb.axioms (normal (query_of input before)) (block_of origin.Query before)
query_grown input [] r = grown_nothing input.kb.axioms (normal (query_of input []))
query_grown input (line.Cq o q step ∷ b) (r, rs) = go (same_origin origin.Query o) (λ e. same_origin_is origin.Query o e) (query_grown input b rs)
  where
    joined : (members : List Query) (step : Option (ℕ × Move)) → MayJoin input b origin.Query members q step
        → IsGrown input.kb.axioms (normal (query_of input b)) members → IsGrown input.kb.axioms (normal (query_of input b)) (members ++ q ∷ [])
    joined [] None e w = grown_first input.kb.axioms (normal (query_of input b)) q e
    joined [] (Some s) j w = absurd j
    joined (first ∷ others) None j w = absurd j
    joined (first ∷ others) (Some s) (j, new) w = grown_more input.kb.axioms (normal (query_of input b)) (first ∷ others) s q w j

    go : (t : Bool) → (t ≡ true → origin.Query ≡ o) → IsGrown input.kb.axioms (normal (query_of input b)) (block_of origin.Query b)
        → IsGrown input.kb.axioms (normal (query_of input b)) (cond t (block_of origin.Query b ++ q ∷ []) (block_of origin.Query b))
    go true same w = joined (block_of origin.Query b) step (subst (λ o'. MayJoin input b o' (block_of o' b) q step) (sym (same refl)) r.own) w
    go false same w = w
query_grown input (line.Head axioms budget facts keep repairs version ∷ b) (r, rs) = query_grown input b rs
query_grown input (line.Conflict facts number member ∷ b) (r, rs) = query_grown input b rs
query_grown input (line.Ask candidate tuple causes members ∷ b) (r, rs) = query_grown input b rs
query_grown input (line.Try question assume ∷ b) (r, rs) = query_grown input b rs
query_grown input (line.Learn number clause ∷ b) (r, rs) = query_grown input b rs
query_grown input (line.Core number kept dropped ∷ b) (r, rs) = query_grown input b rs
query_grown input (line.Done how core ∷ b) (r, rs) = query_grown input b rs
query_grown input (line.Forget clauses ∷ b) (r, rs) = query_grown input b rs
query_grown input (line.Answer brave ar iar cores names tuple ∷ b) (r, rs) = query_grown input b rs
query_grown input (line.End answers brave ar iar undecided ∷ b) (r, rs) = grown_nothing input.kb.axioms _

-- ---- closed blocks

-- what is closed has all that is reached from its members
closed_all : (axioms : List Axiom) (members : List Query) → IsClosedBlock axioms members → (n : ℕ) (q p : Query) → Contains members q → Reaches axioms n q p
    → Contains members p
closed_all axioms members c zero q p m e = subst (Contains members) e m
closed_all axioms members c (suc n) q p m (r, s, rest) = closed_all axioms members c n r p (c q r m s) rest

-- what is grown and closed is the closure
closure_of : (axioms : List Axiom) (q : Query) (members : List Query) → IsGrown axioms (normal q) members → members ≢ [] → IsClosedBlock axioms members
    → IsClosure axioms q members
closure_of axioms q members w n c member = (
  (λ m. w.reached member m),
  (λ (k, path). elim w.begun [ inl e ↦ absurd (n e) | inr h ↦ closed_all axioms members c k (normal q) member h path ]),
)

-- the query's block, once closed, is the closure of the query
pub query_block_is_closure : (input : Input) (before : List Line) → AreRight input before → block_of origin.Query before ≢ []
    → IsClosedBlock input.kb.axioms (block_of origin.Query before)
    → IsClosure input.kb.axioms (query_of input before) (block_of origin.Query before)
query_block_is_closure input before r n c = closure_of input.kb.axioms (query_of input before) (block_of origin.Query before) (query_grown input before r) n c

-- a normal form is its own
normal_is_own : (p q : Query) → Some (normal p) ≡ Some q → normal q ≡ q
normal_is_own p q e = let h : normal p ≡ q = cc in subst (λ z. normal z ≡ z) h (normal_again p)

-- the query of a disjointness is its own normal form
disjointness_normal : (rule : Axiom) (q : Query) → disjointness_query rule ≡ Some q → normal q ≡ q
disjointness_normal (Disjoint b c) q e = normal_is_own (record { head = []; body = basic_at b (Var 0) ∷ basic_at c (Var 0) ∷ [] }) q e
disjointness_normal (DisjointRole s t) q e = normal_is_own (record { head = []; body = role_at s (Var 0) (Var 1) ∷ role_at t (Var 0) (Var 1) ∷ [] }) q e
disjointness_normal (Sub b c) q e = absurd (cc)
disjointness_normal (SubRole s t) q e = absurd (cc)

-- the block of a disjointness, once closed, is the closure of its query
pub negative_block_is_closure : (input : Input) (i : ℕ) (rule : Axiom) (q : Query) → slice_get input.kb.axioms i ≡ Some rule
    → disjointness_query rule ≡ Some q → (before : List Line) → AreRight input before
    → block_of (origin.Negative i) before ≢ [] → IsClosedBlock input.kb.axioms (block_of (origin.Negative i) before)
    → IsClosure input.kb.axioms q (block_of (origin.Negative i) before)
negative_block_is_closure input i rule q at is before r n c =
    closure_of input.kb.axioms q (block_of (origin.Negative i) before)
    (subst (λ s. IsGrown input.kb.axioms s (block_of (origin.Negative i) before)) (sym (disjointness_normal rule q is))
    (negative_grown input i rule q at is before r)) n c

-- over a closure a support is what some member matches with exactly
pub support_is_match : (kb : Knowledge) (q : Query) (members : List Query) → IsClosure kb.axioms q members → (tuple numbers : List ℕ)
    → IsSupport kb q tuple numbers ↔ ((place : ℕ) × MemberMatches kb.facts members place tuple numbers)
support_is_match kb q members closure tuple numbers = (
  (λ (member, c, image). let w = slice_get-Contains members member ((closure member).1 c) in (w.0, (member, w.1, image))),
  (λ (place, (member, at, image)). (member, (closure member).0 (Contains-slice_get members place member at), image)),
)
