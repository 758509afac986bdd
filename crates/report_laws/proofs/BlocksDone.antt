-- Past the block of a disjointness the block stands, and is closed.
use Rattle.std.proofs.Common.{◌≡◌, ◌≢◌, ℕ, suc, ◌<◌, ◌≤◌, ◌⊎◌, inl, inr, List, [], ◌∷◌, ◌++◌, Contains, Bool, true, false, Some, slice_get, cond, true≢false}
use Rattle.std.proofs.Common.{eqb, eq-eqb, refl, sym, subst, ap, ◌∙◌, arith}
use Rattle.std.specs.Prelude.{Option}
use Rattle.std.proofs.lemmas.Bool.{cases_lt, cases_eq, ne_eqb}
use Rattle.std.proofs.lemmas.List.Elements.{Contains-push}
use Rattle.cq_terms.specs.declared.axioms.Axiom.{Axiom}
use Rattle.cq_terms.specs.Query.{Query}
use Rattle.cq_meaning.specs.Rewriting.{IsClosure, disjointness_query}
use Rattle.cq_meaning.proofs.Members.{Contains-nil}
use Rattle.cq_steps.specs.declared.moves.Move.{Move}
use Rattle.report_text.specs.declared.line.Line.{Line}
use Rattle.report_text.specs.declared.line.Line.TheVariants as line
use Rattle.report_text.specs.declared.line.Origin.{Origin}
use Rattle.report_text.specs.declared.line.Origin.TheVariants as origin
use Rattle.report_rules.specs.declared.place.Place.{Place}
use Rattle.report_rules.specs.declared.place.Place.TheVariants.{AfterHead, InBlock, InConflicts, AfterForget, InTry, AfterCore, AfterAnswer, AtEnd}
use Rattle.report_rules.specs.Inputs.{Input, Form, OneQuery, Session}
use Rattle.report_rules.specs.Order.{place_of, IsNegativeAt, IsNextBlock, AreBlocksOver, MayHaveBlock, IsBetweenAnswers}
use Rattle.report_rules.specs.Told.{block_of}
use Rattle.report_rules.specs.Blocks.{IsClosedBlock, IsOfBlock}
use Rattle.report_rules.specs.Accepted.{Right, AreRight}
use Rattle.report_laws.specs.BlockLaws.{IsPast}
use Rattle.report_laws.proofs.ClosureLemmas.{negative_block_is_closure}

-- the block of the axiom stands, and is closed
record IsDone (input : Input) (before : List Line) (i : ℕ) : Type 0 where
  stands : block_of (origin.Negative i) before ≢ []
  closed : IsClosedBlock input.kb.axioms (block_of (origin.Negative i) before)

one_form : OneQuery ≡ Session → ⊥
one_form e = cc

pub push_stands : (xs : List Query) (q : Query) → xs ++ q ∷ [] ≢ []
push_stands xs q e = Contains-nil q (subst (λ ys. Contains ys q) e (Contains-push xs q))

-- the block in which the last line is stands
pub last_stands : (i : ℕ) (b : List Line) → place_of b ≡ InBlock (origin.Negative i) → block_of (origin.Negative i) b ≢ []
last_stands i (line.Cq (origin.Negative j) q step ∷ b) e =
    let same : j ≡ i = cc in
    go (eqb i j) (eq-eqb i j (sym same))
  where
    go : (t : Bool) → t ≡ true → cond t (block_of (origin.Negative i) b ++ q ∷ []) (block_of (origin.Negative i) b) ≢ []
    go true t = push_stands (block_of (origin.Negative i) b) q
    go false t = absurd (true≢false (sym t))
last_stands i (line.Cq origin.Query q step ∷ b) e = absurd (cc)
last_stands i [] e = absurd (cc)
last_stands i (line.Head axioms budget facts keep repairs version ∷ b) e = absurd (cc)
last_stands i (line.Conflict facts rule member ∷ b) e = absurd (cc)
last_stands i (line.Ask candidate tuple causes members ∷ b) e = absurd (cc)
last_stands i (line.Try question assume ∷ b) e = absurd (cc)
last_stands i (line.Learn number clause ∷ b) e = absurd (cc)
last_stands i (line.Core number kept dropped ∷ b) e = absurd (cc)
last_stands i (line.Done how core ∷ b) e = absurd (cc)
last_stands i (line.Forget clauses ∷ b) e = absurd (cc)
last_stands i (line.Answer brave ar iar cores names tuple ∷ b) e = absurd (cc)
last_stands i (line.End answers brave ar iar undecided ∷ b) e = absurd (cc)

-- ---- a line behind others

module _ (input : Input) (b : List Line) (l : Line) (r : Right input b l) (i : ℕ) (negative : IsNegativeAt input.kb.axioms i)
    (again : IsPast input.form (place_of b) i → IsDone input b i) where
  -- a block that is left is done
  left : place_of b ≡ InBlock (origin.Negative i) → (IsOfBlock (origin.Negative i) l → ⊥) → IsDone input b i
  left e n = record { stands = last_stands i b e; closed = elim (r.closed (origin.Negative i) e) [ inl h ↦ absurd (n h) | inr c ↦ c ] }

  -- past a block of axiom j, with no disjointness from j on
  after : (j : ℕ) → place_of b ≡ InBlock (origin.Negative j) → (IsOfBlock (origin.Negative i) l → ⊥) → (suc j ≤ i → ⊥) → IsDone input b i
  after j e n none = elim (cases_lt i j) [
    | inl h ↦ again (subst (λ p. IsPast input.form p i) (sym e) h)
    | inr h ↦ elim (cases_eq i j) [
      | inl same ↦ left (e ∙ ap (λ k. InBlock (origin.Negative k)) (sym same)) n
      | inr other ↦ absurd (none (grind arith))
    ]
  ]

  -- where the blocks are over
  over : (form : Form) → input.form ≡ form → (p : Place) → place_of b ≡ p → AreBlocksOver form input.kb.axioms p → (IsOfBlock (origin.Negative i) l → ⊥)
      → IsDone input b i
  over form f InConflicts e h n = again (subst (λ p. IsPast input.form p i) (sym e) tt)
  over form f (InBlock (origin.Negative j)) e h n = after j e n (λ k. last form h k negative)
    where
      last : (form : Form) → AreBlocksOver form input.kb.axioms (InBlock (origin.Negative j)) → suc j ≤ i → ¬ IsNegativeAt input.kb.axioms i
      last OneQuery h k = h i k
      last Session h k = h i k
  over OneQuery f (InBlock origin.Query) e h n = absurd (h i (omega arith) negative)
  over Session f (InBlock origin.Query) e h n = absurd h
  over OneQuery f AfterHead e h n = absurd h
  over Session f AfterHead e h n = absurd (h i (omega arith) negative)
  over OneQuery f _ e h n = absurd h
  over Session f _ e h n = absurd h

  between : (form : Form) → input.form ≡ form → (p : Place) → place_of b ≡ p → IsBetweenAnswers form input.kb.axioms p → (IsOfBlock (origin.Negative i) l → ⊥)
      → IsDone input b i
  between form f AfterAnswer e h n = again (subst (λ p. IsPast input.form p i) (sym e) tt)
  between Session f (InBlock origin.Query) e h n = again (subst (λ p. IsPast input.form p i) (sym e) f)
  between OneQuery f (InBlock o) e h n = over OneQuery f (InBlock o) e h n
  between OneQuery f InConflicts e h n = over OneQuery f InConflicts e h n
  between OneQuery f _ e h n = absurd h
  between Session f _ e h n = absurd h

  -- a next block of axiom j, past i
  next : (j : ℕ) → i < j → (o : Origin) → place_of b ≡ InBlock o → IsNextBlock input.kb.axioms o (origin.Negative j) → (IsOfBlock (origin.Negative i) l → ⊥)
      → IsDone input b i
  next j il origin.Query e (a, m, none) n = absurd (none i (omega arith) il negative)
  next j il (origin.Negative k) e (a, m, none) n = after k e n (λ h. none i h il negative)

  block_at : (j : ℕ) → i < j → (form : Form) → input.form ≡ form → (p : Place) → place_of b ≡ p → MayHaveBlock form input.kb.axioms p (origin.Negative j)
      → (IsOfBlock (origin.Negative i) l → ⊥) → IsDone input b i
  block_at j il OneQuery f AfterHead e h n = absurd (cc)
  block_at j il OneQuery f (InBlock o) e (inl h) n = again (subst (λ p. IsPast input.form p i) (sym (e ∙ ap InBlock (sym h))) il)
  block_at j il OneQuery f (InBlock o) e (inr h) n = next j il o e h n
  block_at j il Session f AfterHead e (a, m, none) n = absurd (none i (omega arith) il negative)
  block_at j il Session f (InBlock (origin.Negative k)) e (inl h) n =
      again (subst (λ p. IsPast input.form p i) (sym (e ∙ ap (λ z. InBlock (origin.Negative z)) (sym h))) il)
  block_at j il Session f (InBlock (origin.Negative k)) e (inr h) n = next j il (origin.Negative k) e h n
  block_at j il Session f (InBlock origin.Query) e h n = absurd h
  block_at j il OneQuery f _ e h n = absurd h
  block_at j il Session f _ e h n = absurd h

  -- in a session the query's block
  query_block : (p : Place) → place_of b ≡ p → input.form ≡ Session → MayHaveBlock Session input.kb.axioms p origin.Query
      → (IsOfBlock (origin.Negative i) l → ⊥) → IsDone input b i
  query_block (InBlock origin.Query) e f h n = again (subst (λ p. IsPast input.form p i) (sym e) f)
  query_block AtEnd e f h n = again (subst (λ p. IsPast input.form p i) (sym e) tt)
  query_block InConflicts e f h n = over Session f InConflicts e h n
  query_block AfterHead e f h n = over Session f AfterHead e h n
  query_block (InBlock (origin.Negative j)) e f h n = over Session f (InBlock (origin.Negative j)) e h n
  query_block _ e f h n = absurd h

-- a block keeps its queries where a line of another comes
other_block : (input : Input) (i j : ℕ) (q : Query) (step : Option (ℕ × Move)) (b : List Line) → i ≢ j → IsDone input b i
    → IsDone input (line.Cq (origin.Negative j) q step ∷ b) i
other_block input i j q step b n w = let d = go (eqb i j) (ne_eqb i j n) in record { stands = d.0; closed = d.1 }
  where
    go : (t : Bool) → t ≡ false → (cond t (block_of (origin.Negative i) b ++ q ∷ []) (block_of (origin.Negative i) b) ≢ [])
        × IsClosedBlock input.kb.axioms (cond t (block_of (origin.Negative i) b ++ q ∷ []) (block_of (origin.Negative i) b))
    go true t = absurd (true≢false t)
    go false t = (w.stands, w.closed)

-- each disjointness past whose block the report is has it, closed
blocks_done : (input : Input) (before : List Line) → AreRight input before → (i : ℕ) → IsNegativeAt input.kb.axioms i → IsPast input.form (place_of before) i
    → IsDone input before i
blocks_done input [] r i n p = absurd p
blocks_done input (line.Head axioms budget facts keep repairs version ∷ b) (r, rs) i n p = absurd p
blocks_done input (line.Cq (origin.Negative j) q step ∷ b) (r, rs) i n p =
    let apart : i ≢ j = (λ e. omega arith) in
    other_block input i j q step b apart (block_at input b (line.Cq (origin.Negative j) q step) r i n (blocks_done input b rs i n) j p input.form refl
    (place_of b) refl r.order (λ e. let h : j ≡ i = cc in apart (sym h)))
blocks_done input (line.Cq origin.Query q step ∷ b) (r, rs) i n p =
    let w = query_block input b (line.Cq origin.Query q step) r i n (blocks_done input b rs i n) (place_of b) refl p
    (subst (λ x. MayHaveBlock x input.kb.axioms (place_of b) origin.Query) p r.order) (λ e. absurd (cc)) in
    record { stands = w.stands; closed = w.closed }
blocks_done input (line.Conflict facts rule member ∷ b) (r, rs) i n p = let w =
    over input b (line.Conflict facts rule member) r i n (blocks_done input b rs i n) input.form refl (place_of b) refl r.order (λ e. e) in
    record { stands = w.stands; closed = w.closed }
blocks_done input (line.Forget clauses ∷ b) (r, rs) i n p = let w =
    between input b (line.Forget clauses) r i n (blocks_done input b rs i n) input.form refl (place_of b) refl r.order (λ e. e) in
    record { stands = w.stands; closed = w.closed }
blocks_done input (line.End answers brave ar iar undecided ∷ b) (r, rs) i n p = let w =
    between input b (line.End answers brave ar iar undecided) r i n (blocks_done input b rs i n) input.form refl (place_of b) refl r.order (λ e. e) in
    record { stands = w.stands; closed = w.closed }
blocks_done input (line.Try question assume ∷ b) (r, rs) i n p = let w = blocks_done input b rs i n (subst (λ x. IsPast input.form x i) (sym r.order) tt) in
    record { stands = w.stands; closed = w.closed }
blocks_done input (line.Learn number clause ∷ b) (r, rs) i n p = let w = blocks_done input b rs i n (subst (λ x. IsPast input.form x i) (sym r.order) tt) in
    record { stands = w.stands; closed = w.closed }
blocks_done input (line.Core number kept dropped ∷ b) (r, rs) i n p = let w =
    blocks_done input b rs i n (subst (λ x. IsPast input.form x i) (sym r.order) tt) in record { stands = w.stands; closed = w.closed }
blocks_done input (line.Answer brave ar iar cores names tuple ∷ b) (r, rs) i n p = let w =
    blocks_done input b rs i n (subst (λ x. IsPast input.form x i) (sym r.order) tt) in record { stands = w.stands; closed = w.closed }
blocks_done input (line.Done how core ∷ b) (r, rs) i n p = let w = go r.order (blocks_done input b rs i n) in record { stands = w.stands; closed = w.closed }
  where
    go : (place_of b ≡ InTry) ⊎ (place_of b ≡ AfterCore) → (IsPast input.form (place_of b) i → IsDone input b i) → IsDone input b i
    go (inl e) again = again (subst (λ x. IsPast input.form x i) (sym e) tt)
    go (inr e) again = again (subst (λ x. IsPast input.form x i) (sym e) tt)
blocks_done input (line.Ask candidate tuple causes members ∷ b) (r, rs) i n p = let w = go r.order (blocks_done input b rs i n) in
    record { stands = w.stands; closed = w.closed }
  where
    go : (place_of b ≡ AfterForget) ⊎ IsBetweenAnswers input.form input.kb.axioms (place_of b) → (IsPast input.form (place_of b) i → IsDone input b i)
        → IsDone input b i
    go (inl e) again = again (subst (λ x. IsPast input.form x i) (sym e) tt)
    go (inr h) again = between input b (line.Ask candidate tuple causes members) r i n again input.form refl (place_of b) refl h (λ e. e)

-- past its block, the block of a disjointness is the closure of its query
pub disjointness_blocks_are_closures : (input : Input) (before : List Line) → AreRight input before → (i : ℕ) (rule : Axiom) (q : Query)
    → slice_get input.kb.axioms i ≡ Some rule → disjointness_query rule ≡ Some q
    → IsPast input.form (place_of before) i → IsClosure input.kb.axioms q (block_of (origin.Negative i) before)
disjointness_blocks_are_closures input before r i rule q at is past =
    let w = blocks_done input before r i (rule, q, at, is) past in
    negative_block_is_closure input i rule q at is before r w.stands w.closed
