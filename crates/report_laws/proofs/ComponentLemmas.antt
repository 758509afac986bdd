-- The query's block, and the literals that a learned clause may have.
use Rattle.std.proofs.Common.{◌≡◌, ◌≢◌, ℕ, ◌⊎◌, inl, inr, List, [], ◌∷◌, Contains, refl, sym, subst, ap, ◌∙◌, eqb-true, eq-eqb, eqb}
use Rattle.cq_terms.specs.declared.axioms.Axiom.{Axiom}
use Rattle.cq_meaning.specs.Rewriting.{IsClosure}
use Rattle.clause_meaning.specs.Literals.{variable_of}
use Rattle.priority_graph.specs.Split.{has}
use Rattle.repair_clauses.specs.BaseClauses.{present, absent}
use Rattle.repair_clauses.proofs.LiteralLemmas.{variable_of-present, variable_of-absent}
use Rattle.report_text.specs.declared.line.Line.{Line}
use Rattle.report_text.specs.declared.line.Line.TheVariants as line
use Rattle.report_text.specs.declared.line.Origin.TheVariants as origin
use Rattle.report_rules.specs.declared.place.Place.{Place}
use Rattle.report_rules.specs.declared.place.Place.TheVariants.{AtStart, AfterHead, InBlock, InConflicts, AfterForget, InAnswer, InTry, AfterCore}
use Rattle.report_rules.specs.declared.place.Place.TheVariants.{AfterAnswer, AtEnd}
use Rattle.report_rules.specs.Inputs.{Input, Form, OneQuery, selector_of}
use Rattle.report_rules.specs.Order.{place_of, AreBlocksOver, MayHaveBlock, IsBetweenAnswers}
use Rattle.report_rules.specs.Told.{query_of, block_of}
use Rattle.report_rules.specs.Blocks.{IsClosedBlock, IsOfBlock}
use Rattle.report_rules.specs.Accepted.{Right, AreRight}
use Rattle.report_laws.specs.ComponentLaws.{QueryBlockStands, may_learn, LearnableIsTold, LawsOfComponents}
use Rattle.report_laws.proofs.BlocksDone.{push_stands}
use Rattle.report_laws.proofs.ClosureLemmas.{query_block_is_closure}
use Rattle.report_laws.proofs.LiteralLemmas.{literal_cases}
use Rattle.report_laws.proofs.TestLemmas.{Tells, tells_like, tells_either, tells_has}

-- ---- the query's block

-- the place is behind the first line of the query's block, before the end
abbrev IsLater : Place → Type 0
IsLater AtStart = ⊥
IsLater AfterHead = ⊥
IsLater AtEnd = ⊥
IsLater _ = Unit {0}

-- and the block was left
abbrev IsLeft : Place → Type 0
IsLeft AtStart = ⊥
IsLeft AfterHead = ⊥
IsLeft AtEnd = ⊥
IsLeft (InBlock origin.Query) = ⊥
IsLeft _ = Unit {0}

record IsDone (input : Input) (b : List Line) : Type 0 where
  stands : block_of origin.Query b ≢ []
  closed : IsClosedBlock input.kb.axioms (block_of origin.Query b)

query_stands : (b : List Line) → place_of b ≡ InBlock origin.Query → block_of origin.Query b ≢ []
query_stands (line.Cq origin.Query q step ∷ b) e = push_stands (block_of origin.Query b) q
query_stands (line.Cq (origin.Negative j) q step ∷ b) e = absurd (cc)
query_stands [] e = absurd (cc)
query_stands (line.Head axioms budget facts keep repairs version ∷ b) e = absurd (cc)
query_stands (line.Conflict facts rule member ∷ b) e = absurd (cc)
query_stands (line.Ask candidate tuple causes members ∷ b) e = absurd (cc)
query_stands (line.Try question assume ∷ b) e = absurd (cc)
query_stands (line.Learn number clause ∷ b) e = absurd (cc)
query_stands (line.Core number kept dropped ∷ b) e = absurd (cc)
query_stands (line.Done how core ∷ b) e = absurd (cc)
query_stands (line.Forget clauses ∷ b) e = absurd (cc)
query_stands (line.Answer brave ar iar cores names tuple ∷ b) e = absurd (cc)
query_stands (line.End answers brave ar iar undecided ∷ b) e = absurd (cc)

-- a line of another block or kind leaves the block done
left : (input : Input) (b : List Line) (l : Line) → Right input b l → (IsOfBlock origin.Query l → ⊥) → (IsLeft (place_of b) → IsDone input b) → (p : Place)
    → place_of b ≡ p → IsLater p → IsDone input b
left input b l r n again (InBlock origin.Query) e h = record {
  stands = query_stands b e;
  closed =
      elim (r.closed origin.Query e) [ inl w ↦ absurd (n w) | inr c ↦ c ];
}
left input b l r n again (InBlock (origin.Negative j)) e h = again (subst IsLeft (sym e) tt)
left input b l r n again InConflicts e h = again (subst IsLeft (sym e) tt)
left input b l r n again AfterForget e h = again (subst IsLeft (sym e) tt)
left input b l r n again InAnswer e h = again (subst IsLeft (sym e) tt)
left input b l r n again InTry e h = again (subst IsLeft (sym e) tt)
left input b l r n again AfterCore e h = again (subst IsLeft (sym e) tt)
left input b l r n again AfterAnswer e h = again (subst IsLeft (sym e) tt)
left input b l r n again AtStart e h = absurd h
left input b l r n again AfterHead e h = absurd h
left input b l r n again AtEnd e h = absurd h

later_over : (axioms : List Axiom) (p : Place) → AreBlocksOver OneQuery axioms p → IsLater p
later_over axioms (InBlock o) h = tt
later_over axioms InConflicts h = tt
later_over axioms _ h = absurd h

later_between : (axioms : List Axiom) (p : Place) → IsBetweenAnswers OneQuery axioms p → IsLater p
later_between axioms AfterAnswer h = tt
later_between axioms (InBlock o) h = tt
later_between axioms InConflicts h = tt
later_between axioms _ h = absurd h

later_block : (axioms : List Axiom) (p : Place) (j : ℕ) → MayHaveBlock OneQuery axioms p (origin.Negative j) → IsLater p
later_block axioms (InBlock o) j h = tt
later_block axioms AfterHead j h = absurd (cc)
later_block axioms _ j h = absurd h

later_ask : (axioms : List Axiom) (p : Place) → (p ≡ AfterForget) ⊎ IsBetweenAnswers OneQuery axioms p → IsLater p
later_ask axioms p (inl e) = subst IsLater (sym e) tt
later_ask axioms p (inr h) = later_between axioms p h

later_done : (p : Place) → (p ≡ InTry) ⊎ (p ≡ AfterCore) → IsLater p
later_done p (inl e) = subst IsLater (sym e) tt
later_done p (inr e) = subst IsLater (sym e) tt

module _ (input : Input) (one : input.form ≡ OneQuery) where
  query_done : (b : List Line) → AreRight input b → IsLeft (place_of b) → IsDone input b
  query_done [] r h = absurd h
  query_done (line.Head axioms budget facts keep repairs version ∷ b) r h = absurd h
  query_done (line.Cq origin.Query q step ∷ b) r h = absurd h
  query_done (line.End answers brave ar iar undecided ∷ b) r h = absurd h
  query_done (line.Cq (origin.Negative j) q step ∷ b) (r, rs) h = let w =
      left input b (line.Cq (origin.Negative j) q step) r (λ e. absurd (cc)) (query_done b rs) (place_of b) refl
      (later_block input.kb.axioms (place_of b) j (subst (λ (f : Form). MayHaveBlock f input.kb.axioms (place_of b) (origin.Negative j)) one r.order)) in
      record { stands = w.stands; closed = w.closed }
  query_done (line.Conflict facts rule member ∷ b) (r, rs) h = let w =
      left input b (line.Conflict facts rule member) r (λ e. e) (query_done b rs) (place_of b) refl
      (later_over input.kb.axioms (place_of b) (subst (λ (f : Form). AreBlocksOver f input.kb.axioms (place_of b)) one r.order)) in
      record { stands = w.stands; closed = w.closed }
  query_done (line.Forget clauses ∷ b) (r, rs) h = let w = left input b (line.Forget clauses) r (λ e. e) (query_done b rs) (place_of b) refl
      (later_between input.kb.axioms (place_of b) (subst (λ (f : Form). IsBetweenAnswers f input.kb.axioms (place_of b)) one r.order)) in
      record { stands = w.stands; closed = w.closed }
  query_done (line.Ask candidate tuple causes members ∷ b) (r, rs) h = let w =
      left input b (line.Ask candidate tuple causes members) r (λ e. e) (query_done b rs) (place_of b) refl
      (later_ask input.kb.axioms (place_of b) (subst (λ (f : Form). (place_of b ≡ AfterForget) ⊎ IsBetweenAnswers f input.kb.axioms (place_of b)) one
      r.order)) in record { stands = w.stands; closed = w.closed }
  query_done (line.Try question assume ∷ b) (r, rs) h = let w =
      left input b (line.Try question assume) r (λ e. e) (query_done b rs) (place_of b) refl (subst IsLater (sym r.order) tt) in
      record { stands = w.stands; closed = w.closed }
  query_done (line.Learn number clause ∷ b) (r, rs) h = let w =
      left input b (line.Learn number clause) r (λ e. e) (query_done b rs) (place_of b) refl (subst IsLater (sym r.order) tt) in
      record { stands = w.stands; closed = w.closed }
  query_done (line.Core number kept dropped ∷ b) (r, rs) h = let w =
      left input b (line.Core number kept dropped) r (λ e. e) (query_done b rs) (place_of b) refl (subst IsLater (sym r.order) tt) in
      record { stands = w.stands; closed = w.closed }
  query_done (line.Done how core ∷ b) (r, rs) h = let w = left input b (line.Done how core) r (λ e. e) (query_done b rs) (place_of b) refl
      (later_done (place_of b) r.order) in record { stands = w.stands; closed = w.closed }
  query_done (line.Answer brave ar iar cores names tuple ∷ b) (r, rs) h = let w =
      left input b (line.Answer brave ar iar cores names tuple) r (λ e. e) (query_done b rs) (place_of b) refl (subst IsLater (sym r.order) tt) in
      record { stands = w.stands; closed = w.closed }

pub query_block : QueryBlockStands
query_block input b r one w = by (place_of b) refl (subst (λ (f : Form). AreBlocksOver f input.kb.axioms (place_of b)) one w.over)
  where
    closure : IsDone input b → IsClosure input.kb.axioms (query_of input b) (block_of origin.Query b)
    closure d = query_block_is_closure input b r d.stands d.closed

    by : (p : Place) → place_of b ≡ p → AreBlocksOver OneQuery input.kb.axioms p → IsClosure input.kb.axioms (query_of input b) (block_of origin.Query b)
    by (InBlock origin.Query) e h = query_block_is_closure input b r (query_stands b e) (w.closed origin.Query e)
    by (InBlock (origin.Negative j)) e h = closure (query_done input one b r (subst IsLeft (sym e) tt))
    by InConflicts e h = closure (query_done input one b r (subst IsLeft (sym e) tt))
    by _ e h = absurd h

-- ---- literals

tells_equal : (m n : ℕ) → Tells (eqb m n) (m ≡ n)
tells_equal m n = (eqb-true m n, eq-eqb m n)

pub told : LearnableIsTold
told kb a facts are l = tells_like (may_learn (selector_of kb a.candidate) facts l)
    (tells_either (has facts (variable_of l)) (eqb l (absent (selector_of kb a.candidate))) (tells_has facts (variable_of l))
    (tells_equal l (absent (selector_of kb a.candidate))))
    (elim [ inl m ↦ inl (variable_of l, literal_cases l, ((are.exact (variable_of l)).0 m).0, ((are.exact (variable_of l)).0 m).1) | inr e ↦ inr e ])
    (elim [ inl w ↦ inl (subst (Contains facts) (same w.0 w.1) ((are.exact w.0).1 (w.2, w.3))) | inr e ↦ inr e ])
  where
    same : (i : ℕ) → (l ≡ present i) ⊎ (l ≡ absent i) → i ≡ variable_of l
    same i (inl e) = sym (variable_of-present i) ∙ ap variable_of (sym e)
    same i (inr e) = sym (variable_of-absent i) ∙ ap variable_of (sym e)

pub laws : LawsOfComponents
laws = record { query_block = query_block; told = told }
