-- The cores by which tries end: direct ones, and those of a model that a search found.
use Rattle.std.proofs.Common.{◌≡◌, ℕ, ◌+◌, ◌<◌, inl, inr, List, [], ◌∷◌, ◌++◌, map, All, Contains, true, false, refl, sym, subst, ap, arith}
use Rattle.std.proofs.lemmas.List.Elements.{All-contains}
use Rattle.cq_terms.specs.Conflicts.{AreInConflict}
use Rattle.cq_terms.specs.Knowledge.{Knowledge}
use Rattle.cq_terms.specs.Lists.{IsAscending}
use Rattle.cq_meaning.specs.Cores as cores
use Rattle.cq_meaning.proofs.Ascending.{All-of}
use Rattle.cq_meaning.proofs.Members.{Contains-head, Contains-nil, Contains-cases}
use Rattle.clause_meaning.specs.Assignments.{Satisfies, SatisfiesAll, IsInside}
use Rattle.clause_meaning.specs.Refutation.{IsWithin}
use Rattle.priority_graph.specs.Priority.{Priority, Conflict, IsPriority}
use Rattle.priority_graph.specs.Cores.{IsCore, IsDirect, ConflictsWith}
use Rattle.priority_graph.specs.Inputs.{IsPriorityOf, AreRivals}
use Rattle.priority_graph.specs.Split.{has}
use Rattle.priority_graph.proofs.DirectLemmas.{conflict_of, conflict_over}
use Rattle.priority_graph.proofs.InputLemmas.{direct_tells}
use Rattle.repair_clauses.specs.BaseClauses.{IsBaseClause, present, absent}
use Rattle.repair_clauses.specs.CauseClauses.{cause_clause}
use Rattle.repair_clauses.specs.Components.{IsClosedUnder}
use Rattle.repair_clauses.proofs.LawLemmas.{cause_is_excluded}
use Rattle.repair_clauses.proofs.LiteralLemmas.{true_present, true_absent}
use Rattle.cdcl_core.specs.State.{State, LiveIn, value_in}
use Rattle.cdcl_core.specs.Solving.{IsModelOf}
use Rattle.explainer.specs.Missing.{AreMissing}
use Rattle.explainer.specs.Wanted.{IsCoreFor, SatisfiesComponents}
use Rattle.explainer.proofs.CoreLemmas.{scope_covers}
use Rattle.report_text.specs.declared.line.Line.{Line}
use Rattle.report_text.specs.declared.line.Question.TheVariants as question
use Rattle.report_rules.specs.Inputs.{selector_of}
use Rattle.report_rules.specs.Clauses.{IsCauseClause}
use Rattle.report_rules.specs.TryRules.{IsEasy}
use Rattle.report_laws.specs.Scopes.{IsScope, scope_of}
use Rattle.report_laws.proofs.BaseClauseLemmas.{means}
use Rattle.report_laws.proofs.BoundLemmas.{graph_tells}
use Rattle.report_laws.proofs.OverPriorityLemmas.{conflicts_of_priority, some_base}
use Rattle.report_laws.proofs.PriorityLemmas.{base_of_priority}
use Rattle.report_laws.proofs.ScopeLemmas.{components_scope, base_inside, causes_inside}
use Rattle.answer_evidence.specs.Aims.{IsCoreOver}
use Rattle.answer_evidence.specs.FreeCauses.{IsFreeCause}
use Rattle.answer_evidence.specs.Sets.{EachMeets}
use Rattle.answer_desk.specs.Following.{Frame, own_selector, own_scope, IsBaseOf, IsFrame, Follows}
use Rattle.answer_desk.proofs.LiveLemmas.{live_from}
use Rattle.answer_desk.proofs.FollowingShowLemmas.{absent_one}
use Rattle.answer_desk.proofs.FollowingVerdictLemmas.{present_one}

-- ---- facts

-- both facts of a conflict are known
pub conflict_known : (p : Priority) → IsPriority p → (i j : ℕ) → Conflict p i j → (i < p.facts) × (j < p.facts)
conflict_known p h i j (inl m) = let c = All-contains (λ (c : ℕ × ℕ). (c.0 < c.1) × (c.1 < p.facts)) p.couples (i, j) h.couples_known m in
    let l = c.0 in let k = c.1 in (omega arith, k)
conflict_known p h i j (inr m) = let c = All-contains (λ (c : ℕ × ℕ). (c.0 < c.1) × (c.1 < p.facts)) p.couples (j, i) h.couples_known m in
    let l = c.0 in let k = c.1 in (k, omega arith)

-- ---- direct cores

-- what conflicts with a kept list makes a core line with it
pub direct_line : (p : Priority) → IsPriority p → (kept dropped : List ℕ) → IsAscending kept → All (λ i. i < p.facts) kept → IsDirect p kept dropped
    → IsCoreOver p kept dropped
direct_line p h kept dropped ascending known d = record {
  kept_ascending = ascending;
  kept_known = known;
  dropped_ascending = d.ascending;
  core = d.core;
}

-- of a cause it keeps the cause
pub direct_brave : (w : Frame) → IsFrame w → (cause dropped : List ℕ) → Contains w.asked.causes cause → IsDirect w.better cause dropped
    → IsCoreOver w.better cause dropped × IsWithin cause cause
direct_brave w frame cause dropped m d =
    let c = All-contains (IsFreeCause w.better) w.asked.causes cause frame.causes_are m in
    (direct_line w.better frame.priority cause dropped c.ascending c.known d, (λ i k. k))

-- of a fact that conflicts with another one it drops this
pub direct_iar : (w : Frame) → IsFrame w → (fact rival : ℕ) (kept dropped : List ℕ) → AreInConflict w.conflicts.clashes fact rival → kept ≡ rival ∷ []
    → IsDirect w.better kept dropped → IsCoreOver w.better kept dropped × Contains dropped fact
direct_iar w frame fact rival kept dropped conflict only d = (
  direct_line w.better frame.priority kept dropped
      (subst IsAscending (sym only) (λ a b e k l. absurd (one_place a b k l)))
      (subst (All (λ i. i < w.better.facts)) (sym only) (All-of (λ i. i < w.better.facts) (rival ∷ [])
      (λ i m. elim (Contains-cases rival [] i m) [
        | inl e ↦ subst (λ (n : ℕ). n < w.better.facts) e (conflict_known w.better frame.priority fact rival over).1
        | inr n ↦ absurd (Contains-nil i n)
      ])))
      d,
  (d.exact fact).1 (rival, subst (λ (xs : List ℕ). Contains xs rival) (sym only) (Contains-head rival []), back over),
)
  where
    one_place : (a b : ℕ) → a < b → b < 1 → ⊥
    one_place a b k l = omega arith

    over : Conflict w.better fact rival
    over = conflict_of w.better w.conflicts fact rival frame.over conflict

    back : Conflict w.better fact rival → Conflict w.better rival fact
    back (inl m) = inr m
    back (inr m) = inl m

-- where there is no direct core the try isn't easy
pub brave_hard : (w : Frame) (cause : List ℕ) → ¬ IsCore w.better (Contains cause) (ConflictsWith w.better cause) → (kb : Knowledge) → IsBaseOf w kb
    → ¬ IsEasy kb w.start.mode question.Brave (map present cause)
brave_hard w cause none kb of (c, same, (dropped, rivals, core)) =
    (direct_tells kb w.start.mode w.better of cause).none none dropped
    (subst (λ (xs : List ℕ). AreRivals kb xs dropped) (sym (present_one cause c same)) rivals)
    (subst (λ (xs : List ℕ). cores.IsCore kb w.start.mode (has xs) (has dropped)) (sym (present_one cause c same)) core)

pub iar_hard : (w : Frame) → IsFrame w → (fact : ℕ)
    → ((j : ℕ) → AreInConflict w.conflicts.clashes fact j → ¬ IsCore w.better (Contains (j ∷ [])) (ConflictsWith w.better (j ∷ [])))
    → (kb : Knowledge) → IsBaseOf w kb → ¬ IsEasy kb w.start.mode question.Iar (absent fact ∷ [])
iar_hard w frame fact none kb of (i, j, same, conflict, (dropped, rivals, core)) =
    let equal : fact ≡ i = absent_one fact i same in
    let over : Conflict w.better i j = ((means kb w.start.mode w.better of).conflict i j).1 conflict in
    (direct_tells kb w.start.mode w.better of (j ∷ [])).none
    (none j (subst (λ (x : ℕ). AreInConflict w.conflicts.clashes x j) (sym equal) (conflict_over w.better w.conflicts i j frame.over over)))
    dropped rivals core

-- ---- the facts of the components

record HasScope (w : Frame) : Type 0 where
  kb : Knowledge
  of : IsBaseOf w kb
  scope : IsScope kb w.asked.causes w.facts

has_scope : (w : Frame) → IsFrame w → HasScope w
has_scope w frame = go (some_base w.better frame.priority w.start.mode frame.fits)
  where
    go : (kb : Knowledge) × IsPriorityOf kb w.start.mode w.better → HasScope w
    go (kb, of) = record {
      kb = kb;
      of = of;
      scope = components_scope kb w.asked.causes w.facts (λ cause m. subst (λ (n : ℕ). All (λ i. i < n) cause) of.facts
          (All-contains (IsFreeCause w.better) w.asked.causes cause frame.causes_are m).known)
          (((graph_tells kb w.conflicts (conflicts_of_priority kb w.start.mode w.better w.conflicts of frame.over)).reached w.asked.causes w.facts).0
          frame.reached);
    }

-- they are known, have the causes, and are closed under conflict
pub facts_known : (w : Frame) → IsFrame w → All (λ i. i < w.better.facts) w.facts
facts_known w frame = let s = has_scope w frame in subst (λ (n : ℕ). All (λ i. i < n) w.facts) (sym s.of.facts) s.scope.known

pub facts_have : (w : Frame) → IsFrame w → (cause : List ℕ) → Contains w.asked.causes cause → IsWithin cause w.facts
facts_have w frame cause m = (has_scope w frame).scope.causes_inside cause m

facts_closed : (w : Frame) → IsFrame w → IsClosedUnder (AreInConflict w.conflicts.clashes) (Contains w.facts)
facts_closed w frame i j m c =
    let s = has_scope w frame in
    s.scope.closed i j m (((graph_tells s.kb w.conflicts (conflicts_of_priority s.kb w.start.mode w.better w.conflicts s.of frame.over)).conflict i j).0 c)

-- ---- a model

module _ (w : Frame) (more : List Line) (state : State) (f : Follows w more state) (assume literals : List ℕ)
    (m : IsModelOf (LiveIn state) (own_scope w) assume literals) where
  scoped : (s : HasScope w) → own_scope w ≡ scope_of s.kb w.asked w.facts
  scoped s = ap (λ (n : ℕ). w.facts ++ (n + w.asked.candidate) ∷ []) s.of.facts

  -- it satisfies the base clauses of the facts
  base_satisfied : SatisfiesAll (value_in literals) (IsBaseClause w.better (Contains w.facts))
  base_satisfied c base =
      let s = has_scope w f.frame in
      let b = base_inside s.kb w.asked w.facts s.scope w.start.mode w.better s.of c base in
      m.satisfied c (
        live_from state.live c (inl ((f.given c).1 (inl ((base_of_priority s.kb w.start.mode w.better s.of c).0 b.0)))),
        subst (λ (xs : List ℕ). IsInside (has xs) c) (sym (scoped s)) b.1,
      )

  -- so the present facts are those of a model for all cores within the components
  pub model_covers : (found : List ℕ) → ((i : ℕ) → Contains w.facts i → has found i ≡ value_in literals i) → (wanted : List ℕ)
      → All (Contains w.facts) wanted → SatisfiesComponents w.better w.conflicts found wanted
  model_covers found same wanted inside = scope_covers w.better w.conflicts f.frame.priority f.frame.over w.facts (facts_closed w f.frame) (value_in literals)
      base_satisfied found same wanted inside

  -- what is assumed present is true, and what is assumed absent is false
  pub assumed_present : (i : ℕ) → Contains assume (present i) → value_in literals i ≡ true
  assumed_present i k = true_present (value_in literals) i (present i) refl (m.assumed (present i) k)

  pub assumed_absent : (i : ℕ) → Contains assume (absent i) → value_in literals i ≡ false
  assumed_absent i k = true_absent (value_in literals) i (absent i) refl (m.assumed (absent i) k)

  -- where the selector is assumed no cause is wholly present
  pub none_present : Contains assume (present (own_selector w)) → (cause : List ℕ) → Contains w.asked.causes cause
      → All (λ i. value_in literals i ≡ true) cause → ⊥
  none_present k cause member all = (cause_is_excluded (value_in literals) (own_selector w) cause).0 satisfied
      (true_present (value_in literals) (own_selector w) (present (own_selector w)) refl (m.assumed (present (own_selector w)) k)) all
    where
      satisfied : Satisfies (value_in literals) (cause_clause (own_selector w) cause)
      satisfied =
          let s = has_scope w f.frame in
          let same : own_selector w ≡ selector_of s.kb w.asked.candidate = ap (λ (n : ℕ). n + w.asked.candidate) s.of.facts in
          m.satisfied (cause_clause (own_selector w) cause) (
            live_from state.live (cause_clause (own_selector w) cause) (inl ((f.given (cause_clause (own_selector w) cause)).1 (inr (cause, member, refl)))),
            subst (λ (xs : List ℕ). IsInside (has xs) (cause_clause (own_selector w) cause)) (sym (scoped s))
                (causes_inside s.kb w.asked w.facts s.scope (cause_clause (own_selector w) cause)
                (subst (λ (n : ℕ). IsCauseClause n w.asked.causes (cause_clause (own_selector w) cause)) same (cause, member, refl))),
          )

-- a core within present facts is a core line
pub found_line : (w : Frame) → IsFrame w → (found start drop kept dropped : List ℕ) → All (Contains w.facts) found → All (Contains w.facts) drop
    → IsAscending kept → IsAscending dropped → IsCoreFor w.better found start drop kept dropped → IsCoreOver w.better kept dropped
found_line w frame found start drop kept dropped inside outside up down c = record {
  kept_ascending = up;
  kept_known = All-of (λ i. i < w.better.facts) kept (λ i m. known i (All-contains (Contains w.facts) found i inside
      (All-contains (Contains found) kept i c.inside m)));
  dropped_ascending = down;
  core = c.core;
}
  where
    known : (i : ℕ) → Contains w.facts i → i < w.better.facts
    known i m = All-contains (λ i. i < w.better.facts) w.facts i (facts_known w frame) m

-- and shows what was asked: it keeps a cause, drops a fact, or drops a fact of every cause
pub keeps_start : (p : Priority) (found start drop kept dropped : List ℕ) → IsCoreFor p found start drop kept dropped → IsWithin start kept
keeps_start p found start drop kept dropped c i m = All-contains (Contains kept) start i c.starts m

pub drops_fact : (p : Priority) (found start : List ℕ) (fact : ℕ) (kept dropped : List ℕ) → IsCoreFor p found start (fact ∷ []) kept dropped
    → Contains dropped fact
drops_fact p found start fact kept dropped c = (c.drops fact).1 (inl (Contains-head fact []))

pub drops_each : (p : Priority) (causes : List (List ℕ)) (found start drop kept dropped : List ℕ) → AreMissing causes found drop
    → IsCoreFor p found start drop kept dropped → EachMeets causes dropped
drops_each p causes found start drop kept dropped missing c cause m =
    let (i, k, least) = missing.exact.each cause m in (i, least.inside, (c.drops i).1 (inl k))
