-- An open answer: its scope, and which clauses its solver has.
use Rattle.std.proofs.Common.{◌≡◌, ◌<◌, ◌≤◌, ◌+◌, ◌-◌, ◌^◌, ◌⊎◌, ◌↔◌, All, inl, inr, ℕ, suc, Bool, true, false, List, [], ◌∷◌, ◌++◌, length}
use Rattle.std.proofs.Common.{take, map}
use Rattle.std.proofs.Common.{refl, sym, subst, ap, ◌∙◌, arith, Contains, length-append}
use Rattle.std.proofs.lemmas.Bool.{true≢false}
use Rattle.std.proofs.lemmas.List.{length-map, take-append-le, take_all}
use Rattle.std.proofs.lemmas.List.Elements.{All-contains, All-weaker, Contains-append_left, Contains-push, Contains-push_cases}
use Rattle.clause_meaning.specs.Assignments.{IsInside, Separates}
use Rattle.clause_meaning.specs.Learning.{is_in}
use Rattle.clause_meaning.specs.Literals.{variable_of}
use Rattle.clause_meaning.proofs.Members.{Contains-map_cases}
use Rattle.cq_terms.specs.Conflicts.{ConflictGraph, AreInConflict}
use Rattle.cq_terms.specs.Lists.{IsAscending}
use Rattle.cq_meaning.proofs.Ascending.{All-of}
use Rattle.cdcl_core.specs.State.{State, LiveIn}
use Rattle.priority_graph.specs.Priority.{Priority, IsPriority, IsOver, Conflict}
use Rattle.priority_graph.proofs.DirectLemmas.{conflict_over, conflict_of, conflict_below}
use Rattle.priority_graph.proofs.SplitLemmas.{has_true, has_there, has_not}
use Rattle.repair_clauses.specs.BaseClauses.{absent, AllFacts, IsBaseClause}
use Rattle.repair_clauses.specs.CauseClauses.{cause_clause}
use Rattle.repair_clauses.specs.Components.{IsClosedUnder}
use Rattle.repair_clauses.proofs.LawLemmas.{reached_inside}
use Rattle.repair_clauses.proofs.ListLemmas.{ascending_push}
use Rattle.repair_clauses.proofs.LiteralLemmas.{variable_of-absent}
use Rattle.report_laws.specs.Bounds.{AreReached}
use Rattle.report_laws.specs.OpenAnswers.{IsAmong}
use Rattle.report_rules.specs.Clauses.{IsCauseClause}
use Rattle.report_rules.specs.Live.{Learned}
use Rattle.answer_evidence.specs.declared.evidence.Evidence.{Evidence}
use Rattle.answer_evidence.specs.declared.opening.Opening.{Opening}
use Rattle.answer_desk.specs.Desks.{given_in, learned_in}
use Rattle.answer_evidence.specs.FreeCauses.{IsFreeCause}
use Rattle.answer_desk.specs.Loading.{Loads, FitIn, AreLoadable}
use Rattle.answer_desk.specs.Openings.{IsOpen, IsSameOpening, KeepsApart}
use Rattle.answer_evidence.specs.Reached.{IsScopeWith}
use Rattle.answer_evidence.specs.Shown.{ShowsNothing}
use Rattle.answer_desk.proofs.LiveLemmas.{live_cases, live_from}
use Rattle.answer_desk.proofs.LoadLemmas.{cause_clauses_listed}

-- ---- the live clauses: the given ones and the learned ones

pub given_live : (state : State) (c : List ℕ) → Contains (given_in state.live) c → LiveIn state c
given_live state c m = live_from state.live c (inl m)

pub learned_live : (state : State) (c : List ℕ) → IsAmong (learned_in state.live) c → LiveIn state c
learned_live state c w = live_from state.live c (inr w)

pub live_parts : (state : State) (c : List ℕ) → LiveIn state c → Contains (given_in state.live) c ⊎ IsAmong (learned_in state.live) c
live_parts state c m = live_cases state.live c m

-- ---- the causes of a candidate

-- their facts are below each bound that the facts of the table are below
pub causes_fit : (p : Priority) (g : ConflictGraph) (bound : ℕ) (causes : List (List ℕ)) → IsOver p g → g.facts ≤ bound → All (IsFreeCause p) causes
    → FitIn bound causes
causes_fit p g bound causes over known free = All-weaker (IsFreeCause p) (λ cause. All (λ f. f < bound) cause)
    (λ cause h. All-weaker (λ f. f < p.facts) (λ f. f < bound) (λ f l. go f l) cause h.known) causes free
  where
    go : (f : ℕ) → f < p.facts → f < bound
    go f l = let same = over.facts in omega (arith, l, same, known)

-- and their clauses may be loaded with a selector behind the facts
pub causes_loadable : (p : Priority) (g : ConflictGraph) (selector : ℕ) (causes : List (List ℕ)) → IsOver p g → g.facts ≤ selector
    → All (IsFreeCause p) causes → AreLoadable selector causes
causes_loadable p g selector causes over behind free = All-weaker (IsFreeCause p) (λ cause. IsAscending cause × All (λ f. f < selector) cause)
    (λ cause h. (h.ascending, All-weaker (λ f. f < p.facts) (λ f. f < selector) (λ f l. go f l) cause h.known)) causes free
  where
    go : (f : ℕ) → f < p.facts → f < selector
    go f l = let same = over.facts in omega (arith, l, same, behind)

-- ---- the facts of a scope

pub facts_taken : (facts : List ℕ) (selector : ℕ) (scope : List ℕ) → scope ≡ facts ++ selector ∷ [] → take (length scope - 1) scope ≡ facts
facts_taken facts selector scope is = subst (λ (vs : List ℕ). take (length vs - 1) vs ≡ facts) (sym is) go
  where
    long : length (facts ++ selector ∷ []) - 1 ≡ length facts
    long = omega (arith, length-append facts (selector ∷ []))

    go : take (length (facts ++ selector ∷ []) - 1) (facts ++ selector ∷ []) ≡ facts
    go = ap (λ (n : ℕ). take n (facts ++ selector ∷ [])) long
        ∙ (take-append-le (length facts) facts (selector ∷ []) (omega arith) ∙ take_all (length facts) facts (omega arith))

pub scope_some : (facts : List ℕ) (selector : ℕ) (scope : List ℕ) → scope ≡ facts ++ selector ∷ [] → 0 < length scope
scope_some facts selector scope is = omega (arith, ap (λ (vs : List ℕ). length vs) is, length-append facts (selector ∷ []))

pub in_facts : (facts : List ℕ) (selector v : ℕ) → is_in facts v ≡ true → is_in (facts ++ selector ∷ []) v ≡ true
in_facts facts selector v t = has_true (facts ++ selector ∷ []) v (Contains-append_left facts (selector ∷ []) v (has_there facts v t))

pub in_scope_selector : (facts : List ℕ) (selector : ℕ) → is_in (facts ++ selector ∷ []) selector ≡ true
in_scope_selector facts selector = has_true (facts ++ selector ∷ []) selector (Contains-push facts selector)

out_of_facts : (facts : List ℕ) (selector v : ℕ) → is_in facts v ≡ false → v < selector → is_in (facts ++ selector ∷ []) v ≡ false
out_of_facts facts selector v f l = has_not (facts ++ selector ∷ []) v (λ m. elim (Contains-push_cases facts selector v m) [
  | inl n ↦ true≢false (sym (has_true facts v n) ∙ f)
  | inr e ↦ apart e
])
  where
    apart : selector ≡ v → ⊥
    apart e = omega (arith, e, l)

module _ (p : Priority) (g : ConflictGraph) (causes : List (List ℕ)) (facts : List ℕ) (over : IsOver p g) (reached : AreReached g causes facts) where
  -- they are closed under conflict
  pub reached_closed_graph : IsClosedUnder (AreInConflict g.clashes) (Contains facts)
  reached_closed_graph i j m c = let w = (reached.exact i).0 m in (reached.exact j).1 (w.0, w.1, w.2, w.3, (suc w.4.0, (i, w.4.1, c)))

  pub reached_closed : IsClosedUnder (Conflict p) (Contains facts)
  reached_closed i j m c = reached_closed_graph i j m (conflict_over p g i j over c)

  -- each fact of a cause is one of them
  pub cause_inside : (cause : List ℕ) → Contains causes cause → (i : ℕ) → Contains cause i → Contains facts i
  cause_inside cause m i n = (reached.exact i).1 (cause, i, m, n, (0, refl))

  -- they are facts of the table
  pub reached_known : IsPriority p → All (IsFreeCause p) causes → (i : ℕ) → Contains facts i → i < p.facts
  reached_known order free i m =
      let w = (reached.exact i).0 m in
      let start : w.1 < p.facts = All-contains (λ j. j < p.facts) w.0 w.1 (All-contains (IsFreeCause p) causes w.0 free w.2).known w.3 in
      reached_inside g w.1 (λ j. j < p.facts) (λ k j l c. conflict_below p order k j (conflict_of p g k j over c)) start w.4.0 i w.4.1

-- ---- an answer is open over what was loaded

module _ (p : Priority) (g : ConflictGraph) (selector : ℕ) (causes : List (List ℕ)) (facts : List ℕ) (over : IsOver p g) (order : IsPriority p)
    (free : All (IsFreeCause p) causes) (reached : AreReached g causes facts) (behind : p.facts ≤ selector) where
  pub cause_clause_inside : (cause : List ℕ) → Contains causes cause → IsInside (is_in (facts ++ selector ∷ [])) (cause_clause selector cause)
  cause_clause_inside cause m l n =
      let w = Contains-map_cases absent (cause ++ selector ∷ []) l n in
      subst (λ (v : ℕ). is_in (facts ++ selector ∷ []) v ≡ true) (sym (ap variable_of (sym w.2) ∙ variable_of-absent w.0)) (go w.0 w.1)
    where
      go : (f : ℕ) → Contains (cause ++ selector ∷ []) f → is_in (facts ++ selector ∷ []) f ≡ true
      go f k = elim (Contains-push_cases cause selector f k) [
        | inl o ↦ in_facts facts selector f (has_true facts f (cause_inside p g causes facts over reached cause m f o))
        | inr e ↦ subst (λ (v : ℕ). is_in (facts ++ selector ∷ []) v ≡ true) e (in_scope_selector facts selector)
      ]

  old_separated : (old : State) → KeepsApart p old → Separates (is_in (facts ++ selector ∷ [])) (LiveIn old)
  old_separated old apart c m =
      let keeps = apart c m in
      elim (keeps.1 facts (reached_closed p g causes facts over reached)) [
        | inl inside ↦ inl (λ l n. in_facts facts selector (variable_of l) (inside l n))
        | inr outside ↦ inr (λ l n. out_of_facts facts selector (variable_of l) (outside l n) (below l n keeps.0))
      ]
    where
      below : (l : ℕ) → Contains c l → All (λ k. variable_of k < p.facts) c → variable_of l < selector
      below l n known = let less = All-contains (λ k. variable_of k < p.facts) c l known n in omega (arith, less)

  loaded_separated : (old new : State) → KeepsApart p old → Loads (map (cause_clause selector) causes) old new
      → Separates (is_in (facts ++ selector ∷ [])) (LiveIn new)
  loaded_separated old new apart l c m = elim (live_parts new c m) [
    | inl n ↦ elim ((l.given c).0 n) [
      | inl o ↦ old_separated old apart c (given_live old c o)
      | inr o ↦ let w = (cause_clauses_listed selector causes c).0 o in
          inl (subst (IsInside (is_in (facts ++ selector ∷ []))) (sym w.2) (cause_clause_inside w.0 w.1))
    ]
    | inr w ↦ old_separated old apart c (learned_live old c
        (subst (λ (es : List Learned). (n : ℕ) × Contains es (record { number = n; clause = c })) l.learned w))
  ]

pub IsOpen-loaded : (p : Priority) (g : ConflictGraph) (opening : Opening) (causes : List (List ℕ)) (old new : State) → IsOver p g → IsPriority p
    → All (IsFreeCause p) causes → g.facts ≤ opening.selector → opening.selector < 2 ^ 31 → opening.selector < old.variables
    → IsScopeWith g causes opening.selector opening.scope.items
    → ((clause : List ℕ) → Contains (given_in old.live) clause ↔ IsBaseClause p (AllFacts p) clause) → KeepsApart p old
    → Loads (map (cause_clause opening.selector) causes) old new → length opening.evidence.cut.items ≡ length causes → IsOpen g p new opening causes
IsOpen-loaded p g opening causes old new over order free behind few variables (facts, reached, is) base apart l cut = record {
  over = over;
  behind = behind;
  few = few;
  variables = subst (λ (n : ℕ). opening.selector < n) (sym l.variables) variables;
  causes_are = free;
  scope = (facts, reached, is);
  ascending = subst IsAscending (sym is) (ascending_push facts opening.selector reached.ascending (All-of (λ x. x < opening.selector) facts before));
  in_range = subst (λ (vs : List ℕ). All (λ v. v < new.variables) vs) (sym is) (All-of (λ v. v < new.variables) (facts ++ opening.selector ∷ []) range);
  given = λ c. (there c, back c);
  separates = subst (λ (vs : List ℕ). Separates (is_in vs) (LiveIn new)) (sym is)
      (loaded_separated p g opening.selector causes facts over order free reached under old new apart l);
  cut = cut;
}
  where
    under : p.facts ≤ opening.selector
    under = let same = over.facts in omega (arith, same, behind)

    before : (i : ℕ) → Contains facts i → i < opening.selector
    before i m = let less = reached_known p g causes facts over reached order free i m in omega (arith, less, under)

    range : (v : ℕ) → Contains (facts ++ opening.selector ∷ []) v → v < new.variables
    range v m = subst (λ (n : ℕ). v < n) (sym l.variables) (elim (Contains-push_cases facts opening.selector v m) [
      | inl n ↦ let less = before v n in omega (arith, less, variables)
      | inr e ↦ subst (λ (x : ℕ). x < old.variables) e variables
    ])

    there : (c : List ℕ) → Contains (given_in new.live) c → IsBaseClause p (AllFacts p) c ⊎ IsCauseClause opening.selector causes c
    there c m = elim ((l.given c).0 m) [ inl o ↦ inl ((base c).0 o) | inr o ↦ inr ((cause_clauses_listed opening.selector causes c).0 o) ]

    back : (c : List ℕ) → IsBaseClause p (AllFacts p) c ⊎ IsCauseClause opening.selector causes c → Contains (given_in new.live) c
    back c (inl b) = (l.given c).1 (inl ((base c).1 b))
    back c (inr k) = (l.given c).1 (inr ((cause_clauses_listed opening.selector causes c).1 k))

-- nothing is shown of each cause
pub cut_nothing : (causes : List (List ℕ)) (e : Evidence) → ShowsNothing causes e → length e.cut.items ≡ length causes
cut_nothing causes e s = ap (λ (bs : List Bool). length bs) s.none_cut ∙ length-map causes (λ _. false)

-- an answer stays open where only its evidence changes, with a mark for each cause still
pub IsOpen-seen : (p : Priority) (g : ConflictGraph) (state : State) (old new : Opening) (causes : List (List ℕ)) → IsOpen g p state old causes
    → IsSameOpening old new → length new.evidence.cut.items ≡ length old.evidence.cut.items → IsOpen g p state new causes
IsOpen-seen p g state old new causes h same cut = record {
  over = h.over;
  behind = subst (λ (s : ℕ). g.facts ≤ s) (sym same.selector) h.behind;
  few = subst (λ (s : ℕ). s < 2 ^ 31) (sym same.selector) h.few;
  variables = subst (λ (s : ℕ). s < state.variables) (sym same.selector) h.variables;
  causes_are = h.causes_are;
  scope = subst (λ (s : ℕ). IsScopeWith g causes s new.scope.items) (sym same.selector)
      (subst (λ (vs : List ℕ). IsScopeWith g causes old.selector vs) (sym items) h.scope);
  ascending = subst IsAscending (sym items) h.ascending;
  in_range = subst (λ (vs : List ℕ). All (λ v. v < state.variables) vs) (sym items) h.in_range;
  given = λ c. subst (λ (s : ℕ). Contains (given_in state.live) c ↔ (IsBaseClause p (AllFacts p) c ⊎ IsCauseClause s causes c)) (sym same.selector) (h.given c);
  separates = subst (λ (vs : List ℕ). Separates (is_in vs) (LiveIn state)) (sym items) h.separates;
  cut = cut ∙ h.cut;
}
  where
    items : new.scope.items ≡ old.scope.items
    items = ap (λ v. v.items) same.scope
