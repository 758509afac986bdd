-- The facts that are present by a model of a scope, and the cores within them.
use Rattle.std.proofs.Common.{◌≡◌, ◌<◌, ◌≤◌, ◌↔◌, ◌-◌, ◌++◌, All, inl, inr, ℕ, true, false, List, [], ◌∷◌, length, take, map}
use Rattle.std.proofs.Common.{refl, sym, subst, ap, ◌∙◌, arith, Contains, Bor}
use Rattle.std.specs.List.{filter}
use Rattle.std.specs.Prelude.{Some}
use Rattle.std.proofs.lemmas.Bool.{cases_Bool, true≢false}
use Rattle.std.proofs.lemmas.List.{append-nil}
use Rattle.std.proofs.lemmas.List.Elements.{All-contains, All-cons, All-nil}
use Rattle.std.proofs.lemmas.List.Kept.{AllPairs-filter}
use Rattle.clause_meaning.specs.Assignments.{Satisfies, SatisfiesAll, IsInside}
use Rattle.clause_meaning.specs.Learning.{is_in}
use Rattle.clause_meaning.specs.Literals.{variable_of}
use Rattle.clause_meaning.specs.Refutation.{IsWithin}
use Rattle.clause_meaning.proofs.Members.{Contains-map}
use Rattle.cq_meaning.proofs.Members.{Contains-one}
use Rattle.cq_terms.specs.Conflicts.{ConflictGraph}
use Rattle.cq_terms.specs.Lists.{IsAscending}
use Rattle.cq_meaning.specs.Conflicts.{In}
use Rattle.cq_meaning.proofs.Ascending.{All-of}
use Rattle.cdcl_core.specs.State.{State, LiveIn, value_in}
use Rattle.cdcl_core.specs.Solving.{IsModelOf}
use Rattle.explainer.specs.Missing.{AreMissing, SomeIsPresent}
use Rattle.explainer.specs.Wanted.{IsCoreFor, SatisfiesComponents}
use Rattle.explainer.proofs.CoreLemmas.{scope_covers}
use Rattle.priority_graph.specs.Priority.{Priority, IsPriority}
use Rattle.priority_graph.specs.Split.{has}
use Rattle.priority_graph.proofs.SplitLemmas.{has_true, has_not}
use Rattle.repair_clauses.specs.BaseClauses.{present, absent, AllFacts, IsBaseClause}
use Rattle.repair_clauses.specs.CauseClauses.{cause_clause}
use Rattle.repair_clauses.proofs.LawLemmas.{base_wider, base_within, cause_is_excluded}
use Rattle.repair_clauses.proofs.LiteralLemmas.{true_present, true_absent}
use Rattle.report_laws.proofs.ListLemmas.{Contains-filter, filter-Contains}
use Rattle.answer_evidence.specs.declared.opening.Opening.{Opening}
use Rattle.answer_evidence.specs.declared.aim.Aim.{Aim}
use Rattle.answer_evidence.specs.declared.aim.Aim.TheVariants as aim
use Rattle.answer_evidence.specs.Aims.{IsCoreOver, IsOver, assumed_for}
use Rattle.answer_desk.specs.Models.{HasModel}
use Rattle.answer_desk.specs.Desks.{given_in}
use Rattle.answer_desk.specs.Openings.{IsOpen}
use Rattle.answer_evidence.specs.Sets.{EachMeets}
use Rattle.answer_desk.proofs.OpenLemmas.{given_live, facts_taken, in_facts, reached_closed, reached_closed_graph, reached_known}
use Rattle.answer_desk.proofs.OpenLemmas.{cause_inside, cause_clause_inside}

-- what holds of the facts that are present by a model of the scope
pub record ArePresent (p : Priority) (g : ConflictGraph) (causes : List (List ℕ)) (selector : ℕ) (facts literals shown : List ℕ) : Type 0 where
  pub ascending : IsAscending shown
  pub known : All (λ i. i < p.facts) shown
  pub exact : (i : ℕ) → Contains shown i ↔ (Contains facts i × (value_in literals i ≡ true))
  pub satisfied : (wanted : List ℕ) → All (Contains facts) wanted → SatisfiesComponents p g shown wanted
  pub excluded : value_in literals selector ≡ true → ¬ SomeIsPresent causes shown
  pub causes_inside : (cause : List ℕ) → Contains causes cause → (i : ℕ) → Contains cause i → Contains facts i

module _ (p : Priority) (g : ConflictGraph) (state : State) (opening : Opening) (causes : List (List ℕ)) (order : IsPriority p)
    (h : IsOpen g p state opening causes) (assume literals : List ℕ) (model : IsModelOf (LiveIn state) opening.scope.items assume literals) where
  -- a clause that was given and is inside is satisfied
  given_satisfied : (c : List ℕ) → Contains (given_in state.live) c → IsInside (is_in (h.scope.0 ++ opening.selector ∷ [])) c
      → Satisfies (value_in literals) c
  given_satisfied c m inside =
      model.satisfied c (given_live state c m, subst (λ (vs : List ℕ). IsInside (is_in vs) c) (sym h.scope.2) inside)

  base_satisfied : SatisfiesAll (value_in literals) (IsBaseClause p (Contains h.scope.0))
  base_satisfied c base =
      given_satisfied c ((h.given c).1
      (inl (base_wider p (Contains h.scope.0) (AllFacts p) c (reached_known p g causes h.scope.0 h.over h.scope.1 order h.causes_are) base)))
      (λ l m. in_facts h.scope.0 opening.selector (variable_of l) (has_true h.scope.0 (variable_of l)
      (base_within p (Contains h.scope.0) (reached_closed p g causes h.scope.0 h.over h.scope.1) c base l m)))

  cause_satisfied : (cause : List ℕ) → Contains causes cause → Satisfies (value_in literals) (cause_clause opening.selector cause)
  cause_satisfied cause m =
      given_satisfied (cause_clause opening.selector cause) ((h.given (cause_clause opening.selector cause)).1 (inr (cause, m, refl)))
      (cause_clause_inside p g opening.selector causes h.scope.0 h.over order h.causes_are h.scope.1 under cause m)
    where
      under : p.facts ≤ opening.selector
      under = let same = h.over.facts in let behind = h.behind in omega (arith, same, behind)

  pub are_present : (shown : List ℕ) → shown ≡ filter (value_in literals) (take (length opening.scope.items - 1) opening.scope.items)
      → ArePresent p g causes opening.selector h.scope.0 literals shown
  are_present shown is = record {
    ascending = subst IsAscending (sym filtered) (AllPairs-filter (λ i j. i < j) (value_in literals) h.scope.0 h.scope.1.ascending);
    known = All-of (λ i. i < p.facts) shown (λ i m. reached_known p g causes h.scope.0 h.over h.scope.1 order h.causes_are i ((exact i).0 m).0);
    exact = exact;
    satisfied = λ wanted within. scope_covers p g order h.over h.scope.0 (reached_closed_graph p g causes h.scope.0 h.over h.scope.1) (value_in literals)
        base_satisfied shown same wanted within;
    excluded = λ t w. (cause_is_excluded (value_in literals) opening.selector w.0).0 (cause_satisfied w.0 w.1) t
        (All-of (In (value_in literals)) w.0 (λ i m. ((exact i).0 (All-contains (Contains shown) w.0 i w.2 m)).1));
    causes_inside = cause_inside p g causes h.scope.0 h.over h.scope.1;
  }
    where
      filtered : shown ≡ filter (value_in literals) h.scope.0
      filtered = is ∙ ap (filter (value_in literals)) (facts_taken h.scope.0 opening.selector opening.scope.items h.scope.2)

      exact : (i : ℕ) → Contains shown i ↔ (Contains h.scope.0 i × (value_in literals i ≡ true))
      exact i = (
        (λ m. Contains-filter (value_in literals) h.scope.0 i (subst (λ (xs : List ℕ). Contains xs i) filtered m)),
        (λ w. subst (λ (xs : List ℕ). Contains xs i) (sym filtered) (filter-Contains (value_in literals) h.scope.0 i w.0 w.1)),
      )

      same : (i : ℕ) → Contains h.scope.0 i → has shown i ≡ value_in literals i
      same i m = elim (cases_Bool (value_in literals i)) [
        | inl t ↦ has_true shown i ((exact i).1 (m, t)) ∙ sym t
        | inr f ↦ has_not shown i (λ n. true≢false (sym ((exact i).0 n).1 ∙ f)) ∙ sym f
      ]

-- ---- what the assumptions make present and absent

module _ (S : List ℕ → Type 0) (scope assume literals : List ℕ) (model : IsModelOf S scope assume literals) where
  pub assumed_present : (f : ℕ) → Contains assume (present f) → value_in literals f ≡ true
  assumed_present f m = true_present (value_in literals) f (present f) refl (model.assumed (present f) m)

  pub assumed_absent : (f : ℕ) → Contains assume (absent f) → value_in literals f ≡ false
  assumed_absent f m = true_absent (value_in literals) f (absent f) refl (model.assumed (absent f) m)

-- ---- cores

-- a core within present facts of the table is one over the priority
pub core_over : (p : Priority) (shown start drop kept dropped : List ℕ) → All (λ i. i < p.facts) shown → IsAscending kept → IsAscending dropped
    → IsCoreFor p shown start drop kept dropped → IsCoreOver p kept dropped × IsWithin start kept × IsWithin drop dropped
core_over p shown start drop kept dropped known up down c = (
  record {
    kept_ascending = up;
    kept_known = All-of (λ i. i < p.facts) kept (λ i m. All-contains (λ j. j < p.facts) shown i known (All-contains (Contains shown) kept i c.inside m));
    dropped_ascending = down;
    core = c.core;
  },
  (λ i m. All-contains (Contains kept) start i c.starts m),
  (λ j m. (c.drops j).1 (inl m)),
)

-- what is missing of each cause meets each
pub missing_meets : (causes : List (List ℕ)) (shown drop dropped : List ℕ) → AreMissing causes shown drop → IsWithin drop dropped
    → EachMeets causes dropped
missing_meets causes shown drop dropped m within cause n = let w = m.exact.each cause n in (w.0, w.2.inside, within w.0 w.1)

pub missing_known : (causes : List (List ℕ)) (bound : ℕ) (shown drop : List ℕ) → All (λ cause. All (λ i. i < bound) cause) causes
    → AreMissing causes shown drop → All (λ i. i < bound) drop
missing_known causes bound shown drop known m = All-of (λ i. i < bound) drop
    (λ i n. let w = m.exact.only i n in All-contains (λ j. j < bound) w.0 i
    (All-contains (λ cause. All (λ j. j < bound) cause) causes w.0 known w.1) w.2.inside)

pub missing_outside : (causes : List (List ℕ)) (shown drop : List ℕ) → AreMissing causes shown drop → All (λ i. ¬ Contains shown i) drop
missing_outside causes shown drop m = All-of (λ i. ¬ Contains shown i) drop (λ i n. let w = m.exact.only i n in w.2.outside)

pub missing_inside : (causes : List (List ℕ)) (facts shown drop : List ℕ)
    → ((cause : List ℕ) → Contains causes cause → (i : ℕ) → Contains cause i → Contains facts i) → AreMissing causes shown drop
    → All (Contains facts) drop
missing_inside causes facts shown drop inside m = All-of (Contains facts) drop (λ i n. let w = m.exact.only i n in inside w.0 w.1 i w.2.inside)

-- ---- what a core within the present facts is asked for, by what the try looks for

module _ (p : Priority) (g : ConflictGraph) (causes : List (List ℕ)) (selector : ℕ) (facts literals shown : List ℕ)
    (a : ArePresent p g causes selector facts literals shown) where
  -- with a cause whose facts are present
  pub cause_start_present : (cause : List ℕ) → Contains causes cause → ((i : ℕ) → Contains cause i → value_in literals i ≡ true)
      → All (Contains shown) cause
  cause_start_present cause m true_in = All-of (Contains shown) cause (λ i n. (a.exact i).1 (a.causes_inside cause m i n, true_in i n))

  pub cause_start_satisfied : (cause : List ℕ) → Contains causes cause → SatisfiesComponents p g shown (cause ++ [])
  cause_start_satisfied cause m = subst (SatisfiesComponents p g shown) (sym (append-nil cause))
      (a.satisfied cause (All-of (Contains facts) cause (a.causes_inside cause m)))

  -- without a fact that is absent
  pub fact_absent : (fact : ℕ) → value_in literals fact ≡ false → All (λ i. ¬ Contains shown i) (fact ∷ [])
  fact_absent fact is = All-cons (λ i. ¬ Contains shown i) fact [] (λ m. true≢false (sym ((a.exact fact).0 m).1 ∙ is))
      (All-nil (λ i. ¬ Contains shown i))

  pub fact_satisfied : (fact : ℕ) → (cause : List ℕ) × Contains causes cause × Contains cause fact → SatisfiesComponents p g shown (fact ∷ [])
  fact_satisfied fact w = a.satisfied (fact ∷ []) (All-cons (Contains facts) fact [] (a.causes_inside w.0 w.1 fact w.2) (All-nil (Contains facts)))

  -- without a fact of each cause
  pub causes_satisfied : (drop : List ℕ) → AreMissing causes shown drop → SatisfiesComponents p g shown drop
  causes_satisfied drop m = a.satisfied drop (missing_inside causes facts shown drop a.causes_inside m)

-- ---- the same over an open answer, a model of its scope under what the try assumes, and what is present by it

module _ (p : Priority) (g : ConflictGraph) (state : State) (opening : Opening) (causes : List (List ℕ)) (order : IsPriority p)
    (h : IsOpen g p state opening causes) (a : Aim) (over : IsOver causes a)
    (model : HasModel state opening.scope.items (assumed_for a opening.selector)) (items shown : List ℕ) (same : shown ≡ items)
    (is : (values : List ℕ) → state.values ≡ Some values
    → items ≡ filter (value_in values) (take (length opening.scope.items - 1) opening.scope.items)) where
  pub shown_present : ArePresent p g causes opening.selector h.scope.0 model.0 shown
  shown_present = are_present p g state opening causes order h (assumed_for a opening.selector) model.0 model.2 shown (same ∙ is model.0 model.1)

  over_aim : (b : Aim) → a ≡ b → IsOver causes b
  over_aim b e = subst (IsOver causes) e over

  model_for : (b : Aim) → a ≡ b → IsModelOf (LiveIn state) opening.scope.items (assumed_for b opening.selector) model.0
  model_for b e = subst (λ (x : Aim). IsModelOf (LiveIn state) opening.scope.items (assumed_for x opening.selector) model.0) e model.2

  pub cause_present : (cause : Bor (List ℕ)) → a ≡ aim.WithCause cause → All (Contains shown) cause.now
  cause_present cause e =
      cause_start_present p g causes opening.selector h.scope.0 model.0 shown shown_present cause.now (over_aim (aim.WithCause cause) e)
      (λ i m. assumed_present (LiveIn state) opening.scope.items (map present cause.now) model.0 (model_for (aim.WithCause cause) e) i
      (Contains-map present cause.now i m))

  pub cause_satisfies : (cause : Bor (List ℕ)) → a ≡ aim.WithCause cause → SatisfiesComponents p g shown (cause.now ++ [])
  cause_satisfies cause e =
      cause_start_satisfied p g causes opening.selector h.scope.0 model.0 shown shown_present cause.now (over_aim (aim.WithCause cause) e)

  pub fact_outside : (fact : ℕ) → a ≡ aim.WithoutFact fact → All (λ i. ¬ Contains shown i) (fact ∷ [])
  fact_outside fact e =
      fact_absent p g causes opening.selector h.scope.0 model.0 shown shown_present fact
      (assumed_absent (LiveIn state) opening.scope.items (absent fact ∷ []) model.0 (model_for (aim.WithoutFact fact) e) fact
      (Contains-one (absent fact) (absent fact) refl))

  pub fact_satisfies : (fact : ℕ) → a ≡ aim.WithoutFact fact → SatisfiesComponents p g shown (fact ∷ [])
  fact_satisfies fact e =
      fact_satisfied p g causes opening.selector h.scope.0 model.0 shown shown_present fact (over_aim (aim.WithoutFact fact) e)

  pub causes_not_whole : (all : Bor (List (List ℕ))) → a ≡ aim.WithoutCauses all → ¬ SomeIsPresent all.now shown
  causes_not_whole all e w =
      shown_present.excluded
      (assumed_present (LiveIn state) opening.scope.items (present opening.selector ∷ []) model.0 (model_for (aim.WithoutCauses all) e)
      opening.selector (Contains-one (present opening.selector) (present opening.selector) refl))
      (subst (λ (cs : List (List ℕ)). SomeIsPresent cs shown) (over_aim (aim.WithoutCauses all) e) w)

  pub causes_satisfy : (all : Bor (List (List ℕ))) → a ≡ aim.WithoutCauses all → (drop : List ℕ) → AreMissing all.now shown drop
      → SatisfiesComponents p g shown drop
  causes_satisfy all e drop m =
      causes_satisfied p g causes opening.selector h.scope.0 model.0 shown shown_present drop
      (subst (λ (cs : List (List ℕ)). AreMissing cs shown drop) (over_aim (aim.WithoutCauses all) e) m)
