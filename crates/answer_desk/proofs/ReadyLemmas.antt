-- A desk between two answers: how it begins, and what its clauses are for the next answer.
use Rattle.std.proofs.Common.{◌≡◌, ◌<◌, ◌≤◌, ◌+◌, ◌⊎◌, ◌↔◌, All, inl, inr, ℕ, Bool, true, false, List, [], ◌∷◌, length, map, refl, sym, subst, ap, ◌∙◌}
use Rattle.std.proofs.Common.{arith, Contains, ◌^◌}
use Rattle.std.proofs.lemmas.List.Elements.{All-contains}
use Rattle.clause_meaning.specs.Assignments.{IsInside, IsOutside}
use Rattle.clause_meaning.specs.Learning.{is_in}
use Rattle.clause_meaning.specs.Literals.{variable_of}
use Rattle.cq_meaning.proofs.Ascending.{All-of}
use Rattle.cq_meaning.proofs.Members.{Contains-nil}
use Rattle.cq_terms.specs.Conflicts.{ConflictGraph, AreInConflict}
use Rattle.cq_terms.specs.Knowledge.{Knowledge}
use Rattle.cdcl_core.specs.State.{State, LiveIn, empty_solver}
use Rattle.priority_graph.specs.Inputs.{IsPriorityOf}
use Rattle.priority_graph.specs.Priority.{Priority, IsPriority, IsOver, Conflict}
use Rattle.priority_graph.proofs.DirectLemmas.{conflict_of, conflict_below}
use Rattle.repair_clauses.specs.BaseClauses.{AllFacts, IsBaseClause}
use Rattle.repair_clauses.specs.Components.{IsClosedUnder}
use Rattle.repair_clauses.proofs.LawLemmas.{base_wider, base_within, closed_sets_separate}
use Rattle.priority_graph.proofs.SplitLemmas.{has_true, has_there}
use Rattle.report_laws.specs.OpenAnswers.{IsAmong}
use Rattle.report_laws.specs.Scopes.{IsApart, goes_beyond}
use Rattle.report_laws.proofs.BaseClauseLemmas.{means}
use Rattle.report_laws.proofs.LiveLemmas.{on_facts}
use Rattle.report_laws.proofs.OverPriorityLemmas.{some_base}
use Rattle.report_laws.proofs.ScopeLemmas.{not_false}
use Rattle.report_rules.specs.Live.{Learned}
use Rattle.answer_desk.specs.declared.plan.Plan.{Plan}
use Rattle.answer_desk.specs.Desks.{DeskState, IsReady, MayOpen, given_in, learned_in}
use Rattle.answer_desk.specs.Loading.{Loads}
use Rattle.answer_evidence.specs.Ranges.{IsRange}
use Rattle.answer_desk.specs.Openings.{KeepsApart}
use Rattle.answer_desk.proofs.OpenLemmas.{live_parts}

-- ---- how it begins

-- all facts of the table
pub all_known : (facts bound : ℕ) (all : List ℕ) → IsRange 0 facts all → facts ≤ bound → All (λ f. f < bound) all
all_known facts bound all range l = All-of (λ f. f < bound) all (λ f m. let less = ((range.exact f).0 m).1 in omega (arith, less))

pub all_closed : (p : Priority) (g : ConflictGraph) (all : List ℕ) → IsPriority p → IsOver p g → IsRange 0 g.facts all
    → IsClosedUnder (AreInConflict g.clashes) (Contains all)
all_closed p g all order over range i j m c =
    (range.exact j).1 (omega arith, subst (λ (n : ℕ). j < n) over.facts (conflict_below p order i j (conflict_of p g i j over c)))

-- their base clauses are all base clauses
all_base : (p : Priority) (g : ConflictGraph) (all : List ℕ) → IsOver p g → IsRange 0 g.facts all → (c : List ℕ)
    → IsBaseClause p (Contains all) c ↔ IsBaseClause p (AllFacts p) c
all_base p g all over range c = (
  base_wider p (Contains all) (AllFacts p) c (λ i m. subst (λ (n : ℕ). i < n) (sym over.facts) ((range.exact i).0 m).1),
  base_wider p (AllFacts p) (Contains all) c (λ i l. (range.exact i).1 (omega arith, subst (λ (n : ℕ). i < n) over.facts l)),
)

-- a desk before its first answer
abbrev begun : ConflictGraph → Priority → Plan → ℕ → List Learned → ℕ → DeskState
begun g p plan selectors entries clauses = record {
  conflicts = g;
  better = p;
  plan = plan;
  selectors = selectors;
  learned = entries;
  answers = 0;
  clauses = clauses;
  cores = 0;
  failed = false;
}

-- with the base clauses and no learned one a desk is ready
pub begun_ready : (g : ConflictGraph) (p : Priority) (plan : Plan) (facts selectors : ℕ) (all : List ℕ) (clauses : List (List ℕ)) (new : State)
    → MayOpen g p plan facts selectors → IsRange 0 facts all
    → ((c : List ℕ) → Contains clauses c ↔ IsBaseClause p (Contains all) c) → Loads clauses (empty_solver (facts + selectors)) new
    → IsReady (begun g p plan selectors (learned_in new.live) new.next) new
begun_ready g p plan facts selectors all clauses new may range exact l = record {
  over = may.over;
  few = subst (λ (n : ℕ). n + selectors < 2 ^ 31) may.facts_are may.few;
  fits = may.fits;
  budget = may.budget;
  variables = l.variables ∙ ap (λ (n : ℕ). n + selectors) may.facts_are;
  base = λ c. (there c, back c);
  count = subst (λ (es : List Learned). length es ≤ new.next) (sym l.learned) (omega arith);
  answers = omega arith;
  clauses = subst (λ (n : ℕ). n ≤ 0) (sym l.next) (omega arith);
  cores = omega arith;
  hold = λ kb of R v chosen agrees c w. absurd (none c w);
  apart = λ kb of c w. absurd (none c w);
}
  where
    here : IsRange 0 g.facts all
    here = subst (λ (n : ℕ). IsRange 0 n all) may.facts_are range

    there : (c : List ℕ) → Contains (given_in new.live) c → IsBaseClause p (AllFacts p) c
    there c m = elim ((l.given c).0 m) [ inl n ↦ absurd (Contains-nil c n) | inr n ↦ (all_base p g all may.over here c).0 ((exact c).0 n) ]

    back : (c : List ℕ) → IsBaseClause p (AllFacts p) c → Contains (given_in new.live) c
    back c b = (l.given c).1 (inr ((exact c).1 ((all_base p g all may.over here c).1 b)))

    none : (c : List ℕ) → IsAmong (learned_in new.live) c → ⊥
    none c (n, m) = Contains-nil (make n c) (subst (λ (es : List Learned). Contains es (make n c)) l.learned m)
      where
        make : ℕ → List ℕ → Learned
        make n c = record { number = n; clause = c }

-- ---- what its clauses are for the next answer

-- no clause goes beyond the facts, and each is apart
pub ready_apart : (desk : DeskState) (state : State) → IsPriority desk.better → desk.learned ≡ learned_in state.live → IsReady desk state
    → KeepsApart desk.better state
ready_apart desk state order same h c m = elim (live_parts state c m) [ inl n ↦ of_base ((h.base c).0 n) | inr w ↦ of_learned w ]
  where
    of_base : IsBaseClause desk.better (AllFacts desk.better) c → All (λ l. variable_of l < desk.better.facts) c
        × ((facts : List ℕ) → IsClosedUnder (Conflict desk.better) (Contains facts) → IsInside (is_in facts) c ⊎ IsOutside (is_in facts) c)
    of_base b = (
      All-of (λ l. variable_of l < desk.better.facts) c
          (λ l k. base_within desk.better (AllFacts desk.better) (λ i j _ w. conflict_below desk.better order i j w) c b l k),
      λ facts closed. closed_sets_separate desk.better (is_in facts)
          (λ i j t w. has_true facts j (closed i j (has_there facts i t) w)) c b,
    )

    base : (kb : Knowledge) × IsPriorityOf kb desk.plan.repairs desk.better
    base = some_base desk.better order desk.plan.repairs h.fits

    keeps : IsAmong (learned_in state.live) c → (goes_beyond (length base.0.facts) c ≡ false) × IsApart base.0 c
    keeps w = h.apart base.0 base.1 c (subst (λ (es : List Learned). IsAmong es c) (sym same) w)

    of_learned : (n : ℕ) × Contains (learned_in state.live) (record { number = n; clause = c }) → All (λ l. variable_of l < desk.better.facts) c
        × ((facts : List ℕ) → IsClosedUnder (Conflict desk.better) (Contains facts) → IsInside (is_in facts) c ⊎ IsOutside (is_in facts) c)
    of_learned w = (
      All-of (λ l. variable_of l < desk.better.facts) c
          (λ l k. subst (λ (n : ℕ). variable_of l < n) (sym base.1.facts)
          (on_facts (length base.0.facts) c (not_false (goes_beyond (length base.0.facts) c) (keeps w).0) l k)),
      λ facts closed. (keeps w).1 facts (λ i j k t. closed i j k (((means base.0 desk.plan.repairs desk.better base.1).conflict i j).1 t)),
    )
