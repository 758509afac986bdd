-- What is newly found out keeps the state fitting.
use Rattle.std.proofs.Common.{◌≡◌, ℕ, ◌+◌, ◌≤◌, ◌^◌, List, [], ◌∷◌, length, map, Bool, true, false, true≢false, cond, Option, Some, None}
use Rattle.std.proofs.Common.{refl, sym, ap, subst, ◌∙◌, arith}
use Rattle.std.specs.Option.{IsSomeAnd}
use Rattle.cq_terms.specs.Conflicts.{ConflictGraph, AreClashes}
use Rattle.cq_terms.specs.Knowledge.{Knowledge}
use Rattle.cq_terms.specs.Query.{Query}
use Rattle.cq_meaning.specs.ConflictGraphs.{AreConflictsOf}
use Rattle.priority_graph.specs.Inputs.{IsPriorityOf}
use Rattle.priority_graph.specs.Priority.{Priority, IsOver}
use Rattle.report_text.specs.declared.line.Line.{Line}
use Rattle.report_rules.specs.declared.place.Place.{Place}
use Rattle.report_rules.specs.declared.place.Place.TheVariants as place
use Rattle.report_rules.specs.Inputs.{report_on, query_at}
use Rattle.report_rules.specs.Order.{is_answering}
use Rattle.report_rules.specs.Live.{Learned}
use Rattle.report_laws.specs.AtStanding.{Candidate, AreCandidatesOf}
use Rattle.report_laws.specs.LiveLists.{AreClausesBelow, cause_clauses}
use Rattle.report_laws.specs.Standing.{Standing}
use Rattle.report_laws.proofs.LiveListLemmas.{base_by_facts}
use Rattle.plain_finding.specs.Kept.{Kept, Holds}
use Rattle.refutation_confirmer.specs.Following.{FollowsLines}
use Rattle.refutation_confirmer.specs.Kinds.{IsBegun}
use Rattle.refutation_confirmer.specs.State.{State, Fits, IsTrying}
use Rattle.refutation_confirmer.specs.Steps.{HasBlocks, StillFits}
use Rattle.refutation_confirmer.proofs.FittingLemmas.{some_not_none, is_some_so, some_has, none_learned, not_begun_if, graph_at}
use Rattle.refutation_confirmer.proofs.FoundLemmas.{if_some}
use Rattle.refutation_confirmer.proofs.RangeLemmas.{over_same}

abbrev pub with_conflicts : State → ConflictGraph → State
with_conflicts s g = record s { conflicts = Some g }

abbrev pub with_priority : State → Priority → State
with_priority s p = record s { priority = Some p }

abbrev pub with_candidates : State → List Candidate → State
with_candidates s cs = record s { candidates = Some cs }

abbrev pub with_clauses : State → Kept → State
with_clauses s k = record s { clauses = Some k }

-- the conflicts
pub fits_conflicts : (kb : Knowledge) (s : State) (g : ConflictGraph) → AreConflictsOf kb g → AreClashes g.facts g.clashes
    → StillFits kb s (with_conflicts s g)
fits_conflicts kb s g of are names q before f = record {
  right = f.right;
  standing = f.standing;
  acyclic = f.acyclic;
  found = record {
    plain = f.found.plain;
    conflicts = (of, are);
    priority = f.found.priority;
    over = if_some (IsPriorityOf kb s.standing.repairs) (λ (p : Priority). IsOver p g) s.priority (λ p h. over_same kb s.standing.repairs p g h of)
        f.found.priority;
    candidates = f.found.candidates;
    clauses = f.found.clauses;
    variables = f.found.variables;
    selectors = f.found.selectors;
    causes = f.found.causes;
    learnable = f.found.learnable;
    has_learnable = f.found.has_learnable;
    known = λ b. let k = f.found.known b in record { conflicts = refl; priority = k.priority; candidates = k.candidates; clauses = k.clauses };
    early = f.found.early;
  };
}

-- the priority, behind the head
pub fits_priority : (kb : Knowledge) (s : State) (p : Priority) → IsPriorityOf kb s.standing.repairs p → (s.standing.place ≡ place.AtStart → ⊥)
    → StillFits kb s (with_priority s p)
fits_priority kb s p of on names q before f = record {
  right = f.right;
  standing = f.standing;
  acyclic = f.acyclic;
  found = record {
    plain = f.found.plain;
    conflicts = f.found.conflicts;
    priority = of;
    over = if_some (λ (g : ConflictGraph). AreConflictsOf kb g × AreClashes g.facts g.clashes) (λ (g : ConflictGraph). IsOver p g) s.conflicts
        (λ g h. over_same kb s.standing.repairs p g of h.0) f.found.conflicts;
    candidates = f.found.candidates;
    clauses = f.found.clauses;
    variables = f.found.variables;
    selectors = f.found.selectors;
    causes = f.found.causes;
    learnable = f.found.learnable;
    has_learnable = f.found.has_learnable;
    known = λ b. let k = f.found.known b in record { conflicts = k.conflicts; priority = refl; candidates = k.candidates; clauses = k.clauses };
    early = λ e. absurd (on e);
  };
}

-- the candidates, where they were not known
pub fits_candidates : (kb : Knowledge) (s : State) (cs : List Candidate) → s.candidates ≡ None
    → ((names : List (List ℕ)) (q : Query) (before : List Line) → Fits (report_on kb names q) before s
    → AreCandidatesOf kb (query_at (q ∷ []) s.standing.ends) cs)
    → StillFits kb s (with_candidates s cs)
fits_candidates kb s cs none are names q before f = record {
  right = f.right;
  standing = f.standing;
  acyclic = f.acyclic;
  found = record {
    plain = f.found.plain;
    conflicts = f.found.conflicts;
    priority = f.found.priority;
    over = f.found.over;
    candidates = are names q before f;
    clauses = f.found.clauses;
    variables = f.found.variables;
    selectors = if_some (λ (k : Kept). IsSomeAnd s.candidates (λ xs. length kb.facts + length xs ≤ k.variables))
        (λ (k : Kept). length kb.facts + length cs ≤ k.variables) s.clauses
        (λ k h. absurd (subst (λ (o : Option (List Candidate)). IsSomeAnd o (λ xs. length kb.facts + length xs ≤ k.variables)) none h)) f.found.selectors;
    causes = f.found.causes;
    learnable = f.found.learnable;
    has_learnable = f.found.has_learnable;
    known = λ b. let k = f.found.known b in record { conflicts = k.conflicts; priority = k.priority; candidates = refl; clauses = k.clauses };
    early = f.found.early;
  };
}

-- a place in a try is in an answer
trying_answers : (p : Place) → IsTrying p → is_answering p ≡ true
trying_answers place.InTry h = refl
trying_answers place.AfterCore h = refl
trying_answers _ h = absurd h

no_answer : (p : Place) → is_answering p ≡ false → is_answering p ≡ true → ⊥
no_answer p e f = true≢false (sym f ∙ e)

-- the base clauses, where no answer is open and nothing is learned
base_follows : (kb : Knowledge) (s : Standing) (p : Priority) (n : ℕ) (k : Kept) → IsPriorityOf kb s.repairs p → n ≡ length kb.facts
    → (s.learned ≡ []) × (is_answering s.place ≡ false) → (base : List (List ℕ)) × AreClausesBelow p n base × Holds k base [] [] → FollowsLines kb s k
base_follows kb s p n k of size none (base, below, holds) = record {
  base = base;
  are_base = base_by_facts kb s.repairs p of base (subst (λ (m : ℕ). AreClausesBelow p m base) size below);
  holds = subst (λ (b : Bool). Holds k base (cond b (cause_clauses kb s.asked) []) (map (λ (c : Learned). c.clause) s.learned)) (sym none.1)
      (subst (λ (ls : List Learned). Holds k base [] (map (λ (c : Learned). c.clause) ls)) (sym none.0) holds);
}

variables_at : (facts n m count variables : ℕ) → facts ≡ n → m ≡ facts + count → variables ≡ m → n + count ≤ variables
variables_at facts n m count variables e f g = omega arith

facts_at : (n count variables : ℕ) → n + count ≤ variables → n ≤ variables
facts_at n count variables h = omega arith

few_at : (variables m : ℕ) → variables ≡ m → m ≤ 2 ^ 31 → variables ≤ 2 ^ 31
few_at variables m e h = omega arith

pub count_at : {X : Type 0} (m a b g : ℕ) (xs ys : List X) → m ≡ a + b → a ≡ g → b ≡ length xs → xs ≡ ys → m ≡ g + length ys
count_at {X} m a b g xs ys e f h w = e ∙ (ap (λ (n : ℕ). n + b) f ∙ ap (λ (n : ℕ). g + n) (h ∙ ap (λ (zs : List X). length zs) w))

pub fits_clauses : (kb : Knowledge) (s : State) (g : ConflictGraph) (p : Priority) (cs : List Candidate) (k : Kept) (m : ℕ) → HasBlocks kb s
    → s.clauses ≡ None → s.conflicts ≡ Some g → s.priority ≡ Some p → s.candidates ≡ Some cs → (m ≡ g.facts + length cs) × (m ≤ 2 ^ 31)
    → k.variables ≡ m → (base : List (List ℕ)) × AreClausesBelow p g.facts base × Holds k base [] [] → StillFits kb s (with_clauses s k)
fits_clauses kb s g p cs k m h none conflicts priority candidates size variables holds names q before f = record {
  right = f.right;
  standing = f.standing;
  acyclic = f.acyclic;
  found = record {
    plain = f.found.plain;
    conflicts = f.found.conflicts;
    priority = f.found.priority;
    over = f.found.over;
    candidates = f.found.candidates;
    clauses = base_follows kb s.standing p g.facts k (some_has (IsPriorityOf kb s.standing.repairs) s.priority p priority f.found.priority) facts_are empty
        holds;
    variables = record {
      few = few_at k.variables m variables size.1;
      facts = facts_at (length kb.facts) (length cs) k.variables enough;
      selector = λ a. absurd (no_answer s.standing.place empty.1 a);
      assumed = λ t. absurd (no_answer s.standing.place empty.1 (trying_answers s.standing.place t));
    };
    selectors = subst (λ (o : Option (List Candidate)). IsSomeAnd o (λ xs. length kb.facts + length xs ≤ k.variables)) (sym candidates) enough;
    causes = f.found.causes;
    learnable = f.found.learnable;
    has_learnable = f.found.has_learnable;
    known = λ b. let w = f.found.known b in record { conflicts = w.conflicts; priority = w.priority; candidates = w.candidates; clauses = refl };
    early = λ e. absurd (some_not_none s.priority (is_some_so s.priority p priority) (f.found.early e).0);
  };
}
  where
    not_begun : IsBegun s.standing.place → ⊥
    not_begun = not_begun_if kb (q ∷ []) s f.found (λ w. some_not_none s.clauses w.clauses none)

    empty : (s.standing.learned ≡ []) × (is_answering s.standing.place ≡ false)
    empty = none_learned kb names q before s f h not_begun

    facts_are : g.facts ≡ length kb.facts
    facts_are = (graph_at kb names q before s f g conflicts).facts

    enough : length kb.facts + length cs ≤ k.variables
    enough = variables_at g.facts (length kb.facts) m (length cs) k.variables facts_are size.0 variables
