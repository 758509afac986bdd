-- The clauses of a scope say all, so the rules of a try may be read over them.
use Rattle.std.proofs.Common.{◌≡◌, ℕ, List, length, Contains, Bool, true, false, sym, ap, ◌∙◌}
use Rattle.cq_meaning.specs.Repairs.{IsAcyclic}
use Rattle.cq_meaning.proofs.Chosen.{chosen_exists}
use Rattle.cq_meaning.proofs.Decided.{conflicts_told}
use Rattle.clause_meaning.specs.Literals.{opposite_of, variable_of}
use Rattle.clause_meaning.specs.Assignments.{IsInside, Inside, Separates, Satisfies}
use Rattle.clause_meaning.specs.Refutation.{Refutes, OppositesOf}
use Rattle.clause_meaning.proofs.Chains.{Refutes-more}
use Rattle.clause_meaning.proofs.LiteralLaws.{variable_of-opposite_of}
use Rattle.clause_meaning.proofs.Truth.{refuted_inside}
use Rattle.priority_graph.specs.Split.{has}
use Rattle.report_text.specs.declared.line.Line.{Line}
use Rattle.report_rules.specs.Inputs.{Input}
use Rattle.report_rules.specs.Told.{mode_of}
use Rattle.report_rules.specs.Tries.{asked, assumed}
use Rattle.report_rules.specs.Live.{Live}
use Rattle.report_laws.specs.OpenAnswers.{start_of, IsRightAnswer, LearnedHold}
use Rattle.report_laws.specs.Scopes.{SayTheSame, ScopeDecides}
use Rattle.report_laws.specs.ScopeLaws.{RulesInScope}
use Rattle.report_laws.proofs.LiveLemmas.{reading, reading_fact, reading_selector, satisfies_live, passing_starts}

-- ---- the clauses of a scope say all

decides : (scope : List ℕ) (S : List ℕ → Type 0) → Separates (has scope) S → (v : ℕ → Bool) → ((c : List ℕ) → S c → Satisfies v c) → ScopeDecides scope S
decides scope S separated v satisfied = record {
  refutes = λ L inside. (alone (Contains L) inside, fewer (Contains L));
  follows = λ clause inside. (
    alone (OppositesOf clause) (λ l m. sym (ap (has scope) (variable_of-opposite_of l)) ∙ inside (opposite_of l) m),
    fewer (OppositesOf clause),
  );
  contains = λ clause inside. (
    (λ (c, s, within). (c, (s, λ l m. inside l (within l m)), within)),
    (λ (c, s, within). (c, s.0, within)),
  );
}
  where
    alone : (L : ℕ → Type 0) → ((l : ℕ) → L l → has scope (variable_of l) ≡ true) → Refutes S L → Refutes (Inside (has scope) S) L
    alone L inside r = refuted_inside (has scope) S L v separated inside (λ c s outside. satisfied c s) r

    fewer : (L : ℕ → Type 0) → Refutes (Inside (has scope) S) L → Refutes S L
    fewer L r = Refutes-more (Inside (has scope) S) S L L (λ c s. s.0) (λ l m. m) r

-- clauses between those of the scope and all say the same
pub between_decides : (scope : List ℕ) (S T : List ℕ → Type 0) → ScopeDecides scope S → ((c : List ℕ) → T c → S c)
    → ((c : List ℕ) → S c → IsInside (has scope) c → T c) → SayTheSame scope S T × ScopeDecides scope T
between_decides scope S T d within has_all = (
  record {
    refutes = λ L inside. ((λ r. widen (Contains L) ((d.refutes L inside).0 r)), narrow (Contains L));
    follows = λ clause inside. ((λ r. widen (OppositesOf clause) ((d.follows clause inside).0 r)), narrow (OppositesOf clause));
    contains = λ clause inside. ((λ (c, s, k). (c, has_all c s (λ l m. inside l (k l m)), k)), (λ (c, t, k). (c, within c t, k)));
  },
  record {
    refutes = λ L inside. ((λ r. kept (Contains L) ((d.refutes L inside).0 (narrow (Contains L) r))), fewer (Contains L));
    follows = λ clause inside. ((λ r. kept (OppositesOf clause) ((d.follows clause inside).0 (narrow (OppositesOf clause) r))), fewer (OppositesOf clause));
    contains = λ clause inside. ((λ (c, t, k). (c, (t, λ l m. inside l (k l m)), k)), (λ (c, t, k). (c, t.0, k)));
  },
)
  where
    widen : (L : ℕ → Type 0) → Refutes (Inside (has scope) S) L → Refutes T L
    widen L r = Refutes-more (Inside (has scope) S) T L L (λ c s. has_all c s.0 s.1) (λ l m. m) r

    narrow : (L : ℕ → Type 0) → Refutes T L → Refutes S L
    narrow L r = Refutes-more T S L L within (λ l m. m) r

    kept : (L : ℕ → Type 0) → Refutes (Inside (has scope) S) L → Refutes (Inside (has scope) T) L
    kept L r = Refutes-more (Inside (has scope) S) (Inside (has scope) T) L L (λ c s. (has_all c s.0 s.1, s.1)) (λ l m. m) r

    fewer : (L : ℕ → Type 0) → Refutes (Inside (has scope) T) L → Refutes T L
    fewer L r = Refutes-more (Inside (has scope) T) T L L (λ c s. s.0) (λ l m. m) r

pub scope_decides : (input : Input) (before : List Line) (scope : List ℕ) → IsRightAnswer input before → LearnedHold input (start_of before)
    → IsAcyclic input.kb (mode_of before)
    → Separates (has scope) (Live input.kb before) → ScopeDecides scope (Live input.kb before)
scope_decides input before scope r h acyclic separated =
    let t = conflicts_told input.kb in
    let some = chosen_exists input.kb (mode_of before) t.0 t.1 t.2 acyclic in
    let n : ℕ = length input.kb.facts in
    let v : ℕ → Bool = reading n some.0 false in
    decides scope (Live input.kb before) separated v
    (satisfies_live input before r v (passing_starts input before r h some.0 v some.1 (reading_fact n some.0 false)
    (reading_selector n some.0 false (asked before).candidate)))

pub rules_in_scope : (input : Input) (before : List Line) (scope : List ℕ) → ScopeDecides scope (Live input.kb before) → IsInside (has scope) (assumed before)
    → RulesInScope input before scope
rules_in_scope input before scope d inside = record {
  learn = λ number clause w. record {
    counts = w.counts;
    in_budget = w.in_budget;
    not_empty = w.not_empty;
    ascending = w.ascending;
    distinct = w.distinct;
    literals = w.literals;
    follows = (d.follows clause w.inside).1 w.follows;
    new = λ c. w.new ((d.contains clause w.inside).0 c);
    needed = λ k. w.needed ((d.refutes (assumed before) inside).0 k);
  };
  refuted = λ k. (d.refutes (assumed before) inside).1 k;
  spent = λ w. record { not_refuted = λ k. w.not_refuted ((d.refutes (assumed before) inside).0 k); budget = w.budget; not_easy = w.not_easy };
}
