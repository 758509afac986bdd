-- Scopes: what they separate, and what keeps to them.
use Rattle.std.proofs.Common.{◌≡◌, ◌≢◌, ℕ, zero, suc, ◌<◌, ◌≤◌, ◌⊎◌, ◌↔◌, inl, inr, List, [], ◌∷◌, ◌++◌, length, Contains, Bool, true, false, not, true≢false}
use Rattle.std.proofs.Common.{refl, sym, subst, ap, ◌∙◌, arith}
use Rattle.std.specs.Prelude.{nat_lt}
use Rattle.std.proofs.lemmas.Bool.{cases_Bool, cases_lt, lt-ltb}
use Rattle.std.proofs.lemmas.List.Elements.{All-contains, Contains-push, Contains-push_cases, Contains-append_left}
use Rattle.std.proofs.lemmas.List.Folds.{list_any_none}
use Rattle.cq_terms.specs.declared.facts.Repairs.{Repairs}
use Rattle.cq_terms.specs.Knowledge.{Knowledge}
use Rattle.cq_meaning.specs.Conflicts.{Conflict}
use Rattle.cq_terms.specs.Lists.{IsAscending}
use Rattle.cq_meaning.proofs.Ascending.{All-of}
use Rattle.cq_meaning.proofs.ByLists.{Conflict-within}
use Rattle.cq_meaning.proofs.Extension.{Conflict-sym}
use Rattle.cq_meaning.proofs.Listed.{all_or_some}
use Rattle.clause_meaning.specs.Literals.{variable_of}
use Rattle.clause_meaning.specs.Assignments.{IsInside, IsOutside}
use Rattle.clause_meaning.proofs.Members.{Contains-map_cases}
use Rattle.priority_graph.specs.Priority.{Priority}
use Rattle.priority_graph.specs.Inputs.{IsPriorityOf}
use Rattle.priority_graph.specs.Split.{has}
use Rattle.priority_graph.proofs.SplitLemmas.{has_true, has_there}
use Rattle.repair_clauses.specs.BaseClauses as over_priority
use Rattle.repair_clauses.specs.BaseClauses.{AllFacts, present, absent}
use Rattle.repair_clauses.specs.Components.{IsClosedUnder}
use Rattle.repair_clauses.proofs.LawLemmas.{base_wider, base_within, closed_sets_separate}
use Rattle.repair_clauses.proofs.LiteralLemmas.{variable_of-present, variable_of-absent}
use Rattle.repair_clauses.proofs.ListLemmas.{one_of, ascending_push}
use Rattle.report_text.specs.declared.line.Question.{Question}
use Rattle.report_text.specs.declared.line.Question.TheVariants as question
use Rattle.report_rules.specs.Inputs.{AreFacts, selector_of}
use Rattle.report_rules.specs.ConflictLists.{IsLinkedIn}
use Rattle.report_rules.specs.Clauses.{IsBaseClause, IsCauseClause}
use Rattle.report_rules.specs.Tries.{Asked}
use Rattle.report_rules.specs.TryRules.{MayAssume}
use Rattle.report_laws.specs.Scopes.{scope_of, IsScope, AreComponents, IsApart, goes_beyond, KeepsTo}
use Rattle.report_laws.proofs.BaseClauseLemmas.{means, input_of_table}
use Rattle.report_laws.proofs.LiveLemmas.{no_fact, on_facts}

-- ---- facts, selectors and scopes

pub not_true : (b : Bool) → not b ≡ true → b ≡ false
not_true true e = absurd (true≢false (sym e))
not_true false e = refl

pub not_false : (b : Bool) → b ≡ false → not b ≡ true
not_false true e = absurd (true≢false e)
not_false false e = refl

-- the second of two facts in conflict is one of the table
pub second : (kb : Knowledge) (i j : ℕ) → Conflict kb i j → j < length kb.facts
second kb i j c = Conflict-within kb j i (Conflict-sym kb i j c)

-- a clause over facts alone doesn't go beyond them
pub stays_within : (n : ℕ) (clause : List ℕ) → ((l : ℕ) → Contains clause l → variable_of l < n) → goes_beyond n clause ≡ false
stays_within n clause h = list_any_none (λ l. not (nat_lt (variable_of l) n)) clause
    (All-of (λ l. not (nat_lt (variable_of l) n) ≡ false) clause (λ l m. ap not (lt-ltb (variable_of l) n (h l m))))

-- a literal of a variable that the list has is inside it
pub inside_by : (scope : List ℕ) (x l : ℕ) → Contains scope x → variable_of l ≡ x → has scope (variable_of l) ≡ true
inside_by scope x l m e = ap (has scope) e ∙ has_true scope x m

-- ---- components

pub linked_known : (kb : Knowledge) (n i f : ℕ) → i < length kb.facts → IsLinkedIn kb n i f → f < length kb.facts
linked_known kb zero i f l e = subst (λ x. x < length kb.facts) e l
linked_known kb (suc n) i f l (j, linked, c) = second kb j f c

pub components_scope : (kb : Knowledge) (causes : List (List ℕ)) (facts : List ℕ) → ((cause : List ℕ) → Contains causes cause → AreFacts kb cause)
    → AreComponents kb causes facts → IsScope kb causes facts
components_scope kb causes facts known w = record {
  known = All-of (λ i. i < length kb.facts) facts (λ f m.
      let (cause, i, n, c, k, linked) = (w.exact f).0 m in
      linked_known kb n i f (All-contains (λ i. i < length kb.facts) cause i (known cause c) k) linked);
  closed = λ f j m c. let (cause, i, n, d, k, linked) = (w.exact f).0 m in (w.exact j).1 (cause, i, suc n, d, k, (f, linked, c));
  causes_inside = λ cause c i k. (w.exact i).1 (cause, i, zero, c, k, refl);
}

-- a selector stands behind all facts
pub scope_ascends : (kb : Knowledge) (facts : List ℕ) (candidate : ℕ) → AreFacts kb facts → IsAscending facts
    → IsAscending (facts ++ selector_of kb candidate ∷ [])
scope_ascends kb facts candidate known up = ascending_push facts (selector_of kb candidate) up
    (All-of (λ i. i < selector_of kb candidate) facts (λ i m. let l = All-contains (λ i. i < length kb.facts) facts i known m in omega arith))

-- ---- base clauses

-- a base clause is apart
pub base_apart : (kb : Knowledge) (mode : Repairs) (clause : List ℕ) → IsBaseClause kb mode clause → IsApart kb clause
base_apart kb mode clause (p, of, base) facts closed =
    closed_sets_separate p (has facts) (λ i j s c. has_true facts j (closed i j (has_there facts i s) (((means kb mode p of).conflict i j).0 c))) clause base

-- and over facts alone
pub base_known : (kb : Knowledge) (mode : Repairs) (clause : List ℕ) → IsBaseClause kb mode clause → (l : ℕ) → Contains clause l
    → variable_of l < length kb.facts
base_known kb mode clause (p, of, base) l m = subst (λ n. variable_of l < n) of.facts
    (base_within p (AllFacts p) (λ i j s c. (input_of_table kb mode p of).conflict i j c) clause base l m)

-- ---- the scope of a candidate

module _ (kb : Knowledge) (a : Asked) (facts : List ℕ) (scope : IsScope kb a.causes facts) where
  sel : ℕ
  sel = selector_of kb a.candidate

  known : (i : ℕ) → Contains facts i → i < length kb.facts
  known i m = All-contains (λ i. i < length kb.facts) facts i scope.known m

  of_fact : (i : ℕ) → Contains facts i → Contains (scope_of kb a facts) i
  of_fact i m = Contains-append_left facts (selector_of kb a.candidate ∷ []) i m

  of_selector : Contains (scope_of kb a facts) (selector_of kb a.candidate)
  of_selector = Contains-push facts (selector_of kb a.candidate)

  scope_cases : (i : ℕ) → Contains (scope_of kb a facts) i → Contains facts i ⊎ (selector_of kb a.candidate ≡ i)
  scope_cases i m = Contains-push_cases facts (selector_of kb a.candidate) i m

  -- a scope is closed under conflict, too
  pub scope_closed : IsClosedUnder (Conflict kb) (Contains (scope_of kb a facts))
  scope_closed i j m c = elim (scope_cases i m) [
    | inl k ↦ of_fact j (scope.closed i j k c)
    | inr e ↦ absurd (no_fact kb a.candidate i (Conflict-within kb i j c) (sym e))
  ]

  -- so what is apart is on one side of it
  pub apart_sided : (clause : List ℕ) → IsApart kb clause → IsInside (has (scope_of kb a facts)) clause ⊎ IsOutside (has (scope_of kb a facts)) clause
  apart_sided clause h = h (scope_of kb a facts) scope_closed

  -- the base clauses of its facts are base clauses inside it
  pub base_inside : (mode : Repairs) (p : Priority) → IsPriorityOf kb mode p → (clause : List ℕ) → over_priority.IsBaseClause p (Contains facts) clause
      → IsBaseClause kb mode clause × IsInside (has (scope_of kb a facts)) clause
  base_inside mode p of clause base = (
    (p, of, base_wider p (Contains facts) (AllFacts p) clause (λ i m. subst (λ n. i < n) (sym of.facts) (known i m)) base),
    (λ l k. has_true (scope_of kb a facts) (variable_of l) (of_fact (variable_of l)
        (base_within p (Contains facts) (λ i j s c. scope.closed i j s (((means kb mode p of).conflict i j).0 c)) clause base l k))),
  )

  -- the clauses of the causes are inside
  pub causes_inside : (clause : List ℕ) → IsCauseClause (selector_of kb a.candidate) a.causes clause → IsInside (has (scope_of kb a facts)) clause
  causes_inside clause (cause, m, e) l k =
      let (x, d, f) = Contains-map_cases absent (cause ++ selector_of kb a.candidate ∷ []) l (subst (λ (xs : List ℕ). Contains xs l) e k) in
      inside_by (scope_of kb a facts) x l (there x (Contains-push_cases cause (selector_of kb a.candidate) x d)) (ap variable_of (sym f) ∙ variable_of-absent x)
    where
      there : (x : ℕ) → Contains cause x ⊎ (selector_of kb a.candidate ≡ x) → Contains (scope_of kb a facts) x
      there x (inl c) = of_fact x (scope.causes_inside cause m x c)
      there x (inr s) = subst (Contains (scope_of kb a facts)) s of_selector

  -- and so is what may be assumed
  pub assumed_inside : (q : Question) (assume : List ℕ) → MayAssume kb a q assume → IsInside (has (scope_of kb a facts)) assume
  assumed_inside question.Brave assume (cause, m, e) l k =
      let (x, d, f) = Contains-map_cases present cause l (subst (λ (xs : List ℕ). Contains xs l) e k) in
      inside_by (scope_of kb a facts) x l (of_fact x (scope.causes_inside cause m x d)) (ap variable_of (sym f) ∙ variable_of-present x)
  assumed_inside question.Iar assume (cause, i, m, k, e) l d =
      inside_by (scope_of kb a facts) i l (of_fact i (scope.causes_inside cause m i k))
      (ap variable_of (one_of (absent i) l (subst (λ (xs : List ℕ). Contains xs l) e d)) ∙ variable_of-absent i)
  assumed_inside question.Ar assume e l d =
      inside_by (scope_of kb a facts) (selector_of kb a.candidate) l of_selector
      (ap variable_of (one_of (present (selector_of kb a.candidate)) l (subst (λ (xs : List ℕ). Contains xs l) e d))
      ∙ variable_of-present (selector_of kb a.candidate))

  -- a clause over the scope without the selector is over facts alone
  free_known : (clause : List ℕ) → IsInside (has (scope_of kb a facts)) clause → ((l : ℕ) → Contains clause l → variable_of l ≢ selector_of kb a.candidate)
      → (l : ℕ) → Contains clause l → variable_of l < length kb.facts
  free_known clause inside free l m = elim (scope_cases (variable_of l) (has_there (scope_of kb a facts) (variable_of l) (inside l m))) [
    | inl k ↦ known (variable_of l) k
    | inr e ↦ absurd (free l m (sym e))
  ]

  -- a clause over the scope that is apart where it hasn't the selector keeps to it
  pub keeps_to : (clause : List ℕ) → IsInside (has (scope_of kb a facts)) clause
      → (((l : ℕ) → Contains clause l → variable_of l ≢ selector_of kb a.candidate) → IsApart kb clause) → KeepsTo kb (scope_of kb a facts) clause
  keeps_to clause inside h = record {
    apart = λ f. h (λ l m e. no_fact kb a.candidate (variable_of l)
        (on_facts (length kb.facts) clause (not_false (goes_beyond (length kb.facts) clause) f) l m) e);
    inside = λ t. inside;
  }

  -- what keeps to the scope is on one side of it
  pub kept_sided : (clause : List ℕ) → KeepsTo kb (scope_of kb a facts) clause → IsInside (has (scope_of kb a facts)) clause
      ⊎ IsOutside (has (scope_of kb a facts)) clause
  kept_sided clause w = elim (cases_Bool (goes_beyond (length kb.facts) clause)) [
    | inl t ↦ inl (w.inside t)
    | inr f ↦ apart_sided clause (w.apart f)
  ]

  -- and over facts alone and apart where it hasn't the selector
  pub kept_apart : (clause : List ℕ) → KeepsTo kb (scope_of kb a facts) clause → ((l : ℕ) → Contains clause l → variable_of l ≢ selector_of kb a.candidate)
      → (goes_beyond (length kb.facts) clause ≡ false) × IsApart kb clause
  kept_apart clause w free = elim (cases_Bool (goes_beyond (length kb.facts) clause)) [
    | inr f ↦ (f, w.apart f)
    | inl t ↦ absurd (true≢false (sym t ∙ stays_within (length kb.facts) clause (free_known clause (w.inside t) free)))
  ]

  -- a learned clause that keeps to the scope goes beyond the facts exactly where it has the selector
  pub own_selector : (clause : List ℕ) → KeepsTo kb (scope_of kb a facts) clause → (goes_beyond (length kb.facts) clause ≡ true)
      ↔ ((l : ℕ) × Contains clause l × (variable_of l ≡ selector_of kb a.candidate))
  own_selector clause w = (to, from)
    where
      to : goes_beyond (length kb.facts) clause ≡ true → (l : ℕ) × Contains clause l × (variable_of l ≡ selector_of kb a.candidate)
      to t = elim (all_or_some (λ l. variable_of l < length kb.facts) (λ l. length kb.facts ≤ variable_of l) (λ l. cases_lt (variable_of l) (length kb.facts))
          clause) [
            | inl all ↦ absurd (true≢false (sym t ∙ stays_within (length kb.facts) clause all))
            | inr (l, m, past) ↦ elim (scope_cases (variable_of l) (has_there (scope_of kb a facts) (variable_of l) (w.inside t l m))) [
              | inl k ↦ absurd (let below = known (variable_of l) k in omega arith)
              | inr e ↦ (l, m, sym e)
            ]
          ]

      from : (l : ℕ) × Contains clause l × (variable_of l ≡ selector_of kb a.candidate) → goes_beyond (length kb.facts) clause ≡ true
      from (l, m, e) = elim (cases_Bool (goes_beyond (length kb.facts) clause)) [
        | inl t ↦ t
        | inr f ↦ absurd (no_fact kb a.candidate (variable_of l) (on_facts (length kb.facts) clause (not_false (goes_beyond (length kb.facts) clause) f) l m) e)
      ]
