-- Facts in no conflict have unit base clauses, so what is left open is in a conflict.
use Rattle.std.proofs.Common.{◌≡◌, ℕ, ◌<◌, ◌⊎◌, ◌↔◌, inl, inr, List, [], ◌∷◌, length, Contains, All, sym, subst, ap, ◌∙◌}
use Rattle.std.proofs.lemmas.List.Elements.{All-contains, Contains-push_cases}
use Rattle.cq_terms.specs.declared.facts.Repairs.{Repairs}
use Rattle.cq_terms.specs.Knowledge.{Knowledge}
use Rattle.cq_meaning.specs.Conflicts.{Only, Conflict, AreConsistent, IsSelfInconsistent, facts_in}
use Rattle.cq_meaning.proofs.Ascending.{All-of, with_property}
use Rattle.cq_meaning.proofs.Members.{Contains-head, Contains-nil}
use Rattle.cq_meaning.proofs.Stages.{Consistent-stable}
use Rattle.clause_meaning.specs.Literals.{opposite_of, variable_of}
use Rattle.clause_meaning.specs.Assignments.{IsInside}
use Rattle.clause_meaning.specs.Refutation.{Reaches}
use Rattle.clause_meaning.specs.Learning.{Nothing, IsUndecided}
use Rattle.clause_meaning.proofs.Chains.{Reaches-forced}
use Rattle.clause_meaning.proofs.LiteralLaws.{same_variable}
use Rattle.priority_graph.specs.Split.{has}
use Rattle.priority_graph.proofs.SplitLemmas.{has_there}
use Rattle.repair_clauses.specs.BaseClauses.{present, absent}
use Rattle.repair_clauses.proofs.LiteralLemmas.{variable_of-present, variable_of-absent}
use Rattle.report_rules.specs.Inputs.{AreFacts, selector_of}
use Rattle.report_rules.specs.ConflictLists.{IsInConflict}
use Rattle.report_rules.specs.Clauses.{IsBaseClause}
use Rattle.report_rules.specs.Tries.{Asked}
use Rattle.report_rules.specs.TryRules.{MayLearn}
use Rattle.report_laws.specs.Scopes.{scope_of, IsScope, AreComponents, HasUnits}
use Rattle.report_laws.proofs.ListLemmas.{only_one}
use Rattle.report_laws.proofs.LiteralLemmas.{literal_cases}
use Rattle.report_laws.proofs.ConflictsExist.{conflict_or_not, own_or_not}
use Rattle.report_laws.proofs.DirectCores.{base_present, base_absent}
use Rattle.report_laws.proofs.ScopeLemmas.{second, components_scope}

-- ---- facts in no conflict

pub free_units : (kb : Knowledge) (mode : Repairs) (i : ℕ) → i < length kb.facts → ¬ IsInConflict kb i
    → (AreConsistent kb (Only i) → IsBaseClause kb mode (present i ∷ [])) × (IsSelfInconsistent kb i → IsBaseClause kb mode (absent i ∷ []))
free_units kb mode i l none = ((λ c. base_present kb mode i l c (λ j w. none (j, w))), base_absent kb mode i l)

-- a fact is in a conflict or isn't
pub in_conflict_or_not : (kb : Knowledge) (i : ℕ) → IsInConflict kb i ⊎ ¬ IsInConflict kb i
in_conflict_or_not kb i = let w = with_property (Conflict kb i) (conflict_or_not kb i) (length kb.facts) in go w.0 w.2
  where
    go : (numbers : List ℕ) → ((j : ℕ) → Contains numbers j ↔ ((j < length kb.facts) × Conflict kb i j)) → IsInConflict kb i ⊎ ¬ IsInConflict kb i
    go [] exact = inr (λ (j, c). Contains-nil j ((exact j).1 (second kb i j c, c)))
    go (x ∷ numbers) exact = inl (x, ((exact x).0 (Contains-head x numbers)).1)

-- a unit clause decides its variable
pub unit_decides : (S : List ℕ → Type 0) (x l : ℕ) → S (x ∷ []) → variable_of x ≡ variable_of l → ¬ Reaches S Nothing l → ¬ Reaches S Nothing (opposite_of l)
    → ⊥
unit_decides S x l s e shut opposite = elim (same_variable x l e)
    [ inl h ↦ shut (subst (Reaches S Nothing) h reached) | inr h ↦ opposite (subst (Reaches S Nothing) h reached) ]
  where
    reached : Reaches S Nothing x
    reached = Reaches-forced S Nothing (x ∷ []) x s (record { member = Contains-head x []; others = λ k m d. absurd (d (sym (only_one x k m))) })

-- a literal of a fact that is open under clauses that have the fact's unit base clauses is of a fact in a conflict
pub open_conflicts : (kb : Knowledge) (mode : Repairs) (S : List ℕ → Type 0) (l : ℕ) → variable_of l < length kb.facts
    → ((x : ℕ) → variable_of x ≡ variable_of l → IsBaseClause kb mode (x ∷ []) → S (x ∷ [])) → ¬ Reaches S Nothing l → ¬ Reaches S Nothing (opposite_of l)
    → IsInConflict kb (variable_of l)
open_conflicts kb mode S l below units shut opposite = elim (in_conflict_or_not kb (variable_of l)) [
  | inl c ↦ c
  | inr none ↦ absurd (elim (own_or_not kb (variable_of l)) [
    | inl own ↦ unit_decides S (absent (variable_of l)) l (units (absent (variable_of l)) (variable_of-absent (variable_of l))
        (base_absent kb mode (variable_of l) below own.1)) (variable_of-absent (variable_of l)) shut opposite
    | inr free ↦ unit_decides S (present (variable_of l)) l (units (present (variable_of l)) (variable_of-present (variable_of l))
        (base_present kb mode (variable_of l) below (Consistent-stable kb.axioms (facts_in kb (Only (variable_of l))) (λ s. free (below, s)))
        (λ j w. none (j, w)))) (variable_of-present (variable_of l)) shut opposite
  ])
]

pub may_be_learned : (kb : Knowledge) (mode : Repairs) (a : Asked) (facts clause : List ℕ) (S : List ℕ → Type 0)
    → ((cause : List ℕ) → Contains a.causes cause → AreFacts kb cause) → AreComponents kb a.causes facts
    → IsInside (has (scope_of kb a facts)) clause → ¬ Contains clause (present (selector_of kb a.candidate))
    → ((i : ℕ) → Contains facts i → HasUnits kb mode S i) → All (IsUndecided S) clause → All (MayLearn kb a) clause
may_be_learned kb mode a facts clause S causes w inside absent_only units opened = All-of (MayLearn kb a) clause each
  where
    sel : ℕ
    sel = selector_of kb a.candidate

    scope : IsScope kb a.causes facts
    scope = components_scope kb a.causes facts causes w

    each : (l : ℕ) → Contains clause l → MayLearn kb a l
    each l m = elim (Contains-push_cases facts sel (variable_of l) (has_there (scope_of kb a facts) (variable_of l) (inside l m))) [
      | inl k ↦ (let below = All-contains (λ i. i < length kb.facts) facts (variable_of l) scope.known k in
          let u = All-contains (IsUndecided S) clause l opened m in
          inl (variable_of l, literal_cases l, open_conflicts kb mode S l below (units (variable_of l) k) u.0 u.1, (w.exact (variable_of l)).0 k))
      | inr e ↦ elim (literal_cases l) [
        | inl p ↦ absurd (absent_only (subst (Contains clause) (p ∙ ap present (sym e)) m))
        | inr n ↦ inr (n ∙ ap absent (sym e))
      ]
    ]
