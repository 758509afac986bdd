-- What a try assumes lies in the scope of its answer.
use Rattle.std.proofs.Common.{◌≡◌, ℕ, List, [], ◌∷◌, ◌++◌, true, sym, subst, ap, ◌∙◌, Contains}
use Rattle.clause_meaning.specs.Assignments.{IsInside}
use Rattle.clause_meaning.specs.Learning.{is_in}
use Rattle.clause_meaning.specs.Literals.{variable_of}
use Rattle.clause_meaning.proofs.Members.{Contains-map_cases}
use Rattle.cq_terms.specs.Conflicts.{ConflictGraph}
use Rattle.cdcl_core.specs.State.{State}
use Rattle.priority_graph.specs.Priority.{Priority}
use Rattle.priority_graph.proofs.SplitLemmas.{has_true}
use Rattle.repair_clauses.specs.BaseClauses.{present, absent}
use Rattle.repair_clauses.proofs.ListLemmas.{one_of}
use Rattle.repair_clauses.proofs.LiteralLemmas.{variable_of-present, variable_of-absent}
use Rattle.answer_evidence.specs.declared.aim.Aim.{Aim}
use Rattle.answer_evidence.specs.declared.aim.Aim.TheVariants as aim
use Rattle.answer_evidence.specs.declared.opening.Opening.{Opening}
use Rattle.answer_evidence.specs.Aims.{IsOver, assumed_for}
use Rattle.answer_desk.specs.Openings.{IsOpen}
use Rattle.answer_desk.proofs.OpenLemmas.{in_facts, in_scope_selector, cause_inside}

pub aim_inside : (g : ConflictGraph) (p : Priority) (state : State) (opening : Opening) (causes : List (List ℕ)) → IsOpen g p state opening causes
    → (a : Aim) → IsOver causes a → IsInside (is_in opening.scope.items) (assumed_for a opening.selector)
aim_inside g p state opening causes h a over =
    subst (λ (vs : List ℕ). IsInside (is_in vs) (assumed_for a opening.selector)) (sym h.scope.2) (go a over)
  where
    has_var : (l v : ℕ) → variable_of l ≡ v → is_in (h.scope.0 ++ opening.selector ∷ []) v ≡ true
        → is_in (h.scope.0 ++ opening.selector ∷ []) (variable_of l) ≡ true
    has_var l v e t = subst (λ (x : ℕ). is_in (h.scope.0 ++ opening.selector ∷ []) x ≡ true) (sym e) t

    of_cause : (cause : List ℕ) → Contains causes cause → (i : ℕ) → Contains cause i → is_in (h.scope.0 ++ opening.selector ∷ []) i ≡ true
    of_cause cause m i n = in_facts h.scope.0 opening.selector i (has_true h.scope.0 i (cause_inside p g causes h.scope.0 h.over h.scope.1 cause m i n))

    go : (a : Aim) → IsOver causes a → IsInside (is_in (h.scope.0 ++ opening.selector ∷ [])) (assumed_for a opening.selector)
    go (aim.WithCause c) m l k =
        let w = Contains-map_cases present c.now l k in
        has_var l w.0 (ap variable_of (sym w.2) ∙ variable_of-present w.0) (of_cause c.now m w.0 w.1)
    go (aim.WithoutFact f) w l k = has_var l f (ap variable_of (one_of (absent f) l k) ∙ variable_of-absent f) (of_cause w.0 w.1 f w.2)
    go (aim.WithoutCauses all) w l k =
        has_var l opening.selector (ap variable_of (one_of (present opening.selector) l k) ∙ variable_of-present opening.selector)
        (in_scope_selector h.scope.0 opening.selector)
