-- Which literals a learned clause may have.
use Rattle.std.proofs.Common.{◌≡◌, ◌↔◌, ℕ, List, Contains, Bool, true, ◌||◌, eqb, eqb-true, eq-eqb, sym, ap, ◌∙◌}
use Rattle.clause_meaning.specs.Literals.{variable_of}
use Rattle.priority_graph.proofs.SplitLemmas.{has_not}
use Rattle.repair_clauses.specs.BaseClauses.{absent}
use Rattle.report_laws.specs.ComponentLaws.{may_learn}
use Rattle.report_parts.proofs.TestLemmas.{same_tests}

-- a literal of no learnable fact may be learned exactly where it says that the selector is absent
pub may_learn_else : (selector : ℕ) (facts : List ℕ) (l : ℕ) (answer : Bool) → ¬ Contains facts (variable_of l) → (answer ≡ true) ↔ (l ≡ absent selector)
    → answer ≡ may_learn selector facts l
may_learn_else selector facts l answer none t =
    same_tests answer (eqb l (absent selector)) t (eqb-true l (absent selector), eq-eqb l (absent selector))
    ∙ ap (λ (b : Bool). b || eqb l (absent selector)) (sym (has_not facts (variable_of l) none))
