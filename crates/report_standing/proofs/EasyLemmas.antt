-- What a try asks, by its question and its literals.
use Rattle.std.proofs.Common.{◌≡◌, ◌↔◌, ℕ, List, Bool, true, sym, subst}
use Rattle.cq_terms.specs.declared.facts.Repairs.{Repairs}
use Rattle.cq_terms.specs.Knowledge.{Knowledge}
use Rattle.report_text.specs.declared.line.Question.{Question}
use Rattle.report_laws.specs.AtStanding.{IsEasyAt, facts_of}

-- the same of the question and the assumptions that are kept
pub easy_asked : (kb : Knowledge) (mode : Repairs) (asked known : Question) (assumed literals : List ℕ) (easy : Bool) → asked ≡ known → literals ≡ assumed
    → (easy ≡ true) ↔ IsEasyAt kb mode known (facts_of literals) → (easy ≡ true) ↔ IsEasyAt kb mode asked (facts_of assumed)
easy_asked kb mode asked known assumed literals easy e f t =
    subst (λ (q : Question). (easy ≡ true) ↔ IsEasyAt kb mode q (facts_of assumed)) (sym e)
    (subst (λ (ls : List ℕ). (easy ≡ true) ↔ IsEasyAt kb mode known (facts_of ls)) f t)
