-- How a try ends, by what a reader tests of it.
use Rattle.std.proofs.Common.{◌≡◌, ◌↔◌, ℕ, List, [], Bool, true, true≢false, Option, Some, None, refl, sym, subst, ◌∙◌}
use Rattle.std.specs.Prelude.{slice_get}
use Rattle.cq_terms.specs.Knowledge.{Knowledge}
use Rattle.report_text.specs.declared.line.How.{How}
use Rattle.report_text.specs.declared.line.How.TheVariants as how
use Rattle.report_laws.specs.AtStanding.{DoneAt, SpentAt, shows, evidence_at, facts_of}
use Rattle.report_laws.specs.Standing.{Standing}
use Rattle.report_parts.specs.Tests.{passes}

-- the try ended spent
pub done_spent : (kb : Knowledge) (live : List (List ℕ)) (s : Standing) (ended : How) (core : Option ℕ) (answer : Bool) → ended ≡ how.Spent → core ≡ None
    → (answer ≡ true) ↔ SpentAt kb live s → (answer ≡ true) ↔ DoneAt kb live s ended core
done_spent kb live s ended core answer e f t =
    subst (λ (h : How). (answer ≡ true) ↔ DoneAt kb live s h core) (sym e)
    (subst (λ (o : Option ℕ). (answer ≡ true) ↔ DoneAt kb live s how.Spent o) (sym f) t)

-- some thing that is there passes
some_passes : {X : Type 0} (test : X → Bool) (o : Option X) → (passes test o ≡ true) ↔ ((x : X) × (o ≡ Some x) × (test x ≡ true))
some_passes test None = ((λ e. absurd (true≢false (sym e))), (λ (x, e, t). absurd (cc e)))
some_passes test (Some y) = (
  (λ e. (y, refl, e)),
  (λ (x, e, t). let same : y ≡ x = cc e in subst (λ z. test z ≡ true) (sym same) t),
)

-- the core of the number shows what is asked
pub done_model : (kb : Knowledge) (live : List (List ℕ)) (s : Standing) (ended : How) (core : Option ℕ) (number : ℕ) (answer : Bool) → ended ≡ how.Model
    → core ≡ Some number → answer ≡ passes (shows (evidence_at kb s []) s.question (facts_of s.assumed)) (slice_get s.cores number)
    → (answer ≡ true) ↔ DoneAt kb live s ended core
done_model kb live s ended core number answer e f t =
    let w = some_passes (shows (evidence_at kb s []) s.question (facts_of s.assumed)) (slice_get s.cores number) in
    subst (λ (h : How). (answer ≡ true) ↔ DoneAt kb live s h core) (sym e)
    (subst (λ (o : Option ℕ). (answer ≡ true) ↔ DoneAt kb live s how.Model o) (sym f) ((λ a. w.0 (sym t ∙ a)), (λ v. t ∙ w.1 v)))
