-- When a block is closed, and may be left.
use Rattle.std.proofs.Common.{◌≡◌, ◌↔◌, ℕ, inl, inr, Bool, List, sym, subst, IsTrue}
use Rattle.cq_terms.specs.declared.axioms.Axiom.{Axiom}
use Rattle.cq_terms.specs.Knowledge.{Knowledge}
use Rattle.cq_terms.specs.Query.{Query}
use Rattle.report_text.specs.declared.line.Line.{Line}
use Rattle.report_text.specs.declared.line.Origin.{Origin}
use Rattle.report_rules.specs.declared.place.Place.TheVariants as place
use Rattle.report_rules.specs.Inputs.{report_on}
use Rattle.report_rules.specs.Blocks.{IsClosedBlock, IsOfBlock}
use Rattle.report_laws.specs.Standing.{Standing, members_at}
use Rattle.report_laws.specs.AtStanding.{LeavesClosedAt}

-- a line of another block may come where the open one is closed
pub closed_tells : (kb : Knowledge) (names : List (List ℕ)) (q : Query) (s : Standing) (l : Line) (o : Origin) (axioms : List Axiom) (members : List Query)
    (b : Bool)
    → s.place ≡ place.InBlock o → (IsOfBlock o l → ⊥) → axioms ≡ kb.axioms → members_at s.blocks o ≡ members
    → (IsTrue b ↔ IsClosedBlock axioms members) → IsTrue b ↔ LeavesClosedAt (report_on kb names q) s l
closed_tells kb names q s l o axioms members b at other same_axioms ms w = (
  (λ t p e.
      let same : o ≡ p = cc (at, e) in
      inr (subst (λ (x : Origin). IsClosedBlock kb.axioms (members_at s.blocks x)) same
      (subst (λ (xs : List Query). IsClosedBlock kb.axioms xs) (sym ms) (subst (λ (xs : List Axiom). IsClosedBlock xs members) same_axioms (w.0 t))))),
  (λ h. elim (h o at) [
    | inl k ↦ absurd (other k)
    | inr k ↦ w.1 (subst (λ (xs : List Axiom). IsClosedBlock xs members) (sym same_axioms) (subst (λ (xs : List Query). IsClosedBlock kb.axioms xs) ms k))
  ]),
)
