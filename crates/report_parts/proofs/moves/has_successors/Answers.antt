use Rattle.std.proofs.Common.{◌≡◌, ℕ, ◌<◌, Contains, length, refl, sym, subst, ap, ◌∙◌, arith, inl, inr, get_or}
use Rattle.std.proofs.lemmas.Bool.{cases_eq}
use Rattle.cq_terms.specs.Query.{Query}
use Rattle.cq_meaning.specs.Rewriting.{IsSuccessor}
use Rattle.cq_steps.specs.declared.moves.Move.{Move}
use Rattle.cq_steps.specs.Moves.{AreSuccessors}
use Rattle.report_parts.proofs.ListFacts.{any_default}
use Rattle.report_parts.proofs.MoveLemmas.{successors_in, is_successor}
use Rattle.report_parts.proofs.moves.has_successors.Goals as goal

pub returns-then-not-branch : goal.returns-then-not-branch
returns-then-not-branch c =
    let are : AreSuccessors c.args.axioms.now c.args.query.now c.deref-result-items.result.now =
    subst (AreSuccessors c.args.axioms.now c.args.query.now) (sym c.deref-result-items.ensures.value) c.in_ok-results.ensures.exact in
    let one = is_successor c.args.axioms.now c.args.query.now c.deref-result-items.result.now are c.loop-result.result-index c.result-item.result
    c.loop-result-test.true in
    let there = subst (λ (x : Move × Query). IsSuccessor c.args.axioms.now c.args.query.now x.1) (sym c.result-item.is) one in
    record {
      exact = (
        (λ e. absurd (cc e)),
        (λ h. sym c.if-not-branch.true ∙ c.in_ok-has.ensures.exact.1 (h c.result-item.result.1 there)),
      );
    }

pub loop-result-preserved : goal.loop-result-preserved
loop-result-preserved c = λ k d l. elim (cases_eq k c.loop-result.result-index) [
  | inl e ↦
      let same : get_or c.deref-result-items.result.now k d ≡ c.result-item.result =
      ap (λ (n : ℕ). get_or c.deref-result-items.result.now n d) e
      ∙ any_default c.deref-result-items.result.now c.loop-result.result-index d c.result-item.result c.loop-result-test.true ∙ sym c.result-item.is in
      subst (λ (x : Move × Query). Contains c.args.block.now.members x.1) (sym same) (c.in_ok-has.ensures.exact.0 c.if-not-branch.false)
  | inr ne ↦ c.loop-result.invariant k d (omega arith)
]

pub returns : goal.returns
returns c =
    let are : AreSuccessors c.args.axioms.now c.args.query.now c.deref-result-items.result.now =
    subst (AreSuccessors c.args.axioms.now c.args.query.now) (sym c.deref-result-items.ensures.value) c.in_ok-results.ensures.exact in
    let each : (k : ℕ) (d : Move × Query) → k < length c.deref-result-items.result.now
    → Contains c.args.block.now.members ((get_or c.deref-result-items.result.now k d).1) =
    λ k d l. c.loop-result.invariant k d (omega arith) in
    record { exact = ((λ t. successors_in c.args.axioms.now c.args.query.now c.deref-result-items.result.now c.args.block.now.members are each), (λ h. refl)) }
