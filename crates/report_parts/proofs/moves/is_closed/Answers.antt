use Rattle.std.proofs.Common.{◌≡◌, ℕ, List, Contains, refl, sym, subst, ap, ◌∙◌, arith, inl, inr, get_or}
use Rattle.std.proofs.lemmas.Bool.{cases_eq}
use Rattle.cq_terms.specs.Query.{Query}
use Rattle.cq_meaning.specs.Rewriting.{IsSuccessor}
use Rattle.report_parts.proofs.ListFacts.{any_default}
use Rattle.report_parts.proofs.moves.is_closed.Goals as goal

pub returns-then-not-branch : goal.returns-then-not-branch
returns-then-not-branch c =
    let there : Contains c.args.block.now.members c.member-item.result =
    subst (λ (xs : List Query). Contains xs c.member-item.result) c.members-member-items.ensures.lent
    (c.loop-member.member-index, c.loop-member-test.true, sym c.member-item.is) in
    record {
      exact = (
        (λ e. absurd (cc e)),
        (λ h. sym c.if-not-branch.true ∙ c.in_ok-has_successors.ensures.exact.1 (λ q s. h c.member-item.result q there s)),
      );
    }

pub loop-member-preserved : goal.loop-member-preserved
loop-member-preserved c = λ k d l q s. elim (cases_eq k c.loop-member.member-index) [
  | inl e ↦
      let same : get_or c.members-member-items.result.now k d ≡ c.member-item.result =
      ap (λ (n : ℕ). get_or c.members-member-items.result.now n d) e
      ∙ any_default c.members-member-items.result.now c.loop-member.member-index d c.member-item.result c.loop-member-test.true ∙ sym c.member-item.is in
      c.in_ok-has_successors.ensures.exact.0 c.if-not-branch.false q (subst (λ (x : Query). IsSuccessor c.args.axioms.now x q) same s)
  | inr ne ↦ c.loop-member.invariant k d (omega arith) q s
]

pub returns : goal.returns
returns c = record {
  exact = (
    (λ t p q m s.
        let (k, l, e) = subst (λ (xs : List Query). Contains xs p) (sym c.members-member-items.ensures.lent) m in
        c.loop-member.invariant k p (omega (arith, l)) q (subst (λ (x : Query). IsSuccessor c.args.axioms.now x q) (sym e) s)),
    (λ h. refl),
  );
}
