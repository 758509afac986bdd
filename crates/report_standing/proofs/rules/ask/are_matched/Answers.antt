use Rattle.std.proofs.Common.{◌≡◌, ℕ, List, refl, sym, subst, ap, ◌∙◌, arith, inl, inr, get_or}
use Rattle.std.proofs.lemmas.Bool.{cases_eq}
use Rattle.report_text.specs.declared.line.Origin.TheVariants as origin
use Rattle.report_rules.specs.Rules.{MemberMatches}
use Rattle.report_laws.specs.Standing.{members_at}
use Rattle.report_parts.proofs.ListFacts.{any_default, zip_at, at_zip, zip_long}
use Rattle.report_standing.proofs.rules.ask.are_matched.Goals as goal

pub returns-then-causes-members : goal.returns-then-causes-members
returns-then-causes-members c = record {
  exact = ((λ e. absurd (cc e)), (λ h. absurd (c.if-causes-members.true (zip_long _ c.args.causes.now c.args.members.now h))));
}

pub returns-then-not-branch : goal.returns-then-not-branch
returns-then-not-branch c = record {
  exact = (
    (λ e. absurd (cc e)),
    (λ h.
        let there = at_zip _ c.args.causes.now c.args.members.now h c.loop-i.i c.index-causes-i.result 0 c.loop-i-test.true in
        let one = subst (λ (cause : List ℕ). MemberMatches c.args.plain.now (members_at c.args.standing.now.blocks origin.Query)
        (get_or c.args.members.now c.loop-i.i 0) c.args.tuple.now cause) (sym c.index-causes-i.is) there in
        sym c.if-not-branch.true ∙ c.in_ok-matches_member.ensures.exact.1 (rw c.as_slice-cause.ensures.lent one)),
  );
}

pub loop-i-preserved : goal.loop-i-preserved
loop-i-preserved c = λ k d l. elim (cases_eq k c.loop-i.i) [
  | inl e ↦
      let same : get_or c.args.causes.now k d ≡ c.index-causes-i.result =
      ap (λ (n : ℕ). get_or c.args.causes.now n d) e
      ∙ any_default c.args.causes.now c.loop-i.i d c.index-causes-i.result c.loop-i-test.true ∙ sym c.index-causes-i.is in
      let found = rw c.as_slice-cause.ensures.lent at (c.in_ok-matches_member.ensures.exact.0 c.if-not-branch.false) in
      subst (λ (n : ℕ). MemberMatches c.args.plain.now (members_at c.args.standing.now.blocks origin.Query)
      (get_or c.args.members.now n 0) c.args.tuple.now (get_or c.args.causes.now k d)) (sym e)
      (subst (λ (cause : List ℕ). MemberMatches c.args.plain.now (members_at c.args.standing.now.blocks origin.Query)
      (get_or c.args.members.now c.loop-i.i 0) c.args.tuple.now cause) (sym same) found)
  | inr ne ↦ c.loop-i.invariant k d (omega arith)
]

pub returns : goal.returns
returns c = record {
  exact = (
    (λ t. zip_at _ c.args.causes.now c.args.members.now c.if-causes-members.false (λ k d e l.
        subst (λ (n : ℕ). MemberMatches c.args.plain.now (members_at c.args.standing.now.blocks origin.Query) n c.args.tuple.now (get_or c.args.causes.now k d))
        (any_default c.args.members.now k 0 e (omega (arith, l, c.if-causes-members.false))) (c.loop-i.invariant k d (omega (arith, l))))),
    (λ h. refl),
  );
}
