use Rattle.std.proofs.Common.{inl, inr, Contains, sym, subst}
use Rattle.std.proofs.lemmas.Bool.{false≢true}
use Rattle.clause_meaning.proofs.Members.{Contains-take_more_cases}
use Rattle.rup_check.proofs.Supersets.{none_within}
use Rattle.rup_check.proofs.clauses.Clauses.has_within.Goals as goal

pub loop-literal-preserved : goal.loop-literal-preserved
loop-literal-preserved c = record {
  empty = c.loop-literal.invariant.empty;
  none = λ k n d member at has within. elim (Contains-take_more_cases c.args.clause.now c.loop-literal.literal-index 0 k c.loop-literal-test.true member) [
    | inl t ↦ c.loop-literal.invariant.none k n d t at has within
    | inr e ↦ c.if-has_within_among-2.ensures.none n d (c.with.ensures n d at (subst (Contains d) (sym e) has)) at within
  ];
}

pub returns : goal.returns
returns c = record {
  exact = (
    λ e. absurd (false≢true e),
    λ one. absurd (none_within c.args.self.now.slots c.args.clause.now c.loop-literal.literal-index c.loop-literal-test.false
        c.loop-literal.invariant.empty c.loop-literal.invariant.none one.1.0 one.0 one.1.1 one.2),
  );
}
