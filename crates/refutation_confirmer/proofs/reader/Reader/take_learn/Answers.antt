use Rattle.std.proofs.Common.{List, ℕ, sym, subst}
use Rattle.clause_meaning.specs.Literals.{AreBelow}
use Rattle.report_text.specs.declared.line.Line.TheVariants as line
use Rattle.refutation_confirmer.specs.State.{State}
use Rattle.refutation_confirmer.specs.Steps.{FitsBefore}
use Rattle.refutation_confirmer.proofs.TakingLemmas.{learn_below, takes_learn_ok}
use Rattle.refutation_confirmer.proofs.reader.Reader.take_learn.Goals as goal

pub learn-requires : goal.learn-requires
learn-requires c =
    let (kb, right) = c.requires.right in
    record {
      in_range = subst (λ (xs : List ℕ). AreBelow c.in-Some.clauses.variables xs) (sym c.as_slice.ensures.lent)
          (learn_below kb _ c.args.number c.args.clause c.in-Some.clauses
          (subst (λ (s : State). FitsBefore kb s (line.Learn c.args.number c.args.clause)) (sym c.self.view_is) right) c.in-Some.is);
    }

pub returns : goal.returns
returns c = record {
  taken = rw (← c.self.view_is)
      (takes_learn_ok c.take_learn.result _ c.take_learn.new.self c.in-Some.clauses c.learn.new.self c.args.number c.args.clause c.in-Some.is
      c.in_ok-learn.ensures.same (rw c.as_slice.ensures.lent at c.in_ok-learn.ensures.exact) c.take_learn.ensures.exact);
}
