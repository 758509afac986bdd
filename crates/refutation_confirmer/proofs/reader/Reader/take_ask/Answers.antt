use Rattle.std.proofs.Common.{ℕ, List, All, ◌+◌, ◌<◌, ap, sym, subst, arith}
use Rattle.report_text.specs.declared.line.Line.TheVariants as line
use Rattle.refutation_confirmer.specs.State.{State, AreKnown}
use Rattle.refutation_confirmer.specs.Steps.{FitsBefore}
use Rattle.refutation_confirmer.proofs.TakingLemmas.{asked_fits, asked_causes, takes_ask}
use Rattle.refutation_confirmer.proofs.reader.Reader.take_ask.Goals as goal

pub overflow_add-facts : goal.overflow_add-facts
overflow_add-facts c =
    let (kb, members, right) = c.requires.right in
    let known = subst AreKnown (sym c.self.view_is) c.requires.known in
    let w = asked_fits kb _ c.in-Some.conflicts c.in-Some-clauses.clauses c.facts.result c.args.candidate c.args.tuple c.args.causes members
    (subst (λ (s : State). FitsBefore kb s (line.Ask c.args.candidate c.args.tuple c.args.causes members)) (sym c.self.view_is) right) known c.in-Some.is
    c.in-Some-clauses.is c.facts.ensures.exact in
    omega (arith, w.0, w.1)

pub open-requires-clause-selector : goal.open-requires-clause-selector
open-requires-clause-selector c =
    let (kb, members, right) = c.requires.right in
    let known = subst AreKnown (sym c.self.view_is) c.requires.known in
    (asked_fits kb _ c.in-Some.conflicts c.in-Some-clauses.clauses c.facts.result c.args.candidate c.args.tuple c.args.causes members
    (subst (λ (s : State). FitsBefore kb s (line.Ask c.args.candidate c.args.tuple c.args.causes members)) (sym c.self.view_is) right) known c.in-Some.is
    c.in-Some-clauses.is c.facts.ensures.exact).0

pub open-requires-clause-in_range : goal.open-requires-clause-in_range
open-requires-clause-in_range c =
    let (kb, members, right) = c.requires.right in
    let w = subst (λ (s : State). FitsBefore kb s (line.Ask c.args.candidate c.args.tuple c.args.causes members)) (sym c.self.view_is) right in
    subst (λ (xs : List (List ℕ)). All (All (λ f. f < c.in-Some-clauses.clauses.variables)) xs) (sym c.as_slice-2.ensures.lent)
    (asked_causes kb w.names w.query w.before _ w.fits c.args.candidate c.args.tuple c.args.causes members w.right c.in-Some-clauses.clauses
    c.in-Some-clauses.is)

pub returns : goal.returns
returns c = record {
  taken = rw (← c.self.view_is)
      (takes_ask _ c.take_ask.new.self c.in-Some.conflicts c.in-Some-clauses.clauses c.open.new.self c.in_ok-learnable.learnable
      (c.facts.result + c.args.candidate) c.args.candidate c.args.tuple c.args.causes (subst AreKnown (sym c.self.view_is) c.requires.known) c.in-Some.is
      c.in-Some-clauses.is (ap (λ (m : ℕ). m + c.args.candidate) c.facts.ensures.exact) c.in_ok-open.ensures.same
      (rw c.as_slice-2.ensures.lent at c.in_ok-open.ensures.exact) (rw c.as_slice.ensures.lent at c.in_ok-learnable.ensures.exact)
      c.take_ask.ensures.exact);
}
