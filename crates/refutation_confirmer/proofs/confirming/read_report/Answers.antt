use Rattle.std.proofs.Common.{◌≡◌, ◌<◌, [], Err, length, arith, rules, ap}
use Rattle.std.proofs.lemmas.Result.{err_from_is_err_and}
use Rattle.refutation_confirmer.specs.declared.confirmed.ConfirmFault.TheVariants as fault
use Rattle.std.proofs.lemmas.Bool.Decides.{nat_tests}
use Rattle.refutation_confirmer.proofs.LoopLemmas.{reading_tells, refit, number_fits, ends, stops_at_end, empty_list}
use Rattle.report_rules.specs.declared.place.Place.TheVariants.{AtEnd}
use Rattle.refutation_confirmer.proofs.confirming.read_report.Goals as goal

pub loop-rest-init : goal.loop-rest-init
loop-rest-init c = ([], (reading_tells c.args.kb.now c.args.vocab.now.inds c.args.query.now c.args.report.now).none _ c.requires.fits)

pub first_line-requires : goal.first_line-requires
first_line-requires c = let some : 0 < length c.loop-rest.rest.now = grind (arith, nat_tests) in record { some = some }

pub returns-in_default-clause-says : goal.returns-in_default-clause-says
returns-in_default-clause-says c =
    let (before, h) = c.loop-rest.invariant in
    let none = rw c.in_default.is at c.in_ok-line.ensures.exact in
    (reading_tells c.args.kb.now c.args.vocab.now.inds c.args.query.now c.args.report.now).at_text _ _ _ before h none

pub returns-in_default-clause-cycle : goal.returns-in_default-clause-cycle
returns-in_default-clause-cycle c = λ facts e. absurd (cc e)

pub returns-in-Some-2-clause-says : goal.returns-in-Some-2-clause-says
returns-in-Some-2-clause-says c =
    let (before, h) = c.loop-rest.invariant in
    let found = rw c.in-Some.is at c.in_ok-line.ensures.exact in
    let breaks = rw c.in-Some-2.is at (c.in_ok-rule.ensures.exact before h.fits) in
    (reading_tells c.args.kb.now c.args.vocab.now.inds c.args.query.now c.args.report.now).at_line _ _ _ _ before _ _ h found breaks

pub returns-in-Some-2-clause-cycle : goal.returns-in-Some-2-clause-cycle
returns-in-Some-2-clause-cycle c = λ facts e. absurd (cc e)

pub returns-then-eq-clause-cycle : goal.returns-then-eq-clause-cycle
returns-then-eq-clause-cycle c = λ facts e. absurd (cc e)

pub returns-else-eq-clause-cycle : goal.returns-else-eq-clause-cycle
returns-else-eq-clause-cycle c = λ facts e. absurd (cc e)

pub broken_rule-requires : goal.broken_rule-requires
broken_rule-requires c = let (before, h) = c.loop-rest.invariant in record { fits = (before, h.fits) }

pub take-requires : goal.take-requires
take-requires c =
    let (before, h) = c.loop-rest.invariant in
    let some : 0 < length c.loop-rest.rest.now = grind (arith, nat_tests) in
    let fits = c.in_ok-rule.ensures.fits before h.fits in
    let right = rw c.in_default-2.is at (c.in_ok-rule.ensures.exact before h.fits) in
    record {
      room = (reading_tells c.args.kb.now c.args.vocab.now.inds c.args.query.now c.args.report.now).room _ _ _ before
          (refit _ _ _ _ _ _ _ _ before h fits) some c.requires.small;
      ready = c.in_ok-rule.ensures.ready c.in_default-2.is;
      right = record { names = c.args.vocab.now.inds; query = c.args.query.now; before = before; fits = fits; right = right };
    }

pub overflow_add-number : goal.overflow_add-number
overflow_add-number c =
    let (before, h) = c.loop-rest.invariant in
    let some : 0 < length c.loop-rest.rest.now = grind (arith, nat_tests) in
    omega (arith, number_fits c.loop-rest.number (length c.loop-rest.rest.now) (length c.args.report.now) h.few some c.requires.small)

pub loop-rest-smaller : goal.loop-rest-smaller
loop-rest-smaller c = let found = rw c.in-Some.is at c.in_ok-line.ensures.exact in found.shorter

pub loop-rest-preserved : goal.loop-rest-preserved
loop-rest-preserved c =
    let (before, h) = c.loop-rest.invariant in
    let found = rw c.in-Some.is at c.in_ok-line.ensures.exact in
    let right = rw c.in_default-2.is at (c.in_ok-rule.ensures.exact before h.fits) in
    let fits = c.in_ok-rule.ensures.fits before h.fits in (
      _,
      (reading_tells c.args.kb.now c.args.vocab.now.inds c.args.query.now c.args.report.now).more _ _ _ _ _ before _ h found
          (c.in_ok-take.ensures.taken c.args.vocab.now.inds c.args.query.now before fits right),
    )

pub returns-then-eq-clause-says : goal.returns-then-eq-clause-says
returns-then-eq-clause-says c =
    let (before, h) = c.loop-rest.invariant in
    let none : length c.loop-rest.rest.now ≡ 0 = grind (arith, nat_tests) in
    let place : c.loop-rest.reader.standing.place ≡ AtEnd = search rules in
    rw c.total.ensures.exact (ends _ _ _ _ _ _ _ before h (empty_list c.loop-rest.rest.now none) place)

pub returns-else-eq-clause-says : goal.returns-else-eq-clause-says
returns-else-eq-clause-says c =
    let (before, h) = c.loop-rest.invariant in
    let none : length c.loop-rest.rest.now ≡ 0 = grind (arith, nat_tests) in
    let other : c.loop-rest.reader.standing.place ≡ AtEnd → ⊥ = λ e. search rules in
    stops_at_end _ _ _ _ _ _ _ before h (empty_list c.loop-rest.rest.now none) other

pub returns-in_err-take-clause-cycle : goal.returns-in_err-take-clause-cycle
returns-in_err-take-clause-cycle c = λ facts e.
    let (before, h) = c.loop-rest.invariant in
    let found = rw c.in-Some.is at c.in_ok-line.ensures.exact in
    let right = rw c.in_default-2.is at (c.in_ok-rule.ensures.exact before h.fits) in
    let fits = c.in_ok-rule.ensures.fits before h.fits in
    let (y, is, same) = err_from_is_err_and c.from_residual-in_err-take.result c.from_residual-in_err-take.ensures.1 in
    let one : c.in_err-take.field-0.0 ≡ fault.Cycle facts = cc (e, is, same) in
    (reading_tells c.args.kb.now c.args.vocab.now.inds c.args.query.now c.args.report.now).round _ _ _ _ before _ facts h found right
    (c.in_err-take.ensures.cycle facts (ap Err one) c.args.vocab.now.inds c.args.query.now before fits right)
