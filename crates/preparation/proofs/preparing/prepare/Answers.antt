use Rattle.std.proofs.Common.{◌≡◌, ◌∙◌, ap, Err, length, inl}
use Rattle.std.proofs.lemmas.Result.{err_from_is_err_and}
use Rattle.preparation.proofs.PreparedLemmas.{none_larger, found_refused, better_refused, supports_refused, conflicts_found, conflicts_without_pairs}
use Rattle.preparation.proofs.PreparedLemmas.{tuples_below}
use Rattle.conflict_finder.proofs.Closings.{closure_fits}
use Rattle.preparation.proofs.preparing.prepare.Goals as goal

pub returns-in_err-found-clause-refused : goal.returns-in_err-found-clause-refused
returns-in_err-found-clause-refused c =
    let (y, is, same) = err_from_is_err_and c.from_residual-in_err-found.result c.from_residual-in_err-found.ensures.1 in
    let axioms = c.axioms-axioms.ensures.lent in
    let facts = c.in_ok-index.ensures.exact ∙ c.facts.ensures.lent in
    rw (is, same) (found_refused c.args.kb.now c.args.query.now c.args.repairs c.args.limits.now c.in_err-found.field-0.0
    (closure_fits c.args.kb.now.axioms c.args.query.now c.in_ok-closure.closure c.args.limits.now.members
    (rw axioms at c.in_ok-closure.ensures.exact) c.in_ok-closure.ensures.few)
    (λ n e. rw axioms at (c.in_err-found.ensures.closure_refused n (ap Err e)))
    (λ e. rw (axioms, facts) at (c.in_err-found.ensures.conflicts_refused (ap Err e))))

pub priority-requires-clause-conflicts : goal.priority-requires-clause-conflicts
priority-requires-clause-conflicts c =
    let axioms = c.axioms-axioms.ensures.lent in
    let facts = c.in_ok-index.ensures.exact ∙ c.facts.ensures.lent in
    conflicts_found c.args.kb.now c.in_ok-found.found.conflicts (c.in_ok-found.ensures.facts ∙ ap length facts)
    (rw (axioms, facts) at c.in_ok-found.ensures.conflicts)

pub returns-in_err-better-clause-refused : goal.returns-in_err-better-clause-refused
returns-in_err-better-clause-refused c =
    let (y, is, same) = err_from_is_err_and c.from_residual-in_err-better.result c.from_residual-in_err-better.ensures.1 in
    let axioms = c.axioms-axioms.ensures.lent in
    let facts = c.in_ok-index.ensures.exact ∙ c.facts.ensures.lent in
    let within = rw (axioms, facts) at c.in_ok-found.ensures.within in
    rw (is, same) (better_refused c.args.kb.now c.args.query.now c.args.repairs c.args.limits.now c.in_err-better.field-0.0
    (none_larger c.args.kb.now c.args.query.now c.in_ok-closure.closure c.args.limits.now.members
    (rw axioms at c.in_ok-closure.ensures.exact) c.in_ok-closure.ensures.few within.0) within.1 c.in_err-better.ensures.refused)

pub returns-in_err-candidates-clause-refused : goal.returns-in_err-candidates-clause-refused
returns-in_err-candidates-clause-refused c =
    let (y, is, same) = err_from_is_err_and c.from_residual-in_err-candidates.result c.from_residual-in_err-candidates.ensures.1 in
    let axioms = c.axioms-axioms.ensures.lent in
    let facts = c.in_ok-index.ensures.exact ∙ c.facts.ensures.lent in
    let within = rw (axioms, facts) at c.in_ok-found.ensures.within in
    rw (is, same) (supports_refused c.args.kb.now c.args.query.now c.args.repairs c.args.limits.now c.in_err-candidates.field-0.0
    (none_larger c.args.kb.now c.args.query.now c.in_ok-closure.closure c.args.limits.now.members
    (rw axioms at c.in_ok-closure.ensures.exact) c.in_ok-closure.ensures.few within.0) within.1 c.in_ok-better.ensures.acyclic
    (λ e. rw (axioms, facts) at (c.in_err-candidates.ensures.too_many c.args.query.now c.in_ok-closure.ensures.closes (ap Err e))))

pub returns-clause-prepared : goal.returns-clause-prepared
returns-clause-prepared c =
    let axioms = c.axioms-axioms.ensures.lent in
    let facts = c.in_ok-index.ensures.exact ∙ c.facts.ensures.lent in
    let conflicts = conflicts_found c.args.kb.now c.in_ok-found.found.conflicts (c.in_ok-found.ensures.facts ∙ ap length facts)
    (rw (axioms, facts) at c.in_ok-found.ensures.conflicts) in
    let closes = rw axioms at c.in_ok-closure.ensures.closes in
    let answers = rw (axioms, facts) at c.in_ok-candidates.ensures.exact in
    let are = answers c.args.query.now closes (conflicts_without_pairs c.args.kb.now c.in_ok-found.found.conflicts conflicts) in
    record {
      closes = closes;
      closures = rw axioms at c.in_ok-found.ensures.closures;
      conflicts = conflicts;
      named = rw facts at c.in_ok-found.ensures.named;
      over = c.in_ok-better.ensures.over;
      priority = c.in_ok-better.ensures.exact;
      answers = are;
      few = rw (← c.facts-2.ensures.lent, ← c.as_slice.ensures.value) (c.are_few.ensures.together c.if-not-are_few.false);
      sizes = rw (← c.as_slice.ensures.value) (c.are_few.ensures.each c.if-not-are_few.false);
      individuals = tuples_below c.args.kb.now c.args.query.now c.in_ok-closure.closure c.in_ok-candidates.candidates.items c.body-body.ensures.safe are;
    }

pub returns-clause-within : goal.returns-clause-within
returns-clause-within c =
    let axioms = c.axioms-axioms.ensures.lent in
    let facts = c.in_ok-index.ensures.exact ∙ c.facts.ensures.lent in
    let within = rw (axioms, facts) at c.in_ok-found.ensures.within in
    let supports = rw (axioms, facts) at c.in_ok-candidates.ensures.within in
    record {
      members = none_larger c.args.kb.now c.args.query.now c.in_ok-closure.closure c.args.limits.now.members
          (rw axioms at c.in_ok-closure.ensures.exact) c.in_ok-closure.ensures.few within.0;
      clashes = within.1;
      acyclic = c.in_ok-better.ensures.acyclic;
      supports = supports c.args.query.now (rw axioms at c.in_ok-closure.ensures.closes);
    }
