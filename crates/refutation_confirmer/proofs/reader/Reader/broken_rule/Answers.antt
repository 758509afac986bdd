use Rattle.std.proofs.Common.{refl, sym, ◌∙◌}
use Rattle.std.proofs.lemmas.Bool.{false≢true}
use Rattle.refutation_confirmer.proofs.JudgedLemmas.{closed_broken, conflict_broken, has_conflicts, own_broken, is_right}
use Rattle.refutation_confirmer.proofs.reader.Reader.broken_rule.Goals as goal

pub returns-then-not-branch-clause-exact : goal.returns-then-not-branch-clause-exact
returns-then-not-branch-clause-exact c = λ before f.
    let may = rw (c.axioms.ensures.lent, c.place.ensures.exact) at (c.if-not-may_come.ensures.exact.0 refl) in
    let closed = rw c.standing.ensures.lent at (c.in_ok-leaves_closed.ensures.exact c.args.vocab.now.inds c.args.query.now) in
    closed_broken c.args.kb.now c.args.vocab.now.inds c.args.query.now before c.args.self.now f c.args.line.now may
    (λ h. false≢true (sym c.if-not-branch.true ∙ closed.1 h))

pub find_for-requires-clause-closed : goal.find_for-requires-clause-closed
find_for-requires-clause-closed c = λ names q.
    let closed = rw c.standing.ensures.lent at (c.in_ok-leaves_closed.ensures.exact names q) in
    closed.0 c.if-not-branch.false

pub returns-then-not-leaves_none_out-clause-exact : goal.returns-then-not-leaves_none_out-clause-exact
returns-then-not-leaves_none_out-clause-exact c = λ before f.
    let may = rw (c.axioms.ensures.lent, c.place.ensures.exact) at (c.if-not-may_come.ensures.exact.0 refl) in
    let closed = rw c.standing.ensures.lent at (c.in_ok-leaves_closed.ensures.exact c.args.vocab.now.inds c.args.query.now) in
    let after = c.in_ok-find_for.ensures.fits c.args.vocab.now.inds c.args.query.now before f in
    conflict_broken c.args.kb.now c.args.vocab.now.inds c.args.query.now before c.args.self.now f c.args.line.now may (closed.0 c.if-not-branch.false)
    (λ h. false≢true ((c.if-not-leaves_none_out.ensures.exact c.args.kb.now c.args.vocab.now.inds c.args.query.now before after).1 h))

pub find_rest_for-requires-clause-told : goal.find_rest_for-requires-clause-told
find_rest_for-requires-clause-told c =
    let may = rw (c.axioms.ensures.lent, c.place.ensures.exact) at (c.if-not-may_come.ensures.exact.0 refl) in
    has_conflicts c.args.kb.now c.args.self.now c.find_for.new.self c.args.line.now c.in_ok-find_for.ensures.same c.in_ok-find_for.ensures.fits
    (record {
      some = record {
        names = c.args.vocab.now.inds;
        query = c.args.query.now;
        before = c.requires.fits.0;
        fits = c.requires.fits.1;
      };
      order = may;
    })
    (λ names q.
    let closed = rw c.standing.ensures.lent at (c.in_ok-leaves_closed.ensures.exact names q) in
    closed.0 c.if-not-branch.false)
    c.in_ok-find_for.ensures.known (λ names q before f. (c.if-not-leaves_none_out.ensures.exact c.args.kb.now names q before f).0 refl)

pub returns-then-not-branch-2-clause-exact : goal.returns-then-not-branch-2-clause-exact
returns-then-not-branch-2-clause-exact c = λ before f.
    let may = rw (c.axioms.ensures.lent, c.place.ensures.exact) at (c.if-not-may_come.ensures.exact.0 refl) in
    let closed = rw c.standing.ensures.lent at (c.in_ok-leaves_closed.ensures.exact c.args.vocab.now.inds c.args.query.now) in
    let after = c.in_ok-find_for.ensures.fits c.args.vocab.now.inds c.args.query.now before f in
    let later = c.in_ok-find_rest_for.ensures.fits c.args.vocab.now.inds c.args.query.now before after in
    own_broken c.args.kb.now c.args.vocab.now.inds c.args.query.now before c.args.self.now f c.args.line.now c.own_rule.result may
    (closed.0 c.if-not-branch.false)
    ((c.if-not-leaves_none_out.ensures.exact c.args.kb.now c.args.vocab.now.inds c.args.query.now before after).0 refl) c.own_rule.ensures.exact
    (λ h. false≢true (sym c.if-not-branch-2.true ∙ (c.in_ok-obeys.ensures.exact before later).1 h))

pub returns-clause-exact : goal.returns-clause-exact
returns-clause-exact c = λ before f.
    let may = rw (c.axioms.ensures.lent, c.place.ensures.exact) at (c.if-not-may_come.ensures.exact.0 refl) in
    let closed = rw c.standing.ensures.lent at (c.in_ok-leaves_closed.ensures.exact c.args.vocab.now.inds c.args.query.now) in
    let after = c.in_ok-find_for.ensures.fits c.args.vocab.now.inds c.args.query.now before f in
    let later = c.in_ok-find_rest_for.ensures.fits c.args.vocab.now.inds c.args.query.now before after in
    is_right c.args.kb.now c.args.vocab.now.inds c.args.query.now before c.args.self.now f c.args.line.now may (closed.0 c.if-not-branch.false)
    ((c.if-not-leaves_none_out.ensures.exact c.args.kb.now c.args.vocab.now.inds c.args.query.now before after).0 refl)
    ((c.in_ok-obeys.ensures.exact before later).0 c.if-not-branch-2.false)
