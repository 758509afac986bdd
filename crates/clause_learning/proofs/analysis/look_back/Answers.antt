use Rattle.std.proofs.Common.{List, Bool, sym, subst, ◌∙◌}
use Rattle.std.proofs.lemmas.Bool.{both_ways}
use Rattle.clause_meaning.specs.Marks.{HasMark}
use Rattle.clause_learning.proofs.Marked.{alone, beside}
use Rattle.clause_learning.proofs.Steps.{passed, false_at, on_level_here}
use Rattle.clause_learning.proofs.analysis.look_back.Goals as goal

pub returns-then-not-has_mark-clause-looks : goal.returns-then-not-has_mark-clause-looks
returns-then-not-has_mark-clause-looks c =
    let q = c.opposite-literal.result in
    let trail = c.args.trail.now in
    let (literals, shows, r) = c.requires.resolvent in
    let at = false_at trail.entries c.literals.result.now c.args.place q c.literals.ensures.lent c.requires.place c.opposite-literal.ensures in (
      literals,
      shows,
      passed trail c.args.arena.now literals c.args.place q c.requires.place r at
          (λ m. both_ways _ c.if-not-has_mark.true (c.has_mark.ensures ∙ subst (λ (xs : List Bool). HasMark xs q) (sym c.deref.ensures.value) (shows.has q m))),
    )

pub returns-then-resolvent-eq1-clause-looks : goal.returns-then-resolvent-eq1-clause-looks
returns-then-resolvent-eq1-clause-looks c =
    let q = c.opposite-literal.result in
    let trail = c.args.trail.now in
    let (literals, shows, r) = c.requires.resolvent in
    let at = false_at trail.entries c.literals.result.now c.args.place q c.literals.ensures.lent c.requires.place c.opposite-literal.ensures in
    let member = shows.marked q (subst (λ (xs : List Bool). HasMark xs q) c.deref.ensures.value (sym c.has_mark.ensures ∙ c.if-not-has_mark.false)) in
    let on = on_level_here trail c.args.arena.now literals c.args.place q c.requires.searching c.literals.ensures.distinct c.requires.place r at in
    (literals, shows, r, member, alone trail c.args.resolvent.now literals q shows member on c.if-resolvent-eq1.true)

pub resolve-requires-clause-resolvent : goal.resolve-requires-clause-resolvent
resolve-requires-clause-resolvent c =
    let q = c.opposite-literal.result in
    let trail = c.args.trail.now in
    let (literals, shows, r) = c.requires.resolvent in
    let at = false_at trail.entries c.literals.result.now c.args.place q c.literals.ensures.lent c.requires.place c.opposite-literal.ensures in
    let member = shows.marked q (subst (λ (xs : List Bool). HasMark xs q) c.deref.ensures.value (sym c.has_mark.ensures ∙ c.if-not-has_mark.false)) in
    let on = on_level_here trail c.args.arena.now literals c.args.place q c.requires.searching c.literals.ensures.distinct c.requires.place r at in
    (literals, shows, r, member, beside trail c.args.resolvent.now literals q shows member on c.if-resolvent-eq1.false)
