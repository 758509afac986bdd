use Rattle.std.proofs.Common.{◌≡◌, ℕ, List, length, get_or, true, false, sym, subst, ap, ◌∙◌}
use Rattle.std.proofs.lemmas.Bool.{both_ways}
use Rattle.clause_meaning.specs.Literals.{variable_of}
use Rattle.clause_meaning.specs.Learning.{is_in}
use Rattle.cdcl_core.proofs.Units.{one_literal, same_unit, unit_searched, Begins-fixed, Extends-fixed, StandsAt-fixed, clash_fixed}
use Rattle.cdcl_core.proofs.seeking.fix_unit.Goals as goal

pub returns-then-literals-ne1-clause-stands : goal.returns-then-literals-ne1-clause-stands
returns-then-literals-ne1-clause-stands c told literals named u unit here =
    absurd (c.if-literals-ne1.true (sym (ap length (c.view-literals.ensures.only literals named)) ∙ ap length unit))

pub returns-then-not-contains-clause-stands : goal.returns-then-not-contains-clause-stands
returns-then-not-contains-clause-stands c told literals named u unit here =
    let lent = c.view-literals.result.now in
    let is = one_literal lent c.if-literals-ne1.false in
    let same : get_or lent 0 0 ≡ u = same_unit (get_or lent 0 0) u (sym (c.view-literals.ensures.only literals named ∙ is) ∙ unit) in
    let v : variable_of u ≡ c.variable_of.result = sym (c.variable_of.ensures ∙ ap variable_of same) in
    let out : is_in c.args.scope.now c.variable_of.result ≡ false = sym c.contains.ensures.value ∙ c.if-not-contains.true in
    let in_ : is_in c.args.scope.now c.variable_of.result ≡ true =
    subst (λ (vs : List ℕ). is_in vs c.variable_of.result ≡ true) c.requires.scope (ap (is_in c.args.trail.now.focus) (sym v) ∙ here) in
    absurd (both_ways (is_in c.args.scope.now c.variable_of.result) out in_)

pub returns-clause-begins : goal.returns-clause-begins
returns-clause-begins c =
    let lent = c.view-literals.result.now in
    Begins-fixed c.args.trail.now c.fix_one.new.trail c.args.arena.now (get_or lent 0 0) c.fix_one.result c.requires.begins
    (unit_searched c.args.trail.now c.args.arena.now c.args.clause.place lent (get_or lent 0 0) c.view-literals.ensures.named
    (one_literal lent c.if-literals-ne1.false)
    (ap (λ (vs : List ℕ). is_in vs (variable_of (get_or lent 0 0))) c.requires.scope
    ∙ (ap (is_in c.args.scope.now) (sym c.variable_of.ensures) ∙ (sym c.contains.ensures.value ∙ c.if-not-contains.false))))
    (c.fix_one.ensures.fits c.args.arena.now c.requires.begins.searching.fits) c.fix_one.ensures.fixes

pub returns-clause-extends : goal.returns-clause-extends
returns-clause-extends c = Extends-fixed c.args.trail.now c.fix_one.new.trail (get_or c.view-literals.result.now 0 0) c.fix_one.result c.fix_one.ensures.fixes

pub returns-clause-stands : goal.returns-clause-stands
returns-clause-stands c told literals named =
    let lent = c.view-literals.result.now in
    StandsAt-fixed c.args.trail.now c.fix_one.new.trail c.args.arena.now lent literals (get_or lent 0 0) c.fix_one.result c.requires.begins
    c.fix_one.ensures.fixes told
    (one_literal lent c.if-literals-ne1.false) (c.view-literals.ensures.only literals named)

pub returns-clause-refuted : goal.returns-clause-refuted
returns-clause-refuted c told =
    let lent = c.view-literals.result.now in
    clash_fixed c.args.trail.now c.fix_one.new.trail c.args.arena.now (get_or lent 0 0) c.fix_one.result c.requires.begins
    (unit_searched c.args.trail.now c.args.arena.now c.args.clause.place lent (get_or lent 0 0) c.view-literals.ensures.named
    (one_literal lent c.if-literals-ne1.false)
    (ap (λ (vs : List ℕ). is_in vs (variable_of (get_or lent 0 0))) c.requires.scope
    ∙ (ap (is_in c.args.scope.now) (sym c.variable_of.ensures) ∙ (sym c.contains.ensures.value ∙ c.if-not-contains.false))))
    c.fix_one.ensures.fixes told
