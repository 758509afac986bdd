use Rattle.std.proofs.Common.{ℕ, Option, None, false, get_or, refl, sym, subst, ◌∙◌}
use Rattle.clause_arena.specs.declared.clause_ref.ClauseRef.{ClauseRef}
use Rattle.cdcl_core.specs.declared.labels.Label.{Label}
use Rattle.cdcl_core.specs.Store.{AreProper}
use Rattle.cdcl_core.proofs.Sweeps.{SweepHolds, SweepHolds-start, SweepHolds-step, SweepHolds-live}
use Rattle.cdcl_core.proofs.Counting.{AreProper-drops, AreAscending-drops, OnlyCounts-trans}
use Rattle.cdcl_core.proofs.store.drop_where.Goals as goal

pub loop-at-init : goal.loop-at-init
loop-at-init c = record {
  sweep = SweepHolds-start c.args.which c.args.labels.now c.args.arena.now.live c.first-at.result c.requires.parallel c.requires.stay
      c.first-at.ensures.ascending c.first-at.ensures.found;
  ascending = c.first-at.ensures.ascending;
  variables = refl;
  counted = c.requires.counted;
  proper = c.requires.proper;
  only = refl;
}

pub next-at-requires : goal.next-at-requires
next-at-requires c =
    let swept = subst (λ (at : Option ClauseRef). SweepHolds c.args.which c.args.labels.now c.args.arena.now.live c.loop-at.labels c.loop-at.arena.live
    c.loop-at.place at) c.in-Some.is
    c.loop-at.invariant.sweep in
    let live = SweepHolds-live c.args.which c.args.labels.now c.args.arena.now.live c.loop-at.labels c.loop-at.arena.live c.loop-at.place c.in-Some.clause
    swept in
    record { live = (live.1.0, live.0, live.1.1, live.1.2, live.2) }

pub drop_if-requires-clause-live : goal.drop_if-requires-clause-live
drop_if-requires-clause-live c =
    let swept = subst (λ (at : Option ClauseRef). SweepHolds c.args.which c.args.labels.now c.args.arena.now.live c.loop-at.labels c.loop-at.arena.live
    c.loop-at.place at) c.in-Some.is
    c.loop-at.invariant.sweep in
    let live = SweepHolds-live c.args.which c.args.labels.now c.args.arena.now.live c.loop-at.labels c.loop-at.arena.live c.loop-at.place c.in-Some.clause
    swept in
    (live.1.0, live.0, live.1.1, live.1.2, live.2)

pub loop-at-preserved : goal.loop-at-preserved
loop-at-preserved c =
    let which = c.args.which in
    let labels = c.loop-at.labels in
    let live = c.loop-at.arena.live in
    let new_live = c.drop_if.new.arena.live in
    let place = c.loop-at.place in
    let clause = c.in-Some.clause in
    let none : Label = record { number = None; goes = false } in
    let number = (get_or labels place none).number in
    let swept = subst (λ (at : Option ClauseRef). SweepHolds which c.args.labels.now c.args.arena.now.live labels live place at) c.in-Some.is
    c.loop-at.invariant.sweep in
    record {
      sweep = SweepHolds-step which c.args.labels.now c.args.arena.now.live labels live new_live place clause c.next-at.result none c.drop_if.result swept
          c.next-at.ensures.found c.drop_if.ensures.exact;
      ascending = AreAscending-drops which number clause.place live new_live c.drop_if.result c.drop_if.ensures.exact c.loop-at.invariant.ascending;
      variables = c.drop_if.ensures.variables ∙ c.loop-at.invariant.variables;
      counted = c.drop_if.ensures.counted;
      proper = subst (λ (n : ℕ). AreProper n new_live) (sym c.drop_if.ensures.variables)
          (AreProper-drops which c.loop-at.arena.variables number clause.place live new_live c.drop_if.result c.drop_if.ensures.exact
          c.loop-at.invariant.proper);
      only = OnlyCounts-trans c.args.trail.now c.loop-at.trail c.drop_if.new.trail c.loop-at.invariant.only c.drop_if.ensures.only;
    }
