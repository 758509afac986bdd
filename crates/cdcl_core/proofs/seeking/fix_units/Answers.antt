use Rattle.std.proofs.Common.{subst}
use Rattle.cdcl_core.proofs.Units.{UnitsHold, UnitsHold-next, UnitsStand-all}
use Rattle.cdcl_core.proofs.seeking.fix_units.Goals as goal

pub loop-at-preserved : goal.loop-at-preserved
loop-at-preserved c =
    UnitsHold-next c.args.trail.now c.loop-at.trail c.fix_unit.new.trail c.args.arena.now c.in-Some.clause c.next-at.result
    (subst (UnitsHold c.args.trail.now c.loop-at.trail c.args.arena.now) c.in-Some.is c.loop-at.invariant) c.next-at.ensures.found
    c.fix_unit.ensures.begins c.fix_unit.ensures.same c.fix_unit.ensures.extends (c.fix_unit.ensures.stands c.if-not-fix_unit.false)

pub returns-clause-stand : goal.returns-clause-stand
returns-clause-stand c told =
    UnitsStand-all c.args.trail.now c.loop-at.trail c.args.arena.now
    (subst (UnitsHold c.args.trail.now c.loop-at.trail c.args.arena.now) c.in_default.is c.loop-at.invariant)
