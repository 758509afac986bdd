use Rattle.std.proofs.Common.{length, refl, subst, sym, ap, arith}
use Rattle.cdcl_trail.specs.Assigned.{IsTrueOn}
use Rattle.clause_meaning.specs.Resting.{Rests}
use Rattle.cdcl_trail.proofs.Entries.{unassigned_from_free}
use Rattle.cdcl_trail.proofs.trail.Trail.visit_clause.Goals as goal

pub returns-then-literals-lt2-clause-visited : goal.returns-then-literals-lt2-clause-visited
returns-then-literals-lt2-clause-visited c =
    (refl, λ clause named two. let same = ap length (c.view-literals.ensures.only clause named) in absurd (omega (arith, c.if-literals-lt2.true)))

pub force-requires-clause-unassigned : goal.force-requires-clause-unassigned
force-requires-clause-unassigned c = unassigned_from_free c.args.self.now.entries c.in-Forces.literal c.in-Forces.ensures.1 c.in-Forces.ensures.2

pub returns-in-Forces-clause-fits : goal.returns-in-Forces-clause-fits
returns-in-Forces-clause-fits c =
    c.force.ensures.fits c.args.arena.now c.requires.fits
    (c.view-literals.result.now, c.view-literals.ensures.named, omega (arith, c.if-literals-lt2.false), c.in-Forces.ensures.0)

pub returns-in-Rests-clause-visited : goal.returns-in-Rests-clause-visited
returns-in-Rests-clause-visited c =
    (refl, λ clause named two. subst (Rests (IsTrueOn c.args.self.now.entries)) (sym (c.view-literals.ensures.only clause named)) c.in-Rests.ensures)
