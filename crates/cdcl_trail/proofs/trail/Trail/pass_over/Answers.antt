use Rattle.std.proofs.Common.{Bool, Some, subst, sym}
use Rattle.cdcl_trail.specs.Assigned.{IsTrueOn}
use Rattle.cdcl_trail.specs.State.{State}
use Rattle.clause_meaning.specs.Resting.{Rests}
use Rattle.cdcl_trail.proofs.Passes.{PassHolds, PassHolds-grows, PassHolds-rests, Grows-trans}
use Rattle.cdcl_trail.proofs.trail.Trail.pass_over.Goals as goal
use Rattle.cdcl_trail.proofs.trail.Trail.pass_over.Goals.{in-Grows, in-Rests}

pub returns-in-Clashes-clause-grows : goal.returns-in-Clashes-clause-grows
returns-in-Clashes-clause-grows c = Grows-trans c.args.self.now c.loop-at.self c.visit_clause.new.self c.loop-at.invariant.grown c.in-Clashes.ensures.grows

pub loop-at-preserved : goal.loop-at-preserved
loop-at-preserved c =
    let old = c.args.self.now in
    let arena = c.args.arena.now in
    let trail = c.loop-at.self in
    let held : PassHolds old trail arena c.loop-at.grows (Some c.in-Some.clause) =
    subst (PassHolds old trail arena c.loop-at.grows) c.in-Some.is c.loop-at.invariant in
    elim c.match-visit_clause.branch [
      | in-Grows w ↦
          subst (λ (g : Bool). PassHolds old c.visit_clause.new.self arena g c.next-at.result) (sym w.grows-is)
          (PassHolds-grows old trail c.visit_clause.new.self arena c.loop-at.grows c.in-Some.clause c.next-at.result held c.next-at.ensures.found
          c.visit_clause.ensures.grows c.visit_clause.ensures.fits w.in-Grows.ensures.visited)
      | in-Rests w ↦
          let rests = w.in-Rests.ensures.visited in
          subst (λ (g : Bool). PassHolds old c.visit_clause.new.self arena g c.next-at.result) (sym w.grows-is)
          (subst (λ (s : State). PassHolds old s arena c.loop-at.grows c.next-at.result) (sym rests.0)
          (PassHolds-rests old trail arena c.loop-at.grows c.in-Some.clause c.next-at.result held c.next-at.ensures.found
          (λ clause named two. subst (λ (s : State). Rests (IsTrueOn s.entries) clause) rests.0 (rests.1 clause named two))))
    ]
