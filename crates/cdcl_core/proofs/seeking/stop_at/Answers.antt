use Rattle.std.proofs.Common.{◌≡◌, Contains, subst, arith}
use Rattle.clause_learning.specs.Searching.{AreAssumed}
use Rattle.clause_learning.proofs.Refuting.{falsified_refutes}
use Rattle.cdcl_core.proofs.seeking.stop_at.Goals as goal

pub returns-then-level-assumed : goal.returns-then-level-assumed
returns-then-level-assumed c =
    let s = c.requires.seeks in
    let trail = c.args.trail.now in
    let top : c.args.assumed ≡ trail.level = omega (arith, c.if-level-assumed.true, c.level.ensures.exact, s.reached) in
    falsified_refutes trail c.args.arena.now (Contains c.args.assume.now) c.args.clause s.searching
    (subst (AreAssumed (Contains c.args.assume.now) trail.entries) top s.given) c.requires.falsified
