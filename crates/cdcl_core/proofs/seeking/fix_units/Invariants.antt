use Rattle.cdcl_trail.proofs.Passes.{left_of}
use Rattle.cdcl_core.proofs.Units.{UnitsHold}
use Rattle.cdcl_core.proofs.seeking.fix_units.Given as goal

abbrev pub invariant-loop-at : goal.invariant-loop-at
invariant-loop-at l = UnitsHold l.fn.trail l.trail l.arena l.at

abbrev pub decreases-loop-at : goal.decreases-loop-at
decreases-loop-at l = left_of l.at
