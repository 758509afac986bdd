use Rattle.clause_meaning.proofs.Resting.{Rests-two_free}
use Rattle.cdcl_trail.specs.Assigned.{IsTrueOn}
use Rattle.cdcl_trail.proofs.looks.look_at.Goals as goal

pub returns-in-Several : goal.returns-in-Several
returns-in-Several c = Rests-two_free (IsTrueOn c.args.assigned.now.entries) c.args.clause.now c.in-Several.ensures
