use Rattle.plain_finding.proofs.InsertLemmas.{ascending_searched}
use Rattle.plain_finding.proofs.base.place_of.Goals as goal

pub returns-in-Err-clause-ascending : goal.returns-in-Err-clause-ascending
returns-in-Err-clause-ascending c = ascending_searched c.args.list.now c.in-Err.place c.args.number c.requires.ascending c.in-Err.ensures.position
