use Rattle.std.proofs.Common.{Contains}
use Rattle.report_laws.proofs.FreeFacts.{open_conflicts}
use Rattle.report_laws.proofs.scope_laws.open_facts_conflict.Goals as goal

pub returns : goal.returns
returns c kb mode clauses l below units opened = open_conflicts kb mode (Contains clauses) l below units opened.0 opened.1
