use Rattle.std.proofs.Common.{Contains}
use Rattle.report_laws.proofs.FreeFacts.{may_be_learned}
use Rattle.report_laws.proofs.scope_laws.open_literals_may_be_learned.Goals as goal

pub returns : goal.returns
returns c kb mode a facts clause clauses causes w inside absent_only units opened =
    may_be_learned kb mode a facts clause (Contains clauses) causes w inside absent_only units opened
