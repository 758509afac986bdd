use Rattle.std.proofs.Common.{Contains}
use Rattle.clause_meaning.proofs.Chains.{Refutes-more}
use Rattle.clause_meaning.proofs.laws.more_refutes_more.Goals as goal

pub returns : goal.returns
returns c S T L M s m r = Refutes-more (Contains S) (Contains T) (Contains L) (Contains M) s m r
