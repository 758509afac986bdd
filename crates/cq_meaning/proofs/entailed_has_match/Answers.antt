use Rattle.std.proofs.Common.{Contains}
use Rattle.cq_meaning.proofs.Exact.{rewriting_complete}
use Rattle.cq_meaning.proofs.entailed_has_match.Goals as goal

pub returns : goal.returns
returns c axioms q facts tuple e = rewriting_complete axioms (Contains facts) q tuple e
