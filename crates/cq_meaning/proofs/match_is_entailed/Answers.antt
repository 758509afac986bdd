use Rattle.std.proofs.Common.{Contains}
use Rattle.cq_meaning.proofs.Exact.{rewriting_sound}
use Rattle.cq_meaning.proofs.match_is_entailed.Goals as goal

pub returns : goal.returns
returns c axioms q member m facts tuple image h = rewriting_sound axioms (Contains facts) q member tuple image m h
