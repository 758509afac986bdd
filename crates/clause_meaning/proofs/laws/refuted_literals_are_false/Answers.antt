use Rattle.std.proofs.Common.{Contains}
use Rattle.clause_meaning.proofs.Truth.{refuted_is_false}
use Rattle.clause_meaning.proofs.laws.refuted_literals_are_false.Goals as goal

pub returns : goal.returns
returns c S L r v s t = refuted_is_false (Contains S) (Contains L) r v s t
