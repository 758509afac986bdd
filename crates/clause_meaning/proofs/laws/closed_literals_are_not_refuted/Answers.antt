use Rattle.std.proofs.Common.{Contains}
use Rattle.clause_meaning.proofs.Chains.{closed_not_refuted}
use Rattle.clause_meaning.proofs.laws.closed_literals_are_not_refuted.Goals as goal

pub returns : goal.returns
returns c S L Known closed within r = closed_not_refuted (Contains S) (Contains L) (Contains Known) closed within r
