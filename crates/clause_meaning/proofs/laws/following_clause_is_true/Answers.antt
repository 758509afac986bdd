use Rattle.std.proofs.Common.{Contains}
use Rattle.clause_meaning.proofs.Truth.{following_is_true}
use Rattle.clause_meaning.proofs.laws.following_clause_is_true.Goals as goal

pub returns : goal.returns
returns c S clause f v s = following_is_true (Contains S) clause f v s
