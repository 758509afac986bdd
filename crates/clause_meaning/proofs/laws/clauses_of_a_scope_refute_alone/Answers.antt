use Rattle.std.proofs.Common.{Contains}
use Rattle.clause_meaning.proofs.Truth.{refuted_inside}
use Rattle.clause_meaning.proofs.laws.clauses_of_a_scope_refute_alone.Goals as goal

pub returns : goal.returns
returns c S L scope separated given v satisfied r = refuted_inside scope (Contains S) (Contains L) v separated given satisfied r
