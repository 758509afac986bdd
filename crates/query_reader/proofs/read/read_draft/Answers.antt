use Rattle.std.proofs.Common.{refl}
use Rattle.query_reader.proofs.QueryLemmas.{draft_is}
use Rattle.query_reader.proofs.read.read_draft.Goals as goal

pub returns-clause-found : goal.returns-clause-found
returns-clause-found c = draft_is _ _ _ _ _ _ _ _ c.in_ok-head.ensures.found c.in_ok-body.ensures.found c.in_ok-body.ensures.kept refl refl
