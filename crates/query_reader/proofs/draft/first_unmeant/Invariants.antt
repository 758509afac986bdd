use Rattle.std.proofs.Common.{length}
use Rattle.query_reader.proofs.DraftLemmas.{IsMeantUpTo}
use Rattle.query_reader.proofs.draft.first_unmeant.Given as goal

abbrev pub invariant-loop-term : goal.invariant-loop-term
invariant-loop-term l = IsMeantUpTo l.body l.head l.rest l.place

abbrev pub decreases-loop-term : goal.decreases-loop-term
decreases-loop-term l = length l.rest
