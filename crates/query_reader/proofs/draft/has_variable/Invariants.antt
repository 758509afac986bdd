use Rattle.std.proofs.Common.{ℕ, ◌<◌, get_or}
use Rattle.cq_terms.specs.Query.{StandsIn}
use Rattle.cq_terms.specs.declared.query.QAtom.{QAtom}
use Rattle.query_reader.proofs.draft.has_variable.Given as goal

abbrev pub invariant-loop-atom : goal.invariant-loop-atom
invariant-loop-atom l = (k : ℕ) (atom : QAtom) → k < l.atom-index → ¬ (StandsIn l.number (get_or l.body k atom))
