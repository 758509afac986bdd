-- A line that is an axiom has more bytes than names.
use Rattle.axiom_reader.proofs.ReadingLemmas.{Grows-line}
use Rattle.axiom_reader.proofs.read.take_line.Goals as goal

pub returns-in_err-axiom-clause-grown : goal.returns-in_err-axiom-clause-grown
returns-in_err-axiom-clause-grown c = Grows-line _ _ _ _ c.in-Axiom.ensures.exact c.put_axiom.ensures.grown

pub returns-in_err-push-clause-grown : goal.returns-in_err-push-clause-grown
returns-in_err-push-clause-grown c = Grows-line _ _ _ _ c.in-Axiom.ensures.exact c.put_axiom.ensures.grown

pub returns-clause-grown : goal.returns-clause-grown
returns-clause-grown c = Grows-line _ _ _ _ c.in-Axiom.ensures.exact c.put_axiom.ensures.grown
