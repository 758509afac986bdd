use Rattle.report_parts.proofs.moves.is_result.Goals as goal

pub returns-in-Axiom : goal.returns-in-Axiom
returns-in-Axiom c = record { exact = rw c.in-Axiom.is c.is_applied.ensures.exact }

pub returns-in-Reduce : goal.returns-in-Reduce
returns-in-Reduce c = record { exact = rw c.in-Reduce.is c.is_reduced.ensures.exact }
