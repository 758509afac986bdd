use Rattle.query_reader.proofs.LawLemmas.{reading_is_one, fault_is_one}
use Rattle.query_reader.proofs.law.laws_of_the_grammar.Goals as goal

pub returns-clause-reading : goal.returns-clause-reading
returns-clause-reading c = reading_is_one

pub returns-clause-fault : goal.returns-clause-fault
returns-clause-fault c = fault_is_one
