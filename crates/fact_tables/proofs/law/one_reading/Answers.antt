use Rattle.fact_tables.proofs.FactFaults as facts
use Rattle.fact_tables.proofs.FirstFaults as first
use Rattle.fact_tables.proofs.PairFaults as pairs
use Rattle.fact_tables.proofs.law.one_reading.Goals as goal

pub returns-clause-facts : goal.returns-clause-facts
returns-clause-facts c = first.one_reading _ _ _ _ facts.wrong facts.same

pub returns-clause-pairs : goal.returns-clause-pairs
returns-clause-pairs c = λ records. first.one_reading _ _ _ _ (pairs.wrong records) (pairs.same records)
