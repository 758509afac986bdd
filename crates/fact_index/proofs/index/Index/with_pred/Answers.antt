use Rattle.fact_index.proofs.index.Index.with_pred.Goals as goal

pub returns-in-Concept : goal.returns-in-Concept
returns-in-Concept c = rw c.in-Concept.is (record { lent = c.at.ensures.lent })

pub returns-in-Link : goal.returns-in-Link
returns-in-Link c = rw c.in-Link.is (record { lent = c.at-in-Link.ensures.lent })
