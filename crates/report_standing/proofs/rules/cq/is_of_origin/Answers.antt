use Rattle.report_standing.proofs.rules.cq.is_of_origin.Goals as goal

pub returns-in-Query : goal.returns-in-Query
returns-in-Query c = record { exact = λ names. rw c.in-Query.is (rw c.ends.ensures.exact at c.is_of_query.ensures.exact) }

pub returns-in-Negative : goal.returns-in-Negative
returns-in-Negative c = record { exact = λ names. rw c.in-Negative.is (rw c.axioms.ensures.lent at c.is_of_axiom.ensures.exact) }
