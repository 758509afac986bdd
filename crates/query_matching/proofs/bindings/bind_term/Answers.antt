use Rattle.query_matching.proofs.bindings.bind_term.Goals as goal

pub returns-in-Var : goal.returns-in-Var
returns-in-Var c = rw c.in-Var.is (record { exact = c.bind_variable.ensures.exact })
