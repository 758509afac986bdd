use Rattle.priority_graph.proofs.better.Better.over.Goals as goal

pub returns : goal.returns
returns c =
    let worse = c.worse.ensures.exact c.args.lower in
    record { exact = ((λ t. worse.0 (c.has_sorted.ensures.exact.0 t)), (λ b. c.has_sorted.ensures.exact.1 (worse.1 b))) }
