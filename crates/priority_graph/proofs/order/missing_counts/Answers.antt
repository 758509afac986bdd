use Rattle.std.proofs.Common.{◌<◌, ◌^◌, ◌&&◌, not, arith, [], get_or}
use Rattle.priority_graph.specs.Split.{has}
use Rattle.std.proofs.lemmas.List.Elements.{All-from_get_or}
use Rattle.priority_graph.proofs.CountLemmas.{count_le}
use Rattle.priority_graph.proofs.order.missing_counts.Goals as goal

pub add_each-requires-clause-fits : goal.add_each-requires-clause-fits
add_each-requires-clause-fits c =
    All-from_get_or (λ n. n < 2 ^ 31) c.loop-fact.counts.items 0 (λ i l.
    let is = c.loop-fact.invariant.exact i (omega (arith, c.loop-fact.invariant.all)) in
    let most = count_le (λ u. has (get_or c.args.lists.now u []) i && not (has [] u)) c.loop-fact.fact in
    omega (arith, is, most, c.requires.few))
