use Rattle.std.proofs.Common.{◌≡◌, ◌∙◌, length, ap, All}
use Rattle.cq_terms.specs.Conflicts.{own_facts, couples}
use Rattle.priority_graph.specs.Orders.{IsPlaced}
use Rattle.priority_graph.specs.Walks.{AreParents}
use Rattle.priority_graph.proofs.RestrictLemmas.{lists_of, better_ranks, ranks_acyclic, indexes_of, parents_closed, cycle_ranks}
use Rattle.priority_graph.proofs.better.restrict.Goals as goal

pub place_facts-requires-clause-lists : goal.place_facts-requires-clause-lists
place_facts-requires-clause-lists c =
    rw c.facts.ensures.exact (lists_of c.args.pairs.now c.args.conflicts.now c.in_ok-lists.lists.worse c.in_ok-lists.lists.blockers c.requires.named
    c.in_ok-lists.ensures.exact)

pub parents-requires-clause-lists : goal.parents-requires-clause-lists
parents-requires-clause-lists c =
    let placed : IsPlaced c.args.conflicts.now.facts c.in_ok-lists.lists.worse c.in_ok-placed.placed.order.items c.in_ok-placed.placed.counts.items =
    rw c.facts.ensures.exact at c.in_ok-placed.ensures.exact in
    let size : length c.as_slice-in-Some.result.now ≡ c.args.conflicts.now.facts = ap length c.as_slice-in-Some.ensures.value ∙ placed.waiting.all in
    rw size (lists_of c.args.pairs.now c.args.conflicts.now c.in_ok-lists.lists.worse c.in_ok-lists.lists.blockers c.requires.named c.in_ok-lists.ensures.exact)

pub cycle_from-requires-clause-closed : goal.cycle_from-requires-clause-closed
cycle_from-requires-clause-closed c =
    let placed : IsPlaced c.args.conflicts.now.facts c.in_ok-lists.lists.worse c.in_ok-placed.placed.order.items c.in_ok-placed.placed.counts.items =
    rw c.facts.ensures.exact at c.in_ok-placed.ensures.exact in
    let found : AreParents c.in_ok-lists.lists.worse c.in_ok-placed.placed.counts.items c.in_ok-parents.parents.items =
    rw c.as_slice-in-Some.ensures.value at c.in_ok-parents.ensures.exact in
    parents_closed c.args.pairs.now c.args.conflicts.now c.in_ok-lists.lists.worse c.in_ok-lists.lists.blockers c.requires.named c.in_ok-lists.ensures.exact
    c.in_ok-placed.placed.order.items c.in_ok-placed.placed.counts.items placed c.in_ok-parents.parents.items found

pub returns-in-Some-clause-cycle : goal.returns-in-Some-clause-cycle
returns-in-Some-clause-cycle c =
    let placed : IsPlaced c.args.conflicts.now.facts c.in_ok-lists.lists.worse c.in_ok-placed.placed.order.items c.in_ok-placed.placed.counts.items =
    rw c.facts.ensures.exact at c.in_ok-placed.ensures.exact in
    let found : AreParents c.in_ok-lists.lists.worse c.in_ok-placed.placed.counts.items c.in_ok-parents.parents.items =
    rw c.as_slice-in-Some.ensures.value at c.in_ok-parents.ensures.exact in
    cycle_ranks c.args.pairs.now c.args.conflicts.now c.in_ok-lists.lists.worse c.in_ok-lists.lists.blockers c.requires.named c.in_ok-lists.ensures.exact
    c.in_ok-placed.placed.order.items c.in_ok-placed.placed.counts.items placed c.in_ok-parents.parents.items found c.in_ok-facts.facts
    c.in_ok-facts.ensures.exact

pub invariant_of-result : goal.invariant_of-result
invariant_of-result c =
    let placed : IsPlaced c.args.conflicts.now.facts c.in_ok-lists.lists.worse c.in_ok-placed.placed.order.items c.in_ok-placed.placed.counts.items =
    rw c.facts.ensures.exact at c.in_ok-placed.ensures.exact in
    let none : All (λ n. n ≡ 0) c.in_ok-placed.placed.counts.items = rw c.as_slice.ensures.value at c.in_default.ensures.exact in
    let own : c.in_ok-clashes.clashes.own.items ≡ own_facts c.args.conflicts.now.clashes = c.in_ok-clashes.ensures.own ∙ ap own_facts c.clashes.ensures.lent in
    let pairs : c.in_ok-clashes.clashes.couples.items ≡ couples c.args.conflicts.now.clashes =
    c.in_ok-clashes.ensures.couples ∙ ap couples c.clashes.ensures.lent in
    rw (c.facts-2.ensures.exact, own, pairs)
    (indexes_of c.args.pairs.now c.args.conflicts.now c.in_ok-lists.lists.worse c.in_ok-lists.lists.blockers c.requires.named c.in_ok-lists.ensures.exact
    c.in_ok-placed.placed.order.items c.in_ok-placed.placed.counts.items placed none c.facts.ensures.kept)

pub returns-clause-exact : goal.returns-clause-exact
returns-clause-exact c = better_ranks c.args.pairs.now c.args.conflicts.now c.in_ok-lists.lists.worse c.in_ok-lists.lists.blockers c.requires.named
    c.in_ok-lists.ensures.exact

pub returns-clause-acyclic : goal.returns-clause-acyclic
returns-clause-acyclic c =
    let placed : IsPlaced c.args.conflicts.now.facts c.in_ok-lists.lists.worse c.in_ok-placed.placed.order.items c.in_ok-placed.placed.counts.items =
    rw c.facts.ensures.exact at c.in_ok-placed.ensures.exact in
    let none : All (λ n. n ≡ 0) c.in_ok-placed.placed.counts.items = rw c.as_slice.ensures.value at c.in_default.ensures.exact in
    ranks_acyclic c.args.pairs.now c.args.conflicts.now c.in_ok-lists.lists.worse c.in_ok-lists.lists.blockers c.requires.named c.in_ok-lists.ensures.exact
    c.in_ok-placed.placed.order.items c.in_ok-placed.placed.counts.items placed none
