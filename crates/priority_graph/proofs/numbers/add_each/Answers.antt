use Rattle.priority_graph.proofs.CountLemmas.{adds_more}
use Rattle.priority_graph.proofs.numbers.add_each.Goals as goal

pub loop-place-preserved : goal.loop-place-preserved
loop-place-preserved c =
    adds_more c.args.places.now c.loop-place.place-index c.requires.ascending c.loop-place-test.true c.args.numbers.now.items c.loop-place.numbers.items
    c.index_mut.result.now
    c.loop-place.invariant c.requires.inside c.index_mut.ensures.value
