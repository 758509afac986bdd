use Rattle.priority_graph.proofs.CountLemmas.{zeros_yes, zeros_no}
use Rattle.priority_graph.proofs.order.places_of_zero.Goals as goal
use Rattle.priority_graph.proofs.order.places_of_zero.Goals.{then-count-eq0+in_ok-push, else-count-eq0}

pub loop-place-preserved : goal.loop-place-preserved
loop-place-preserved c = elim c.if-count-eq0.branch [
  | then-count-eq0+in_ok-push w ↦ rw (w.places-is, w.in_ok-push.ensures.items)
      (zeros_yes c.args.counts.now c.loop-place.places.items c.loop-place.place c.loop-place-test.true c.loop-place.invariant w.if-count-eq0.true)
  | else-count-eq0 w ↦ rw w.places-is (zeros_no c.args.counts.now c.loop-place.places.items c.loop-place.place c.loop-place-test.true c.loop-place.invariant
      w.if-count-eq0.false)
]
