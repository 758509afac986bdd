use Rattle.std.proofs.Common.{ℕ, List, ◌++◌, ◌∷◌, [], ◌∙◌, ap, sym, arith, take, eqb, get_or}
use Rattle.std.specs.List.{filter}
use Rattle.std.proofs.lemmas.List.{append_assoc}
use Rattle.priority_graph.proofs.CountLemmas.{takes_some, takes_more, released_yes, released_no}
use Rattle.priority_graph.proofs.order.release.Goals as goal
use Rattle.priority_graph.proofs.order.release.Goals.{then-counts-place-eq0+in_ok-push, else-counts-place-eq0}

pub overflow_sub-counts : goal.overflow_sub-counts
overflow_sub-counts c =
    let left = takes_some c.args.list.now c.loop-fact.fact-index c.requires.ascending c.loop-fact-test.true c.args.counts.now c.loop-fact.counts
    c.loop-fact.invariant.counts c.requires.inside in
    let some = c.requires.some c.loop-fact.fact-index 0 c.loop-fact-test.true in
    omega (arith, left, some)

pub loop-fact-preserved : goal.loop-fact-preserved
loop-fact-preserved c =
    let some = c.requires.some c.loop-fact.fact-index 0 c.loop-fact-test.true in
    record {
      counts = takes_more c.args.list.now c.loop-fact.fact-index c.requires.ascending c.loop-fact-test.true c.args.counts.now c.loop-fact.counts
          c.loop-fact.invariant.counts c.requires.inside some;
      order = elim c.if-counts-place-eq0.branch [
        | then-counts-place-eq0+in_ok-push w ↦ rw (w.order-is, w.in_ok-push.ensures.items)
            (ap (λ (xs : List ℕ). xs ++ get_or c.args.list.now c.loop-fact.fact-index 0 ∷ []) c.loop-fact.invariant.order
            ∙ append_assoc c.args.order.now.items (filter (λ i. eqb (get_or c.args.counts.now i 0) 1) (take c.loop-fact.fact-index c.args.list.now))
            (get_or c.args.list.now c.loop-fact.fact-index 0 ∷ [])
            ∙ ap (λ (xs : List ℕ). c.args.order.now.items ++ xs) (sym (released_yes c.args.list.now c.loop-fact.fact-index c.requires.ascending
            c.loop-fact-test.true c.args.counts.now c.loop-fact.counts c.loop-fact.invariant.counts c.requires.inside some w.if-counts-place-eq0.true)))
        | else-counts-place-eq0 w ↦ rw w.order-is (c.loop-fact.invariant.order
            ∙ ap (λ (xs : List ℕ). c.args.order.now.items ++ xs) (sym (released_no c.args.list.now c.loop-fact.fact-index c.requires.ascending
            c.loop-fact-test.true c.args.counts.now c.loop-fact.counts c.loop-fact.invariant.counts c.requires.inside some w.if-counts-place-eq0.false)))
      ];
    }
