use Rattle.std.proofs.Common.{◌≡◌, ◌∙◌, Some, slice_get, sym, ap}
use Rattle.cq_terms.specs.declared.hits.Hit.{Hit}
use Rattle.conflict_finder.proofs.Turns.{pair_kept, pair_found, pair_all, item_at}
use Rattle.conflict_finder.proofs.images.pairs_of.Goals as goal
use Rattle.conflict_finder.proofs.images.pairs_of.Goals.{in-Some+in_ok-push, in_default}

pub loop-hit-preserved : goal.loop-hit-preserved
loop-hit-preserved c =
    let hits = c.args.hits.now in
    let n = c.loop-hit.hit-index in
    let h : Hit = c.hit-item.result in
    let at : slice_get hits n ≡ Some h = item_at hits n h c.loop-hit-test.true ∙ ap Some (sym c.hit-item.is) in
    elim c.match-key_of.branch [
      | in-Some+in_ok-push w ↦ rw w.keys-is (rw w.in_ok-push.ensures.items
          (pair_found hits c.args.numbers.now n h at c.loop-hit.keys.items c.loop-hit.invariant w.in-Some.key w.in-Some.ensures.found))
      | in_default w ↦ rw w.keys-is (pair_kept hits c.args.numbers.now n h at c.loop-hit.keys.items c.loop-hit.invariant w.in_default.ensures.none)
    ]

pub returns : goal.returns
returns c = record { exact = pair_all c.args.hits.now c.args.numbers.now c.loop-hit.hit-index c.loop-hit-test.false c.loop-hit.keys.items c.loop-hit.invariant }
