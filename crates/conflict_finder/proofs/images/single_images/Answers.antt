use Rattle.std.proofs.Common.{◌<◌, sym, length}
use Rattle.conflict_finder.proofs.Joins.{alone_in_whole, alone_in_part}
use Rattle.conflict_finder.proofs.Turns.{single_kept, single_found, single_all, item_at}
use Rattle.conflict_finder.proofs.images.single_images.Goals as goal
use Rattle.conflict_finder.proofs.images.single_images.Goals.{then-branch+in_ok-push, else-branch}

pub loop-number-preserved : goal.loop-number-preserved
loop-number-preserved c =
    let facts = c.args.index.now in
    let items = c.candidates-number-items.result.now in
    let i = c.loop-number.number-index in
    elim c.if-branch.branch [
      | then-branch+in_ok-push w ↦ rw w.keys-is (rw w.in_ok-push.ensures.items
          (single_found facts c.args.query.now items i _ (item_at items i _ c.loop-number-test.true) c.loop-number.keys.items c.loop-number.invariant
          (alone_in_whole facts c.distinct.ensures.exact c.args.query.now _ c.fact.result c.fact.ensures.exact
          (c.in_ok-matches_alone.ensures.exact.0 w.if-branch.true))))
      | else-branch w ↦ rw w.keys-is (single_kept facts c.args.query.now items i _ (item_at items i _ c.loop-number-test.true) c.loop-number.keys.items
          c.loop-number.invariant
          (λ h. let yes' = c.in_ok-matches_alone.ensures.exact.1 (alone_in_part facts c.distinct.ensures.exact c.args.query.now _ c.fact.result
          c.fact.ensures.exact h) in let no' = w.if-branch.false in absurd (cc)))
    ]

pub returns : goal.returns
returns c = record {
  exact = single_all c.args.index.now c.args.query.now c.candidates-number-items.result.now c.loop-number.number-index c.loop-number-test.false
      (λ n h. let some : 0 < length c.body.result.now = rw c.body.ensures.lent c.requires.short.1 in
      c.candidates-number-items.ensures.complete c.args.query.now n (sym c.body.ensures.lent) some h)
      c.loop-number.keys.items c.loop-number.invariant;
}
