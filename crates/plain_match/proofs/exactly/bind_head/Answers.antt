use Rattle.plain_match.proofs.HeadLemmas.{head_is_longer, head_more, head_stops, head_all}
use Rattle.plain_match.proofs.exactly.bind_head.Goals as goal

pub returns-then-head-tuple : goal.returns-then-head-tuple
returns-then-head-tuple c = record { exact = head_is_longer c.args.head.now c.args.tuple.now c.args.bindings.now.items c.if-head-tuple.true }

pub returns-then-not-branch : goal.returns-then-not-branch
returns-then-not-branch c =
    let right = rw c.if-not-branch.true at c.in_ok-bind_term.ensures.exact in
    record {
      exact = head_stops c.args.head.now c.args.tuple.now c.args.bindings.now.items c.loop-place.place _ _ _ c.loop-place.bindings.items
          c.bind_term.new.bindings.items c.loop-place-test.true c.if-head-tuple.false c.loop-place.invariant right;
    }

pub loop-place-preserved : goal.loop-place-preserved
loop-place-preserved c =
    let right = rw c.if-not-branch.false at c.in_ok-bind_term.ensures.exact in
    head_more c.args.head.now c.args.tuple.now c.args.bindings.now.items c.loop-place.place _ _ _ c.loop-place.bindings.items c.bind_term.new.bindings.items
    c.loop-place-test.true c.if-head-tuple.false c.loop-place.invariant right

pub returns : goal.returns
returns c = record {
  exact = head_all c.args.head.now c.args.tuple.now c.args.bindings.now.items c.loop-place.place c.loop-place.bindings.items _
      c.loop-place-test.false c.if-head-tuple.false c.loop-place.invariant;
}
