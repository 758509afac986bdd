use Rattle.std.proofs.Common.{◌≡◌, ◌<◌, ◌≤◌, ◌∙◌, List, Bool, length, ap, arith}
use Rattle.std.proofs.lemmas.List.{length-replicate}
use Rattle.std.proofs.lemmas.Result.{IfOk-weaker}
use Rattle.repair_encoder.proofs.WalkLemmas.{walked_begun, walked_more, walked_few, walked_component, component_closed, component_known}
use Rattle.repair_encoder.proofs.reached.component.Goals as goal

pub loop-next-init : goal.loop-next-init
loop-next-init c =
    let blank : length c.in_ok-unmarked.field-0.items ≡ c.args.conflicts.now.facts =
    ap (λ (xs : List Bool). length xs) c.in_ok-unmarked.ensures.exact ∙ length-replicate _ _ ∙ c.facts.ensures.exact in
    walked_begun c.args.conflicts.now c.args.fact _ _ c.in_ok-see.ensures.kept (c.in_ok-see.ensures.marks ∙ blank)
    (rw c.new.ensures.items at c.in_ok-see.ensures.exact)

pub loop-next-smaller : goal.loop-next-smaller
loop-next-smaller c =
    let few : length c.loop-next.walk.reached.items ≤ c.args.conflicts.now.facts = walked_few _ _ _ _ _ c.loop-next.invariant in
    omega (arith, few, c.loop-next-test.true, c.len.ensures)

pub loop-next-preserved : goal.loop-next-preserved
loop-next-preserved c =
    let inside : c.loop-next.next < length c.loop-next.walk.reached.items = omega (arith, c.loop-next-test.true, c.len.ensures) in
    walked_more c.args.conflicts.now c.args.fact c.loop-next.next _ _ _ _ c.of.result.now c.loop-next.invariant inside (rw c.at.ensures at c.of.ensures.exact)
    c.in_ok-visit.ensures.kept c.in_ok-visit.ensures.marks c.in_ok-visit.ensures.exact

pub returns : goal.returns
returns c =
    let ended : length c.loop-next.walk.reached.items ≤ c.loop-next.next = omega (arith, c.loop-next-test.false, c.len.ensures) in
    record {
      exact = IfOk-weaker _ _ _ (λ facts h. walked_component _ _ _ _ _ c.loop-next.invariant ended facts (rw c.as_slice.ensures.value at h))
          c.sorted.ensures.exact;
      closed = IfOk-weaker _ _ _ (λ facts h. component_closed _ _ _ _ _ c.loop-next.invariant ended facts (rw c.as_slice.ensures.value at h))
          c.sorted.ensures.exact;
      known = IfOk-weaker _ _ _ (λ facts h. component_known _ _ _ _ _ c.loop-next.invariant ended facts (rw c.as_slice.ensures.value at h))
          c.sorted.ensures.exact;
    }
