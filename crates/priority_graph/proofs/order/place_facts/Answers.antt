use Rattle.std.proofs.Common.{ℕ, List, ◌<◌, ◌≡◌, ◌∙◌, ap, arith, get_or, [], length, subst, eqb, ◌++◌}
use Rattle.std.specs.List.{filter}
use Rattle.std.proofs.lemmas.List.{get_or_read}
use Rattle.priority_graph.specs.Orders.{AddsEach}
use Rattle.priority_graph.proofs.OrderLemmas.{placing_none, some_left, placing_more, next_inside}
use Rattle.priority_graph.proofs.order.place_facts.Goals as goal

pub loop-next-init : goal.loop-next-init
loop-next-init c =
    placing_none c.args.facts c.args.lists.now c.in_ok-order.order.items c.as_mut_slice-counts.result.now
    (rw c.as_mut_slice-counts.ensures.value c.in_ok-missing.ensures.exact) c.in_ok-order.ensures.exact

pub release-requires-clause-some : goal.release-requires-clause-some
release-requires-clause-some c =
    let within : c.loop-next.next < length c.loop-next.order.items = omega arith in
    let is : c.index.result.now ≡ get_or c.loop-next.order.items c.loop-next.next 0 =
    get_or_read c.loop-next.order.items c.loop-next.next c.index.result.now within c.index.ensures 0 in
    let list : c.list.result.now ≡ get_or c.args.lists.now (get_or c.loop-next.order.items c.loop-next.next 0) [] =
    c.list.ensures.lent ∙ ap (λ (n : ℕ). get_or c.args.lists.now n []) is in
    rw list (some_left c.args.facts c.args.lists.now c.loop-next.order.items c.loop-next.counts c.loop-next.next c.requires.lists c.loop-next.invariant within)

pub loop-next-smaller : goal.loop-next-smaller
loop-next-smaller c =
    let within : c.loop-next.next < length c.loop-next.order.items = omega arith in
    omega (
      arith,
      next_inside c.args.facts c.args.lists.now c.loop-next.order.items c.loop-next.counts c.loop-next.next c.requires.lists c.loop-next.invariant
          within,
    )

pub loop-next-preserved : goal.loop-next-preserved
loop-next-preserved c =
    let within : c.loop-next.next < length c.loop-next.order.items = omega arith in
    let is : c.index.result.now ≡ get_or c.loop-next.order.items c.loop-next.next 0 =
    get_or_read c.loop-next.order.items c.loop-next.next c.index.result.now within c.index.ensures 0 in
    let list : c.list.result.now ≡ get_or c.args.lists.now (get_or c.loop-next.order.items c.loop-next.next 0) [] =
    c.list.ensures.lent ∙ ap (λ (n : ℕ). get_or c.args.lists.now n []) is in
    let adds : AddsEach c.release.new.counts c.loop-next.counts (get_or c.args.lists.now (get_or c.loop-next.order.items c.loop-next.next 0) []) =
    subst (AddsEach c.release.new.counts c.loop-next.counts) list c.in_ok-release.ensures.counts in
    let grown : c.release.new.order.items ≡ c.loop-next.order.items
    ++ filter (λ i. eqb (get_or c.loop-next.counts i 0) 1) (get_or c.args.lists.now (get_or c.loop-next.order.items c.loop-next.next 0) []) =
    c.in_ok-release.ensures.order ∙ ap (λ (xs : List ℕ). c.loop-next.order.items ++ filter (λ i. eqb (get_or c.loop-next.counts i 0) 1) xs) list in
    rw grown (placing_more c.args.facts c.args.lists.now c.loop-next.order.items c.loop-next.counts c.loop-next.next c.requires.lists c.loop-next.invariant
    within c.release.new.counts adds)
