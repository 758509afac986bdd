use Rattle.std.proofs.Common.{ℕ, List, ◌≡◌, ◌<◌, ◌∙◌, ◌-◌, arith, length, get_or, take, drop, ap, subst, sym, Contains}
use Rattle.std.proofs.lemmas.List.{get_or_read, length_push, take_rest}
use Rattle.std.proofs.lemmas.Result.{IfOk-weaker}
use Rattle.priority_graph.specs.Relations.{IsCycle}
use Rattle.priority_graph.specs.Walks.{IsParent, IsTurned}
use Rattle.priority_graph.proofs.CycleLemmas.{not_on_walk, walk_short, walk_more, walk_closes, turned_is_cycle, new_past, new_other}
use Rattle.priority_graph.proofs.cycle.Unplaced.cycle_from.Goals as goal
use Rattle.priority_graph.proofs.cycle.Unplaced.cycle_from.Goals.{else-place-len-via-then-place-len+else-index-fact, else-place-len-via-else-place-len}

pub returns-then-index-fact : goal.returns-then-index-fact
returns-then-index-fact c =
    let within : c.index.result.now < length c.path.path.items = omega arith in
    let here : get_or c.path.path.items c.index.result.now 0 ≡ c.path.fact =
    sym (get_or_read c.path.path.items c.index.result.now c.index-then-place-len.result.now within c.index-then-place-len.ensures 0) ∙ c.if-index-fact.true in
    let closes = walk_closes c.args.self.now.counts.items c.args.self.now.parents.items c.path.path.items c.path.places.items c.path.fact c.index.result.now
    c.path.invariant within here in
    let walk : take (length c.as_slice.result.now - c.index.result.now) (drop c.index.result.now c.as_slice.result.now)
    ≡ drop c.index.result.now c.path.path.items =
    take_rest c.as_slice.result.now c.index.result.now ∙ ap (drop c.index.result.now) c.as_slice.ensures.value in
    record {
      exact = IfOk-weaker c.least_first.result (IsTurned (take (length c.as_slice.result.now - c.index.result.now)
          (drop c.index.result.now c.as_slice.result.now)))
          (IsCycle (IsParent c.args.self.now.counts.items c.args.self.now.parents.items))
          (λ cycle t. turned_is_cycle (λ i p. IsParent c.args.self.now.counts.items c.args.self.now.parents.items p i)
          (IsParent c.args.self.now.counts.items c.args.self.now.parents.items) (λ i j h. h)
          (drop c.index.result.now c.path.path.items) cycle closes.0 closes.1 (subst (λ (xs : List ℕ). IsTurned xs cycle) walk t))
          c.least_first.ensures.exact;
    }

pub overflow_cast-len-in-path : goal.overflow_cast-len-in-path
overflow_cast-len-in-path c =
    let inside : c.path.fact < length c.path.places.items = omega (arith, c.path.invariant.here.0, c.path.invariant.all) in
    let absent : ¬ Contains c.path.path.items c.path.fact =
    not_on_walk c.args.self.now.counts.items c.args.self.now.parents.items c.path.path.items c.path.places.items c.path.fact c.path.invariant
    (elim c.else-place-len.branch [
      | else-place-len-via-then-place-len+else-index-fact w ↦ new_other c.path.path.items c.path.places.items c.path.fact c.index.result.now
          w.index-then-place-len.result.now inside c.index.ensures (omega (arith, w.if-place-len.true)) w.index-then-place-len.ensures w.if-index-fact.false
      | else-place-len-via-else-place-len w ↦ new_past c.path.path.items c.path.places.items c.path.fact c.index.result.now inside c.index.ensures
          (omega (arith, w.if-place-len.false))
    ]) in
    let short = walk_short c.args.self.now.counts.items c.args.self.now.parents.items c.path.path.items c.path.places.items c.path.fact c.path.invariant
    absent in
    omega (arith, short, c.requires.few)

pub path-smaller : goal.path-smaller
path-smaller c =
    let inside : c.path.fact < length c.path.places.items = omega (arith, c.path.invariant.here.0, c.path.invariant.all) in
    let absent : ¬ Contains c.path.path.items c.path.fact =
    not_on_walk c.args.self.now.counts.items c.args.self.now.parents.items c.path.path.items c.path.places.items c.path.fact c.path.invariant
    (elim c.else-place-len.branch [
      | else-place-len-via-then-place-len+else-index-fact w ↦ new_other c.path.path.items c.path.places.items c.path.fact c.index.result.now
          w.index-then-place-len.result.now inside c.index.ensures (omega (arith, w.if-place-len.true)) w.index-then-place-len.ensures w.if-index-fact.false
      | else-place-len-via-else-place-len w ↦ new_past c.path.path.items c.path.places.items c.path.fact c.index.result.now inside c.index.ensures
          (omega (arith, w.if-place-len.false))
    ]) in
    let short = walk_short c.args.self.now.counts.items c.args.self.now.parents.items c.path.path.items c.path.places.items c.path.fact c.path.invariant
    absent in
    omega (arith, short, ap length c.in_ok-push.ensures.items, length_push c.path.path.items c.path.fact)

pub path-preserved : goal.path-preserved
path-preserved c =
    let inside : c.path.fact < length c.path.places.items = omega (arith, c.path.invariant.here.0, c.path.invariant.all) in
    let absent : ¬ Contains c.path.path.items c.path.fact =
    not_on_walk c.args.self.now.counts.items c.args.self.now.parents.items c.path.path.items c.path.places.items c.path.fact c.path.invariant
    (elim c.else-place-len.branch [
      | else-place-len-via-then-place-len+else-index-fact w ↦ new_other c.path.path.items c.path.places.items c.path.fact c.index.result.now
          w.index-then-place-len.result.now inside c.index.ensures (omega (arith, w.if-place-len.true)) w.index-then-place-len.ensures w.if-index-fact.false
      | else-place-len-via-else-place-len w ↦ new_past c.path.path.items c.path.places.items c.path.fact c.index.result.now inside c.index.ensures
          (omega (arith, w.if-place-len.false))
    ]) in
    let size : c.len-in-path-2.result ≡ length c.path.path.items = omega arith in
    let parent : c.index-fact.result.now ≡ get_or c.args.self.now.parents.items c.path.fact 0 =
    get_or_read c.args.self.now.parents.items c.path.fact c.index-fact.result.now (omega (arith, c.path.invariant.here.0, c.requires.all))
    c.index-fact.ensures 0 in
    rw (c.in_ok-push.ensures.items, size, parent)
    (walk_more c.args.self.now.counts.items c.args.self.now.parents.items c.path.path.items c.path.places.items c.path.fact c.path.invariant absent
    c.requires.closed)
