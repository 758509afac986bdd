use Rattle.std.proofs.Common.{◌<◌, ◌≤◌, ℕ, length, subst, sym, arith, Contains}
use Rattle.std.proofs.lemmas.List.Elements.{Contains-get_or}
use Rattle.priority_graph.specs.Priority.{Conflict}
use Rattle.explainer.specs.Growth.{Drops}
use Rattle.explainer.proofs.CoreLemmas.{IsAsked, none_settled, lost_known, lost_settled, growing_begun, growing_more, growing_done, next_blocked, kept_known}
use Rattle.explainer.proofs.CoreLemmas.{kept_few}
use Rattle.explainer.proofs.cores.grown.Goals as goal

pub drop_each-requires : goal.drop_each-requires
drop_each-requires c =
    let asked : IsAsked c.args.better.now c.args.conflicts.now c.args.present.now c.args.start.now c.args.drop.now =
    record {
      priority = c.linear-order.ensures.kept;
      over = c.requires.over;
      known = c.requires.known;
      inside = c.requires.inside;
      outside =
          c.requires.outside;
      satisfied = c.requires.satisfied;
    } in
    record {
      over = c.requires.over;
      ascending = c.requires.ascending;
      known = lost_known _ _ _ _ _ asked;
      present = lost_settled _ _ _ _ _ asked;
      settled = none_settled c.args.better.now _ c.in_ok-core.ensures.dropped;
    }

pub loop-next-init : goal.loop-next-init
loop-next-init c =
    let asked : IsAsked c.args.better.now c.args.conflicts.now c.args.present.now c.args.start.now c.args.drop.now =
    record {
      priority = c.linear-order.ensures.kept;
      over = c.requires.over;
      known = c.requires.known;
      inside = c.requires.inside;
      outside =
          c.requires.outside;
      satisfied = c.requires.satisfied;
    } in
    growing_begun _ _ _ _ _ asked c.in_ok-core.core _ c.in_ok-core.ensures.kept c.in_ok-core.ensures.dropped c.in_ok-drop_each.ensures.exact
    c.in_ok-drop_each.ensures.settled

pub loop-next-smaller : goal.loop-next-smaller
loop-next-smaller c =
    let asked : IsAsked c.args.better.now c.args.conflicts.now c.args.present.now c.args.start.now c.args.drop.now =
    record {
      priority = c.linear-order.ensures.kept;
      over = c.requires.over;
      known = c.requires.known;
      inside = c.requires.inside;
      outside =
          c.requires.outside;
      satisfied = c.requires.satisfied;
    } in
    let few : length c.loop-next.core.kept ≤ c.args.conflicts.now.facts = kept_few _ _ _ _ _ asked _ _ c.loop-next.invariant c.count.ensures.once in
    omega (arith, few, c.loop-next-test.true, c.count.ensures.exact)

pub drop_rivals-requires : goal.drop_rivals-requires
drop_rivals-requires c =
    let asked : IsAsked c.args.better.now c.args.conflicts.now c.args.present.now c.args.start.now c.args.drop.now =
    record {
      priority = c.linear-order.ensures.kept;
      over = c.requires.over;
      known = c.requires.known;
      inside = c.requires.inside;
      outside =
          c.requires.outside;
      satisfied = c.requires.satisfied;
    } in
    let inside : c.loop-next.next < length c.loop-next.core.kept = omega (arith, c.loop-next-test.true, c.count.ensures.exact) in
    let here : Contains c.loop-next.core.kept c.kept_at.result =
    subst (Contains c.loop-next.core.kept) (sym c.kept_at.ensures.exact) (Contains-get_or c.loop-next.core.kept c.loop-next.next 0 inside) in
    record {
      over = c.requires.over;
      ascending = c.requires.ascending;
      known = kept_known _ _ _ _ _ asked _ _ c.loop-next.invariant c.kept_at.result here;
      kept = here;
      blocked = next_blocked _ _ _ _ _ asked _ _ c.loop-next.invariant c.kept_at.result here;
      settled = c.loop-next.invariant.settled;
    }

pub loop-next-preserved : goal.loop-next-preserved
loop-next-preserved c =
    let asked : IsAsked c.args.better.now c.args.conflicts.now c.args.present.now c.args.start.now c.args.drop.now =
    record {
      priority = c.linear-order.ensures.kept;
      over = c.requires.over;
      known = c.requires.known;
      inside = c.requires.inside;
      outside =
          c.requires.outside;
      satisfied = c.requires.satisfied;
    } in
    let inside : c.loop-next.next < length c.loop-next.core.kept = omega (arith, c.loop-next-test.true, c.count.ensures.exact) in
    growing_more _ _ _ _ _ asked _ _ c.loop-next.invariant _ inside
    (subst (λ (k : ℕ). Drops c.args.better.now c.args.present.now (Conflict c.args.better.now k) c.loop-next.core c.drop_rivals.new.self)
    c.kept_at.ensures.exact c.in_ok-drop_rivals.ensures.exact)
    c.in_ok-drop_rivals.ensures.settled

pub returns : goal.returns
returns c =
    let asked : IsAsked c.args.better.now c.args.conflicts.now c.args.present.now c.args.start.now c.args.drop.now =
    record {
      priority = c.linear-order.ensures.kept;
      over = c.requires.over;
      known = c.requires.known;
      inside = c.requires.inside;
      outside =
          c.requires.outside;
      satisfied = c.requires.satisfied;
    } in
    let ended : length c.loop-next.core.kept ≤ c.loop-next.next = omega (arith, c.loop-next-test.false, c.count.ensures.exact) in
    record { exact = growing_done _ _ _ _ _ asked _ _ c.loop-next.invariant ended }
