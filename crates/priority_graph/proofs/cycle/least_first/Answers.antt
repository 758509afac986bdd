use Rattle.std.proofs.Common.{◌≡◌, ◌++◌, ◌+◌, take, drop, reverse, subst, sym, refl}
use Rattle.std.proofs.lemmas.List.{take_rest}
use Rattle.priority_graph.specs.Walks.{IsTurned}
use Rattle.priority_graph.proofs.CycleLemmas.{turned_from}
use Rattle.priority_graph.proofs.cycle.least_first.Goals as goal

pub returns : goal.returns
returns c =
    let turned : c.push_backwards-2.new.ids ≡ reverse (take (c.least_place-cut.result + 1) c.args.walk.now)
    ++ reverse (drop (c.least_place-cut.result + 1) c.args.walk.now) =
    rw (
      c.in_ok-push_backwards-2.ensures.exact,
      c.in_ok-push_backwards.ensures.exact,
      c.new-cycle.ensures,
      take_rest c.args.walk.now (c.least_place-cut.result + 1),
    ) refl in
    record {
      exact = subst (IsTurned c.args.walk.now) (sym turned)
          (turned_from c.args.walk.now c.least_place-cut.result c.least_place-cut.ensures.inside c.least_place-cut.ensures.least);
    }
