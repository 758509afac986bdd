use Rattle.explainer.specs.Wanted.{IsCoreFor}
use Rattle.explainer.proofs.CoreLemmas.{core_sorted}
use Rattle.explainer.proofs.cores.core_of.Goals as goal

pub returns-clause-ascending : goal.returns-clause-ascending
returns-clause-ascending c = (c.in_ok-kept.ensures.exact.ascending, c.in_ok-dropped.ensures.exact.ascending)

pub returns-clause-exact : goal.returns-clause-exact
returns-clause-exact c = core_sorted c.args.better.now c.args.present.now c.args.start.now c.args.drop.now _ _ _ _ c.in_ok-kept.ensures.exact
    c.in_ok-dropped.ensures.exact c.in_ok-grown.ensures.exact

pub returns-clause-chosen : goal.returns-clause-chosen
returns-clause-chosen c =
    let core : IsCoreFor c.args.better.now c.args.present.now c.args.start.now c.args.drop.now c.in_ok-kept.kept c.in_ok-dropped.dropped =
    core_sorted c.args.better.now c.args.present.now c.args.start.now c.args.drop.now _ _ _ _ c.in_ok-kept.ensures.exact c.in_ok-dropped.ensures.exact
    c.in_ok-grown.ensures.exact in
    c.core_lies_in_chosen.ensures.inside c.args.better.now c.linear-order.ensures.kept c.in_ok-kept.kept c.in_ok-dropped.dropped core.core
