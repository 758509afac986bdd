use Rattle.std.proofs.Common.{refl}
use Rattle.std.proofs.lemmas.Result.{on_ok_weaker}
use Rattle.explainer.proofs.GrowthLemmas.{keeps_met, keeps_one, meets_present}
use Rattle.explainer.proofs.growth.Growing.block.Goals as goal

pub returns-then-meets-clause-exact : goal.returns-then-meets-clause-exact
returns-then-meets-clause-exact c = keeps_met c.args.better.now c.args.present.now c.args.fact _ c.blockers-blockers.result.now
    c.blockers-blockers.ensures.exact.exact (c.if-meets.ensures.exact.0 refl)

pub first_in-requires-clause-some : goal.first_in-requires-clause-some
first_in-requires-clause-some c = meets_present c.args.better.now c.args.present.now c.args.fact c.blockers-blockers.result.now
    c.blockers-blockers.ensures.exact.exact c.requires.blocked

pub returns-clause-exact : goal.returns-clause-exact
returns-clause-exact c = on_ok_weaker _
    (λ gains. keeps_one c.args.better.now c.args.present.now c.args.fact c.first_in.result _ _ c.blockers-blockers.result.now
    c.blockers-blockers.ensures.exact.exact c.first_in.ensures.of c.first_in.ensures.inside gains) c.put.ensures.exact
