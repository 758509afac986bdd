use Rattle.std.proofs.Common.{ℕ, List, subst}
use Rattle.std.proofs.lemmas.Result.{on_ok_weaker}
use Rattle.explainer.specs.Sets.{Gains}
use Rattle.explainer.proofs.GrowthLemmas.{settled_more, drops_one}
use Rattle.explainer.proofs.growth.Growing.drop_fact.Goals as goal

pub returns-clause-settled : goal.returns-clause-settled
returns-clause-settled c = on_ok_weaker _
    (λ gains. settled_more c.args.better.now c.args.present.now c.args.fact _ _ c.in_ok-settle.ensures.exact
    (subst (λ (old : List ℕ). Gains c.args.fact old c.put.new.self) c.in_ok-settle.ensures.same_dropped gains) c.requires.settled) c.put.ensures.exact

pub returns-clause-exact : goal.returns-clause-exact
returns-clause-exact c = on_ok_weaker _
    (λ gains. drops_one c.args.better.now c.args.present.now c.args.fact _ _ c.in_ok-settle.ensures.exact
    (subst (λ (old : List ℕ). Gains c.args.fact old c.put.new.self) c.in_ok-settle.ensures.same_dropped gains)) c.put.ensures.exact
