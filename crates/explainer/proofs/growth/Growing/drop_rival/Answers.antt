use Rattle.std.proofs.Common.{ℕ, List, subst, refl}
use Rattle.std.proofs.lemmas.Result.{on_ok_weaker}
use Rattle.explainer.specs.Sets.{Gains}
use Rattle.explainer.proofs.GrowthLemmas.{settled_more, drops_one, drops_again}
use Rattle.explainer.proofs.growth.Growing.drop_rival.Goals as goal

pub returns-then-has-clause-exact : goal.returns-then-has-clause-exact
returns-then-has-clause-exact c = drops_again c.args.better.now c.args.present.now c.args.rival c.args.self.now (c.if-has.ensures.exact.0 refl)

pub returns-clause-settled : goal.returns-clause-settled
returns-clause-settled c = on_ok_weaker _
    (λ gains. settled_more c.args.better.now c.args.present.now c.args.rival _ _ c.in_ok-settle_rival.ensures.exact
    (subst (λ (old : List ℕ). Gains c.args.rival old c.put.new.self) c.in_ok-settle_rival.ensures.same_dropped gains) c.requires.settled) c.put.ensures.exact

pub returns-clause-exact : goal.returns-clause-exact
returns-clause-exact c = on_ok_weaker _
    (λ gains. drops_one c.args.better.now c.args.present.now c.args.rival _ _ c.in_ok-settle_rival.ensures.exact
    (subst (λ (old : List ℕ). Gains c.args.rival old c.put.new.self) c.in_ok-settle_rival.ensures.same_dropped gains)) c.put.ensures.exact
