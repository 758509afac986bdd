use Rattle.std.proofs.lemmas.Bool.{false≢true}
use Rattle.explainer.proofs.GrowthLemmas.{keeps_none, blocks_rival}
use Rattle.explainer.proofs.growth.Growing.settle_rival.Goals as goal

pub returns-then-not-over-clause-exact : goal.returns-then-not-over-clause-exact
returns-then-not-over-clause-exact c = keeps_none c.args.better.now c.args.present.now c.args.rival _
    (blocks_rival c.args.better.now _ c.args.kept c.args.rival c.requires.kept c.requires.conflicting (λ b. false≢true (c.if-not-over.ensures.exact.1 b)))
