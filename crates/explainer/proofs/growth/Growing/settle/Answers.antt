use Rattle.std.proofs.Common.{ℕ, List, Contains, inl, sym, refl, subst}
use Rattle.std.proofs.lemmas.Bool.{false≢true}
use Rattle.explainer.proofs.GrowthLemmas.{keeps_none, blocked_unless_own}
use Rattle.explainer.proofs.growth.Growing.settle.Goals as goal

pub returns-then-is_own-clause-exact : goal.returns-then-is_own-clause-exact
returns-then-is_own-clause-exact c = keeps_none c.args.better.now c.args.present.now c.args.fact _
    (inl (subst (λ (l : List ℕ). Contains l c.args.fact) (sym c.requires.over.own) (c.if-is_own.ensures.exact.0 refl)))

pub block-requires-clause-blocked : goal.block-requires-clause-blocked
block-requires-clause-blocked c = blocked_unless_own c.args.better.now c.args.present.now c.args.fact c.requires.present
    (λ own. false≢true (c.if-is_own.ensures.exact.1 (subst (λ (l : List ℕ). Contains l c.args.fact) c.requires.over.own own)))
