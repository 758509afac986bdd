use Rattle.std.proofs.Common.{◌≡◌, All, List, take_all, subst, refl}
use Rattle.std.proofs.lemmas.List.Elements.{All-more, All-contains}
use Rattle.cq_terms.specs.declared.facts.Fact.{Fact}
use Rattle.matching_tests.proofs.tables.has.Goals as goal

pub loop-known-preserved : goal.loop-known-preserved
loop-known-preserved c =
    All-more (λ (f : Fact). f ≡ c.args.fact → ⊥) c.args.facts.now c.loop-known.known-index _ c.loop-known-test.true c.loop-known.invariant
    (λ e. let is = c.is_same.ensures.exact.1 e in cc (is, c.if-is_same.false))

pub returns : goal.returns
returns c =
    let none = subst (λ (xs : List Fact). All (λ (f : Fact). f ≡ c.args.fact → ⊥) xs)
    (take_all c.loop-known.known-index c.args.facts.now c.loop-known-test.false) c.loop-known.invariant in
    record { exact = ((λ h. cc h), (λ there. absurd (All-contains (λ (f : Fact). f ≡ c.args.fact → ⊥) c.args.facts.now c.args.fact none there refl))) }
