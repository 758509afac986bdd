use Rattle.std.proofs.Common.{ℕ, List, All, take_all, subst}
use Rattle.std.proofs.lemmas.List.Elements.{All-more}
use Rattle.cq_terms.specs.Conflicts.{IsBefore}
use Rattle.repair_tests.proofs.graphs.are_before.Goals as goal

pub loop-pair-preserved : goal.loop-pair-preserved
loop-pair-preserved c =
    All-more (λ (p : ℕ × ℕ). IsBefore p c.args.last) c.args.pairs.now c.loop-pair.pair-index _ c.loop-pair-test.true c.loop-pair.invariant
    (c.is_before.ensures.exact c.if-not-is_before.false)

pub returns : goal.returns
returns c = record {
  exact = λ told. subst (λ (xs : List (ℕ × ℕ)). All (λ (p : ℕ × ℕ). IsBefore p c.args.last) xs)
      (take_all c.loop-pair.pair-index c.args.pairs.now c.loop-pair-test.false) c.loop-pair.invariant;
}
