use Rattle.std.proofs.Common.{ℕ, Contains, refl}
use Rattle.std.proofs.lemmas.Bool.{false≢true}
use Rattle.plain_finding.proofs.PlaceLemmas.{places_more, walked, broken}
use Rattle.plain_finding.proofs.cores.has_none.Goals as goal

pub returns-then-has_sorted : goal.returns-then-has_sorted
returns-then-has_sorted c = record {
  exact = broken (λ (i : ℕ). ¬ Contains c.args.list.now i) c.args.numbers.now c.loop-number.number-index c.loop-number-test.true
      (λ n. n (c.if-has_sorted.ensures.exact.0 refl));
}

pub loop-number-preserved : goal.loop-number-preserved
loop-number-preserved c = places_more (λ (i : ℕ). ¬ Contains c.args.list.now i) c.args.numbers.now c.loop-number.number-index c.loop-number.invariant
    (λ m. false≢true (c.if-has_sorted.ensures.exact.1 m))

pub returns : goal.returns
returns c = record {
  exact = walked (λ (i : ℕ). ¬ Contains c.args.list.now i) c.args.numbers.now c.loop-number.number-index c.loop-number-test.false c.loop-number.invariant;
}
