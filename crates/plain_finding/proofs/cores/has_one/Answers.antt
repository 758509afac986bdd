use Rattle.std.proofs.Common.{ℕ, Contains}
use Rattle.std.proofs.lemmas.Bool.{false≢true}
use Rattle.plain_finding.proofs.PlaceLemmas.{places_more, none_of}
use Rattle.plain_finding.proofs.cores.has_one.Goals as goal

pub loop-number-preserved : goal.loop-number-preserved
loop-number-preserved c = places_more (λ (i : ℕ). ¬ Contains c.args.list.now i) c.args.numbers.now c.loop-number.number-index c.loop-number.invariant
    (λ m. false≢true (c.if-has_sorted.ensures.exact.1 m))

pub returns : goal.returns
returns c = record {
  exact = (
    (λ t. absurd (false≢true t)),
    (λ w. absurd (none_of (Contains c.args.list.now) c.args.numbers.now c.loop-number.number-index c.loop-number-test.false c.loop-number.invariant w)),
  );
}
