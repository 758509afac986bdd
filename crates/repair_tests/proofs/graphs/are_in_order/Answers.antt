use Rattle.std.proofs.Common.{◌<◌, ℕ, List, take, All, AllPairs, take_all, subst, sym}
use Rattle.std.proofs.lemmas.List.{take_more}
use Rattle.std.proofs.lemmas.List.Elements.{All-more}
use Rattle.std.proofs.lemmas.List.Quantifiers.{all_pairs_push}
use Rattle.cq_terms.specs.Conflicts.{IsBefore}
use Rattle.repair_tests.proofs.graphs.are_in_order.Goals as goal

pub loop-place-preserved : goal.loop-place-preserved
loop-place-preserved c = (
  All-more (λ (p : ℕ × ℕ). (p.0 < p.1) × (p.1 < c.args.facts)) c.args.listed.now c.loop-place.place (0, 0) c.loop-place-test.true c.loop-place.invariant.0
      (c.if-pair.false, c.if-pair-facts.false),
  subst (λ (xs : List (ℕ × ℕ)). AllPairs IsBefore xs) (sym (take_more c.args.listed.now c.loop-place.place (0, 0) c.loop-place-test.true))
      (all_pairs_push IsBefore (take c.loop-place.place c.args.listed.now) _ c.loop-place.invariant.1
      (c.are_before.ensures.exact c.if-not-are_before.false)),
)

pub returns-clause-upward : goal.returns-clause-upward
returns-clause-upward c = λ told. subst (λ (xs : List (ℕ × ℕ)). All (λ (p : ℕ × ℕ). (p.0 < p.1) × (p.1 < c.args.facts)) xs)
    (take_all c.loop-place.place c.args.listed.now c.loop-place-test.false) c.loop-place.invariant.0

pub returns-clause-ascending : goal.returns-clause-ascending
returns-clause-ascending c = λ told. subst (λ (xs : List (ℕ × ℕ)). AllPairs IsBefore xs)
    (take_all c.loop-place.place c.args.listed.now c.loop-place-test.false) c.loop-place.invariant.1
