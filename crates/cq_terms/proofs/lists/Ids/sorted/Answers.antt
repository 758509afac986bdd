use Rattle.std.proofs.Common.{◌≡◌, ◌∙◌, ap, eqb, length}
use Rattle.std.specs.List.{dedup}
use Rattle.std.proofs.lemmas.List.Kept.{AllPairs-from_increasing, Contains-dedup_nat, Contains-from_dedup}
use Rattle.std.proofs.lemmas.List.Sorted.{Contains-permutation, IsPermutation-sym}
use Rattle.std.proofs.lemmas.Map.Keys.{IsStrictlyIncreasing-dedup}
use Rattle.smallvec.proofs.SmallVecLemmas.{items-with_items}
use Rattle.cq_terms.proofs.lists.Ids.sorted.Goals as goal

pub returns : goal.returns
returns c =
    let long = c.sort_unstable.ensures.len ∙ ap length c.deref_mut.ensures.value in
    let is = c.dedup.ensures.items ∙ ap (dedup eqb) (items-with_items c.in_ok-items.items c.sort_unstable.new.self long) in
    let from : c.deref_mut.result.now ≡ c.args.numbers.now = c.deref_mut.ensures.value ∙ c.in_ok-items.ensures.ok in
    let moved = c.sort_unstable.ensures.permutation in
    record {
      exact = rw (is, ← from) (record {
        ascending = AllPairs-from_increasing _ (IsStrictlyIncreasing-dedup _ c.sort_unstable.ensures.sorted);
        same = λ i. (
          (λ h. Contains-permutation _ _ i (IsPermutation-sym _ _ moved) (Contains-from_dedup _ _ i h)),
          (λ h. Contains-dedup_nat _ i (Contains-permutation _ _ i moved h)),
        );
      });
    }
