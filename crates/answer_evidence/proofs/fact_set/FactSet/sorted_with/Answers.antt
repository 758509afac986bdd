use Rattle.std.proofs.Common.{◌≡◌, List, ℕ, subst, ◌∙◌}
use Rattle.std.proofs.lemmas.List.Filters.{dedup_is}
use Rattle.std.proofs.lemmas.List.Kept.{AllPairs-from_increasing, Contains-dedup_nat, Contains-from_dedup}
use Rattle.std.proofs.lemmas.List.Sorted.{Contains-permutation, IsPermutation-sym}
use Rattle.std.proofs.lemmas.Map.Keys.{IsStrictlyIncreasing-dedup}
use Rattle.cq_terms.specs.Lists.{IsSorted}
use Rattle.answer_evidence.proofs.fact_set.FactSet.sorted_with.Goals as goal

pub returns : goal.returns
returns c =
    let is = dedup_is _ _ _ c.dedup.ensures.filtered in
    let moved = c.sort_unstable.ensures.permutation in
    let numbers : c.in_ok-facts.facts.items ≡ c.args.self.now = c.in_ok-facts.ensures.items ∙ (c.as_slice.ensures.keys ∙ c.self.view_is) in
    record {
      exact = (
        c.dedup.new.self.items,
        subst (λ (ns : List ℕ). IsSorted ns c.dedup.new.self.items) numbers (rw is (record {
          ascending = AllPairs-from_increasing _ (IsStrictlyIncreasing-dedup _ c.sort_unstable.ensures.sorted);
          same = λ i. (
            (λ h. Contains-permutation _ _ i (IsPermutation-sym _ _ moved) (Contains-from_dedup _ _ i h)),
            (λ h. Contains-dedup_nat _ i (Contains-permutation _ _ i moved h)),
          );
        })),
        c.in_ok-push.ensures.items,
      );
    }
