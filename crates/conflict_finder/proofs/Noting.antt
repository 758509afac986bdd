-- Entries whose number is beyond a limit.
use Rattle.std.proofs.Common.{◌≡◌, ◌≢◌, ℕ, ◌<◌, List, [], ◌∷◌, length, map, Contains, ◌⊎◌, inl, inr, sym, subst, arith, AllPairs}
use Rattle.std.specs.declared.cmp.Ordering.TheVariants.{Less}
use Rattle.std.proofs.lemmas.List.{length-map}
use Rattle.cq_terms.specs.declared.facts.Fact.{Fact}
use Rattle.cq_terms.specs.Query.{Query}
use Rattle.cq_meaning.specs.Entailment.{HasImage}
use Rattle.cq_meaning.proofs.Ascending.{All-of}
use Rattle.conflict_finder.specs.declared.clash_facts.ClashFacts.{ClashFacts}
use Rattle.conflict_finder.specs.declared.clash_facts.ClashFacts.TheVariants.{One, Two}
use Rattle.conflict_finder.specs.declared.first_shown.Source.{Source}
use Rattle.conflict_finder.specs.declared.sought.Sought.{Sought}
use Rattle.conflict_finder.specs.Finding.{HasMoreSets}
use Rattle.conflict_finder.specs.Images.{AreKeys, IsNotedOrImage}
use Rattle.conflict_finder.specs.FirstShown.{facts_cmp, AreOrdered, numbers_of, HasKey, AddsNew, IsWanted, IsWithin}
use Rattle.conflict_finder.proofs.Entries.{facts_same, adds_like}
use Rattle.conflict_finder.proofs.Scanning.{more_weaker, wanted_within}
use Rattle.conflict_finder.proofs.Clashing.{IsLess, map_from, pairs_map, entries_ascend}

first_of_one : (a b : ℕ) → a ∷ [] ≡ b ∷ [] → One a ≡ One b
first_of_one a b e = cc

both_of_two : (a b c d : ℕ) → a ∷ b ∷ [] ≡ c ∷ d ∷ [] → Two a b ≡ Two c d
both_of_two a b c d e = cc

-- keys of the same numbers are the same
same_key : (k j : ClashFacts) → numbers_of k ≡ numbers_of j → k ≡ j
same_key (One a) (One b) e = first_of_one a b e
same_key (One a) (Two b c) e = cc
same_key (Two a b) (One c) e = cc
same_key (Two a b) (Two c d) e = both_of_two a b c d e

less_apart : (k j : ClashFacts) → facts_cmp k j ≡ Less → k ≡ j → ⊥
less_apart k j l e = let same : facts_cmp j j ≡ Less = subst (λ (z : ClashFacts). facts_cmp z j ≡ Less) e l in let equal = facts_same j in cc

sets_apart : (es : List (ClashFacts × Source)) → AreOrdered es → AllPairs (λ (a b : List ℕ). a ≢ b) (map (λ (e : ClashFacts × Source). numbers_of e.0) es)
sets_apart es sorted = pairs_map IsLess (λ (a b : List ℕ). a ≢ b) (λ (e : ClashFacts × Source). numbers_of e.0) es (entries_ascend es sorted)
    (λ e f c d l same. less_apart e.0 f.0 l (same_key e.0 f.0 same))

module _ (facts : List Fact) (q : Query) (sought : Sought) (numbers : List ℕ) (source : Source) (old new : List (ClashFacts × Source))
    (adds : AddsNew (λ k. IsWanted sought numbers (numbers_of k) × HasImage facts q [] (numbers_of k)) source old new) where
  -- there are more entries than the limit
  pub more_noted : AreOrdered new → (limit : ℕ) → limit < length new → HasMoreSets (IsNotedOrImage facts q (IsWithin sought numbers) old) limit
  more_noted sorted limit l = record {
    items = map (λ (e : ClashFacts × Source). numbers_of e.0) new;
    each = All-of (IsNotedOrImage facts q (IsWithin sought numbers) old) (map (λ (e : ClashFacts × Source). numbers_of e.0) new)
        (λ set c. let w = map_from (λ (e : ClashFacts × Source). numbers_of e.0) new set c in by set w.0 w.2 (adds.right w.0 w.1));
    apart = sets_apart new sorted;
    longer = (let k = length-map new (λ (e : ClashFacts × Source). numbers_of e.0) in omega (arith, k, l));
  }
    where
      by : (set : List ℕ) (e : ClashFacts × Source) → set ≡ numbers_of e.0
          → Contains old e ⊎ ((IsWanted sought numbers (numbers_of e.0) × HasImage facts q [] (numbers_of e.0)) × (HasKey old e.0 → ⊥) × (e.1 ≡ source))
          → IsNotedOrImage facts q (IsWithin sought numbers) old set
      by set e same (inl c) = inl (e.0, (e.1, c), same)
      by set e same (inr (w, n, s)) = inr (
        subst (IsWithin sought numbers) (sym same) (wanted_within sought numbers (numbers_of e.0) w.0),
        subst (HasImage facts q []) (sym same) w.1,
      )

-- what the keys add is what the query shows
pub added_shown : (P : ClashFacts → Type 0) (keys : List (ClashFacts)) → AreKeys P keys → (source : Source) (old new : List (ClashFacts × Source))
    → AddsNew (λ k. Contains keys k) source old new → AddsNew P source old new
added_shown P keys are source old new adds = adds_like (λ k. Contains keys k) P source old new (λ k c. (are k).0 c) (λ k p. (are k).1 p) adds

-- more images than the limit
pub more_images : (facts : List Fact) (q : Query) (W : List ℕ → Type 0) (old : List (ClashFacts × Source)) (limit : ℕ)
    → HasMoreSets (λ set. W set × HasImage facts q [] set) limit → HasMoreSets (IsNotedOrImage facts q W old) limit
more_images facts q W old limit more = more_weaker (λ set. W set × HasImage facts q [] set) (IsNotedOrImage facts q W old) limit (λ set w. inr w) more
