-- The loop over the facts that an atom may become: what was found so far.
use Rattle.std.proofs.Common.{◌≡◌, ℕ, ◌+◌, ◌<◌, ◌≤◌, List, [], ◌∷◌, ◌++◌, slice_get, Some, All, Contains, ◌⊎◌, inl, inr, refl, sym, ◌∙◌, subst, arith, true}
use Rattle.std.proofs.lemmas.Bool.{cases_lt}
use Rattle.cq_terms.specs.declared.facts.Fact.{Fact}
use Rattle.cq_terms.specs.declared.query.Term.{Term}
use Rattle.cq_terms.specs.declared.query.QAtom.{QAtom}
use Rattle.cq_terms.specs.Query.{StandsIn}
use Rattle.query_matching.specs.declared.bindings.Binding.{Binding}
use Rattle.query_matching.specs.declared.bindings.Walk.{Walk}
use Rattle.query_matching.specs.declared.row.Row.{Row}
use Rattle.query_matching.specs.Bindings.{AreConsistent, AtomIs, Binds}
use Rattle.query_matching.specs.Extensions.{Extends, ExtendsBy, GoesOn, GoesOnBy, HasEach, IsCovered, CanExtend, IsSameWalk, AddsOnly, HasAll}
use Rattle.query_matching.proofs.ExtensionLemmas.{by_first, first_of, covered_on, step_back, step_on}

-- what is added under one condition is added under a weaker one
pub AddsOnly-weaker : (P Q : Row → Type 0) (old new : List Row) → ((row : Row) → P row → Q row) → AddsOnly P old new → AddsOnly Q old new
AddsOnly-weaker P Q old new h adds = record {
  kept = adds.kept;
  right = λ row there. by row (adds.right row there);
}
  where
    by : (row : Row) → Contains old row ⊎ P row → Contains old row ⊎ Q row
    by row (inl before) = inl before
    by row (inr p) = inr (h row p)

-- one addition after another
AddsOnly-then : (P : Row → Type 0) (old mid new : List Row) → AddsOnly P old mid → AddsOnly P mid new → AddsOnly P old new
AddsOnly-then P old mid new first second = record {
  kept = λ row there. second.kept row (first.kept row there);
  right = λ row there. by row (second.right row there);
}
  where
    by : (row : Row) → Contains mid row ⊎ P row → Contains old row ⊎ P row
    by row (inl before) = first.right row before
    by row (inr p) = inr p

-- what goes on by a number goes on so after the same walk
moved : (facts : List Fact) (head : List Term) (a : QAtom) (more : List QAtom) (n : ℕ) (old new : Walk) → IsSameWalk old new → (row : Row)
    → GoesOnBy facts head a more n new row → GoesOnBy facts head a more n old row
moved facts head a more n old new same row h =
    subst (λ (xs : List Binding). ExtendsBy facts head a more n xs old.path.items row) same.bindings
    (subst (λ (xs : List ℕ). ExtendsBy facts head a more n new.bindings.items xs row) same.path h)

turned : (old new : Walk) → IsSameWalk old new → IsSameWalk new old
turned old new same = record { bindings = sym same.bindings; path = sym same.path }

-- what was found for the first numbers, of which one stands at each place
pub record SoFar (facts : List Fact) (head : List Term) (rest : List QAtom) (a : QAtom) (more : List QAtom) (number : ℕ → ℕ) (i : ℕ) (old now : Walk)
    (before found : List Row) : Type 0 where
  pub same : IsSameWalk old now
  pub only : AddsOnly (GoesOn facts head rest old) before found
  pub complete : (k : ℕ) → k < i → HasAll (GoesOnBy facts head a more (number k) old) found

module _ (facts : List Fact) (head : List Term) (rest : List QAtom) (a : QAtom) (more : List QAtom) (number : ℕ → ℕ) (old : Walk) (before : List Row) where
  pub so_far_none : SoFar facts head rest a more number 0 old old before before
  so_far_none = record {
    same = record { bindings = refl; path = refl };
    only = record { kept = λ row there. there; right = λ row there. inl there };
    complete = λ k lt. absurd (omega arith);
  }

  module _ (split : rest ≡ a ∷ more) (i : ℕ) (now : Walk) (found : List Row) (so : SoFar facts head rest a more number i old now before found) where
    -- the search may go on
    pub so_far_can : CanExtend head rest old → CanExtend head (a ∷ more) now
    so_far_can can = record {
      consistent = subst AreConsistent (sym so.same.bindings) can.consistent;
      covered = subst (λ (xs : List Binding). All (IsCovered xs (a ∷ more)) head) (sym so.same.bindings)
          (subst (λ (xs : List QAtom). All (IsCovered old.bindings.items xs) head) split can.covered);
    }

    -- what a number adds is right
    pub so_far_only : (n : ℕ) (new : List Row) → AddsOnly (GoesOnBy facts head a more n now) found new → AddsOnly (GoesOn facts head rest old) before new
    so_far_only n new adds = AddsOnly-then (GoesOn facts head rest old) before found new so.only
        (AddsOnly-weaker (GoesOnBy facts head a more n now) (GoesOn facts head rest old) found new whole adds)
      where
        whole : (row : Row) → GoesOnBy facts head a more n now row → GoesOn facts head rest old row
        whole row h = subst (λ (xs : List QAtom). Extends facts head xs old.bindings.items old.path.items row) (sym split)
            (by_first facts head a more old.bindings.items old.path.items row n (moved facts head a more n old now so.same row h))

    -- all that the next number gives was added
    pub so_far_more : (new : Walk) (after : List Row) → AddsOnly (GoesOnBy facts head a more (number i) now) found after
        → HasAll (GoesOnBy facts head a more (number i) now) after → IsSameWalk now new → SoFar facts head rest a more number (i + 1) old new before after
    so_far_more new after adds all same = record {
      same = record { bindings = same.bindings ∙ so.same.bindings; path = same.path ∙ so.same.path };
      only = so_far_only (number i) after adds;
      complete = λ k lt row h. by k row (cases_lt k i) lt h;
    }
      where
        by : (k : ℕ) (row : Row) → (k < i) ⊎ (i ≤ k) → k < i + 1 → GoesOnBy facts head a more (number k) old row → Contains after row
        by k row (inl earlier) lt h = adds.kept row (so.complete k earlier row h)
        by k row (inr here) lt h =
            let is : k ≡ i = omega (arith, here, lt) in
            all row (moved facts head a more (number i) now old (turned old now so.same) row
            (subst (λ (j : ℕ). GoesOnBy facts head a more (number j) old row) is h))

    -- where each fact that the atom may be has a place before, all was added
    pub so_far_all : HasEach facts old.bindings.items a (λ n. (k : ℕ) × (k < i) × (number k ≡ n)) → HasAll (GoesOn facts head rest old) found
    so_far_all each row h =
        let first = first_of facts head a more old.bindings.items old.path.items row
        (subst (λ (xs : List QAtom). Extends facts head xs old.bindings.items old.path.items row) split h) in
        let fit = first.2 in
        let there = each fit.0 first.0 fit.1 fit.2 fit.3 fit.4 in
        so.complete there.0 there.1 row (subst (λ (n : ℕ). GoesOnBy facts head a more n old row) (sym there.2) first.1)

-- the search may go on where the atom is bound to a fact
pub can_go_on : (head : List Term) (a : QAtom) (more : List QAtom) (f : Fact) (old new : Walk) → CanExtend head (a ∷ more) old
    → Binds (λ v. AtomIs v a f) (λ l. StandsIn l a) old.bindings.items new.bindings.items true → CanExtend head more new
can_go_on head a more f old new can binds = record {
  consistent = binds.consistent refl;
  covered = covered_on a more old.bindings.items new.bindings.items binds.grown.0 binds.grown.1 (binds.bound refl) head can.covered;
}

-- what goes on from the bound fact is what the atom adds by it
pub goes_on_only : (facts : List Fact) (head : List Term) (a : QAtom) (more : List QAtom) (n : ℕ) (f : Fact) (old new : Walk) (before after : List Row)
    → slice_get facts n ≡ Some f → Binds (λ v. AtomIs v a f) (λ l. StandsIn l a) old.bindings.items new.bindings.items true
    → new.path.items ≡ old.path.items ++ n ∷ []
    → AddsOnly (GoesOn facts head more new) before after → AddsOnly (GoesOnBy facts head a more n old) before after
goes_on_only facts head a more n f old new before after at binds pushed adds =
    AddsOnly-weaker (GoesOn facts head more new) (GoesOnBy facts head a more n old) before after
    (λ row p. step_back facts head a more n f old.bindings.items new.bindings.items old.path.items at binds row
    (subst (λ (xs : List ℕ). Extends facts head more new.bindings.items xs row) pushed p)) adds

-- and all that the atom adds by it goes on from there
pub goes_on_all : (facts : List Fact) (head : List Term) (a : QAtom) (more : List QAtom) (n : ℕ) (f : Fact) (old new : Walk) (after : List Row)
    → slice_get facts n ≡ Some f → Binds (λ v. AtomIs v a f) (λ l. StandsIn l a) old.bindings.items new.bindings.items true
    → new.path.items ≡ old.path.items ++ n ∷ []
    → HasAll (GoesOn facts head more new) after → HasAll (GoesOnBy facts head a more n old) after
goes_on_all facts head a more n f old new after at binds pushed all row h =
    all row (subst (λ (xs : List ℕ). Extends facts head more new.bindings.items xs row) (sym pushed)
    (step_on facts head a more n f old.bindings.items new.bindings.items old.path.items at binds row h))
