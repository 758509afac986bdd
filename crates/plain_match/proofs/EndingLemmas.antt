-- The search within an image: what the loop over its numbers has excluded, and when it ends.
use Rattle.std.proofs.Common.{◌≡◌, ℕ, ◌+◌, ◌<◌, ◌≤◌, true, false, List, [], ◌∷◌, ◌++◌, length, get_or, slice_get, Some, All, Contains, ◌⊎◌, inl, inr, refl}
use Rattle.std.proofs.Common.{sym, ◌∙◌, subst, arith}
use Rattle.std.proofs.lemmas.Bool.{cases_lt}
use Rattle.std.proofs.lemmas.List.{append-nil, get_or_default}
use Rattle.std.proofs.lemmas.List.Elements.{All-push, All-contains, Contains-get_or, Contains-append_right}
use Rattle.cq_terms.specs.declared.facts.Fact.{Fact}
use Rattle.cq_terms.specs.declared.query.QAtom.{QAtom}
use Rattle.cq_terms.specs.Query.{StandsIn}
use Rattle.cq_meaning.proofs.Members.{Contains-head}
use Rattle.query_matching.specs.declared.bindings.Binding.{Binding}
use Rattle.query_matching.specs.declared.bindings.Walk.{Walk}
use Rattle.query_matching.specs.declared.row.Row.{Row}
use Rattle.query_matching.specs.Bindings.{AreConsistent, AtomIs, Binds}
use Rattle.cq_terms.specs.Lists.{IsSorted}
use Rattle.query_matching.specs.Extensions.{IsSameWalk}
use Rattle.plain_match.specs.Endings.{HasEnding, HasEndingBy, CanEnd}
use Rattle.query_matching.proofs.ExtensionLemmas.{by_first, first_of, step_back, step_on, no_step}

-- an image as a row without a head
abbrev pub bare : List ℕ → Row
bare image = record { tuple = []; image = image }

pub none_left : (rest : List QAtom) → length rest ≡ 0 → rest ≡ []
none_left [] e = refl
none_left (a ∷ rest) e = absurd (omega (arith, e))

module _ (facts : List Fact) (image : List ℕ) where
  -- ---- no atoms are left

  pub end_from : (walk : Walk) → CanEnd facts image walk → All (Contains walk.path.items) image → HasEnding facts image [] walk.bindings.items walk.path.items
  end_from walk can met = (
    [],
    record {
      valuation = can.consistent.0;
      agrees = can.consistent.1;
      fits = tt;
      tuple = tt;
      image = subst (λ (xs : List ℕ). IsSorted xs image) (sym (append-nil walk.path.items)) (record {
        ascending = can.ascending;
        same = λ i. (
          (λ there. All-contains (Contains walk.path.items) image i met there),
          (λ there. All-contains (Contains image) walk.path.items i can.inside there),
        );
      });
    },
  )

  pub end_to : (walk : Walk) → HasEnding facts image [] walk.bindings.items walk.path.items → All (Contains walk.path.items) image
  end_to walk (n ∷ numbers, c) = absurd c.fits
  end_to walk ([], c) =
      let is : IsSorted walk.path.items image = subst (λ (xs : List ℕ). IsSorted xs image) (append-nil walk.path.items) c.image in
      λ k d lt. (is.same (get_or image k d)).0 (Contains-get_or image k d lt)

  -- ---- the next atom becomes one fact

  module _ (a : QAtom) (more : List QAtom) (n : ℕ) (f : Fact) (old new : List Binding) (path longer : List ℕ) (at : slice_get facts n ≡ Some f) where
    pub by_from : Binds (λ v. AtomIs v a f) (λ l. StandsIn l a) old new true → longer ≡ path ++ n ∷ [] → HasEnding facts image more new longer
        → HasEndingBy facts image a more n old path
    by_from binds pushed h = step_back facts [] a more n f old new path at binds (bare image)
        (subst (λ (xs : List ℕ). HasEnding facts image more new xs) pushed h)

    pub by_to : Binds (λ v. AtomIs v a f) (λ l. StandsIn l a) old new true → longer ≡ path ++ n ∷ [] → HasEndingBy facts image a more n old path
        → HasEnding facts image more new longer
    by_to binds pushed h = subst (λ (xs : List ℕ). HasEnding facts image more new xs) (sym pushed)
        (step_on facts [] a more n f old new path at binds (bare image) h)

    pub by_never : Binds (λ v. AtomIs v a f) (λ l. StandsIn l a) old new false → HasEndingBy facts image a more n old path → ⊥
    by_never binds h = no_step facts [] a more n f old new path at binds (bare image) h

  -- the search goes on where the atom became a fact of the image
  pub can_on : (old new : Walk) (n : ℕ) → CanEnd facts image old → Contains image n → AreConsistent new.bindings.items
      → new.path.items ≡ old.path.items ++ n ∷ [] → CanEnd facts image new
  can_on old new n can there consistent pushed = record {
    ascending = can.ascending;
    named = can.named;
    consistent = consistent;
    inside = subst (λ (xs : List ℕ). All (Contains image) xs) (sym pushed) (All-push (Contains image) old.path.items n can.inside there);
  }

  -- ---- the numbers of the image, one after another

  pub can_same : (old now : Walk) → IsSameWalk old now → CanEnd facts image old → CanEnd facts image now
  can_same old now same can = record {
    ascending = can.ascending;
    named = can.named;
    consistent = subst AreConsistent (sym same.bindings) can.consistent;
    inside = subst (λ (xs : List ℕ). All (Contains image) xs) (sym same.path) can.inside;
  }

  back : (a : QAtom) (more : List QAtom) (n : ℕ) (old now : Walk) → IsSameWalk old now → HasEndingBy facts image a more n now.bindings.items now.path.items
      → HasEndingBy facts image a more n old.bindings.items old.path.items
  back a more n old now same h =
      subst (λ (xs : List Binding). HasEndingBy facts image a more n xs old.path.items) same.bindings
      (subst (λ (xs : List ℕ). HasEndingBy facts image a more n now.bindings.items xs) same.path h)

  on : (a : QAtom) (more : List QAtom) (n : ℕ) (old now : Walk) → IsSameWalk old now → HasEndingBy facts image a more n old.bindings.items old.path.items
      → HasEndingBy facts image a more n now.bindings.items now.path.items
  on a more n old now same h =
      subst (λ (xs : List Binding). HasEndingBy facts image a more n xs now.path.items) (sym same.bindings)
      (subst (λ (xs : List ℕ). HasEndingBy facts image a more n old.bindings.items xs) (sym same.path) h)

  -- the next atom is none of the first facts of the image
  pub record IsNoneOfFirst (a : QAtom) (more : List QAtom) (i : ℕ) (old now : Walk) : Type 0 where
    pub same : IsSameWalk old now
    pub none : (k : ℕ) → k < i → HasEndingBy facts image a more (get_or image k 0) old.bindings.items old.path.items → ⊥

  module _ (a : QAtom) (more rest : List QAtom) (old : Walk) where
    pub none_yet : IsNoneOfFirst a more 0 old old
    none_yet = record { same = record { bindings = refl; path = refl }; none = λ k lt. absurd (omega arith) }

    module _ (split : rest ≡ a ∷ more) (i : ℕ) (now : Walk) (so : IsNoneOfFirst a more i old now) where
      pub found_here : HasEndingBy facts image a more (get_or image i 0) now.bindings.items now.path.items
          → HasEnding facts image rest old.bindings.items old.path.items
      found_here h =
          subst (λ (xs : List QAtom). HasEnding facts image xs old.bindings.items old.path.items) (sym split)
          (by_first facts [] a more old.bindings.items old.path.items (bare image) (get_or image i 0) (back a more (get_or image i 0) old now so.same h))

      pub none_more : (new : Walk) → IsSameWalk now new → (HasEndingBy facts image a more (get_or image i 0) now.bindings.items now.path.items → ⊥)
          → IsNoneOfFirst a more (i + 1) old new
      none_more new same never = record {
        same = record { bindings = same.bindings ∙ so.same.bindings; path = same.path ∙ so.same.path };
        none = λ k lt h. by k (cases_lt k i) lt h;
      }
        where
          by : (k : ℕ) → (k < i) ⊎ (i ≤ k) → k < i + 1 → HasEndingBy facts image a more (get_or image k 0) old.bindings.items old.path.items → ⊥
          by k (inl before) lt h = so.none k before h
          by k (inr le) lt h =
              let here : k ≡ i = omega (arith, le, lt) in
              never (on a more (get_or image i 0) old now so.same (subst (λ (j : ℕ). HasEndingBy facts image a more (get_or image j 0) old.bindings.items
              old.path.items) here h))

      pub none_at_all : length image ≤ i → HasEnding facts image rest old.bindings.items old.path.items → ⊥
      none_at_all past h =
          let first = first_of facts [] a more old.bindings.items old.path.items (bare image)
          (subst (λ (xs : List QAtom). HasEnding facts image xs old.bindings.items old.path.items) split h) in
          let n = first.0 in
          let ending = first.1 in
          let there : Contains image n = (ending.1.image.same n).1 (Contains-append_right old.path.items (n ∷ ending.0) n (Contains-head n ending.0)) in
          let at : get_or image there.0 0 ≡ n = get_or_default image there.0 0 n there.1 ∙ there.2 in
          so.none there.0 (omega (arith, past, there.1)) (subst (λ (j : ℕ). HasEndingBy facts image a more j old.bindings.items old.path.items) (sym at) ending)
