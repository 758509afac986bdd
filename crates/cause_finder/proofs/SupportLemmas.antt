-- Supports in the order of a set: how one is added, and the pairs of a list in order.
use Rattle.std.proofs.Common.{◌≡◌, ℕ, ◌<◌, List, [], ◌∷◌, length, get_or, map, AllPairs, Contains, ◌⊎◌, inl, inr, refl, sym, ap, ◌∙◌, subst, arith}
use Rattle.std.specs.Ordering.{nat_cmp, ordering_then, match_ordering}
use Rattle.std.specs.Cmp.{IsTotalOrder}
use Rattle.std.specs.Cmp.Lexicographic.{slice_cmp, nat_list_cmp_total}
use Rattle.std.specs.List.Sorted.{IsStrictlySortedBy}
use Rattle.std.specs.BTreeSet.{insert_key}
use Rattle.std.specs.declared.cmp.Ordering.{Ordering}
use Rattle.std.specs.declared.cmp.Ordering.TheVariants.{Less, Equal, Greater}
use Rattle.std.proofs.lemmas.Bool.Decides.{nat_tests}
use Rattle.std.proofs.lemmas.Cmp.{then_total, on_total, tied_itself}
use Rattle.std.proofs.lemmas.Map.Keys.{Less-from_sorted}
use Rattle.std.proofs.lemmas.List.{get_or-map, length-map}
use Rattle.std.proofs.lemmas.List.Elements.{All-contains, All-from_recursion}
use Rattle.cq_terms.specs.declared.hits.Hit.{Hit}
use Rattle.cq_meaning.proofs.Members.{Contains-head, Contains-later, Contains-cases, Contains-nil}
use Rattle.query_matching.specs.Hits.{IsBefore}
use Rattle.cause_finder.specs.declared.support.Support.{Support}
use Rattle.cause_finder.specs.Supports.{support_cmp, pair_of, support_by, Has, AddsOnly}

-- ---- the order

pub support_total : IsTotalOrder support_cmp
support_total = then_total (on_total (λ (s : Support). s.tuple) nat_list_cmp_total) (on_total (λ (s : Support). s.image) nat_list_cmp_total)

-- supports of one pair compare equal
pub same_pair : (s r : Support) → pair_of s ≡ pair_of r → support_cmp s r ≡ Equal
same_pair s r e = ap (λ (h : Hit). support_cmp (support_by 0 h) (support_by 0 (pair_of r))) e ∙ tied_itself support_total (support_by 0 (pair_of r))

pub numbers_same : (xs ys : List ℕ) → slice_cmp nat_cmp xs ys ≡ Equal → xs ≡ ys
numbers_same [] [] e = refl
numbers_same [] (y ∷ ys) e = cc
numbers_same (x ∷ xs) [] e = cc
numbers_same (x ∷ xs) (y ∷ ys) e = by (nat_cmp x y) refl e (numbers_same xs ys)
  where
    by : (o : Ordering) → nat_cmp x y ≡ o → ordering_then o (slice_cmp nat_cmp xs ys) ≡ Equal → (slice_cmp nat_cmp xs ys ≡ Equal → xs ≡ ys) → x ∷ xs ≡ y ∷ ys
    by Less is e more = cc
    by Greater is e more = cc
    by Equal is e more =
        let head : x ≡ y = grind (arith, nat_tests) in
        let tail = more e in
        cc

then_equal : (o p : Ordering) → ordering_then o p ≡ Equal → (o ≡ Equal) × (p ≡ Equal)
then_equal Less p e = cc
then_equal Greater p e = cc
then_equal Equal p e = (refl, e)

-- supports that compare equal have one pair
pub pairs_same : (r s : Support) → support_cmp r s ≡ Equal → pair_of r ≡ pair_of s
pairs_same r s e =
    let h = then_equal (slice_cmp nat_cmp r.tuple s.tuple) (slice_cmp nat_cmp r.image s.image) e in
    let tuples = numbers_same r.tuple s.tuple h.0 in
    let images = numbers_same r.image s.image h.1 in
    λ i. record { tuple = tuples i; image = images i }

-- ---- a support put into the set

pub put_itself : (k : Support) (xs : List Support) → Has (insert_key support_cmp xs k) (pair_of k)
put_itself k [] = (k, Contains-head k [], refl)
put_itself k (x ∷ xs) = by (support_cmp k x) refl (put_itself k xs)
  where
    by : (o : Ordering) → support_cmp k x ≡ o → Has (insert_key support_cmp xs k) (pair_of k)
        → Has (match_ordering o (k ∷ x ∷ xs) (x ∷ xs) (x ∷ insert_key support_cmp xs k)) (pair_of k)
    by Less is more = (k, Contains-head k (x ∷ xs), refl)
    by Equal is more = (x, Contains-head x xs, sym (pairs_same k x is))
    by Greater is (s, there, e) = (s, Contains-later x (insert_key support_cmp xs k) s there, e)

pub put_kept : (k : Support) (xs : List Support) (r : Support) → Contains xs r → Contains (insert_key support_cmp xs k) r
put_kept k [] r there = absurd (Contains-nil r there)
put_kept k (x ∷ xs) r there = by (support_cmp k x) (Contains-cases x xs r there) (put_kept k xs r)
  where
    by : (o : Ordering) → (x ≡ r) ⊎ Contains xs r → (Contains xs r → Contains (insert_key support_cmp xs k) r)
        → Contains (match_ordering o (k ∷ x ∷ xs) (x ∷ xs) (x ∷ insert_key support_cmp xs k)) r
    by Less _ more = Contains-later k (x ∷ xs) r there
    by Equal _ more = there
    by Greater (inl e) more = subst (Contains (x ∷ insert_key support_cmp xs k)) e (Contains-head x (insert_key support_cmp xs k))
    by Greater (inr later) more = Contains-later x (insert_key support_cmp xs k) r (more later)

-- of a sorted list, the first is less than each other, and the rest is sorted
pub sorted_head : (x : Support) (xs : List Support) → IsStrictlySortedBy support_cmp (x ∷ xs) → (s : Support) → Contains xs s → support_cmp x s ≡ Less
unfolding IsStrictlySortedBy
sorted_head x xs sorted s there = All-contains (λ y. support_cmp x y ≡ Less) xs s (All-from_recursion (λ y. support_cmp x y ≡ Less) xs sorted.0) there

pub sorted_tail : (x : Support) (xs : List Support) → IsStrictlySortedBy support_cmp (x ∷ xs) → IsStrictlySortedBy support_cmp xs
unfolding IsStrictlySortedBy
sorted_tail x xs sorted = sorted.1

differ : (k s : Support) (o : Ordering) → support_cmp k s ≡ o → (o ≡ Equal → ⊥) → pair_of s ≡ pair_of k → ⊥
differ k s o is other e = other (sym is ∙ same_pair k s (sym e))

pub put_only : (k : Support) (xs : List Support) → IsStrictlySortedBy support_cmp xs → (r : Support) → Contains (insert_key support_cmp xs k) r
    → Contains xs r ⊎ ((r ≡ k) × (Has xs (pair_of k) → ⊥))
put_only k [] sorted r there = elim (Contains-cases k [] r there) [ inl e ↦ inr (sym e, λ (s, c, d). Contains-nil s c) | inr h ↦ inl h ]
put_only k (x ∷ xs) sorted r there = by (support_cmp k x) refl there (put_only k xs (sorted_tail x xs sorted) r)
  where
    less_than_all : support_cmp k x ≡ Less → Has (x ∷ xs) (pair_of k) → ⊥
    less_than_all is (s, c, e) = elim (Contains-cases x xs s c) [
      | inl d ↦ differ k s Less (subst (λ (y : Support). support_cmp k y ≡ Less) d is) (λ f. cc f) e
      | inr d ↦ differ k s Less (support_total.trans k x s is (sorted_head x xs sorted s d)) (λ f. cc f) e
    ]

    not_later : support_cmp k x ≡ Greater → (Has xs (pair_of k) → ⊥) → Has (x ∷ xs) (pair_of k) → ⊥
    not_later is none (s, c, e) = elim (Contains-cases x xs s c) [
      | inl d ↦ differ k s Greater (subst (λ (y : Support). support_cmp k y ≡ Greater) d is) (λ f. cc f) e
      | inr d ↦ none (s, d, e)
    ]

    by : (o : Ordering) → support_cmp k x ≡ o → Contains (match_ordering o (k ∷ x ∷ xs) (x ∷ xs) (x ∷ insert_key support_cmp xs k)) r
        → (Contains (insert_key support_cmp xs k) r → Contains xs r ⊎ ((r ≡ k) × (Has xs (pair_of k) → ⊥)))
        → Contains (x ∷ xs) r ⊎ ((r ≡ k) × (Has (x ∷ xs) (pair_of k) → ⊥))
    by Less is there more = elim (Contains-cases k (x ∷ xs) r there) [ inl e ↦ inr (sym e, less_than_all is) | inr h ↦ inl h ]
    by Equal is there more = inl there
    by Greater is there more = elim (Contains-cases x (insert_key support_cmp xs k) r there) [
      | inl e ↦ inl (subst (Contains (x ∷ xs)) e (Contains-head x xs))
      | inr h ↦ elim (more h) [
        | inl g ↦ inl (Contains-later x xs r g)
        | inr (e, none) ↦ inr (e, not_later is none)
      ]
    ]

-- ---- a hit added

module _ (k : Support) (old new : List Support) (put : new ≡ insert_key support_cmp old k) where
  pub added_there : Has new (pair_of k)
  added_there = subst (λ (xs : List Support). Has xs (pair_of k)) (sym put) (put_itself k old)

  pub added_only : IsStrictlySortedBy support_cmp old → AddsOnly (λ h. h ≡ pair_of k) k.member old new
  added_only sorted = record {
    kept = λ s there. subst (λ (xs : List Support). Contains xs s) (sym put) (put_kept k old s there);
    right = λ s there. by s (put_only k old sorted s (subst (λ (xs : List Support). Contains xs s) put there));
  }
    where
      by : (s : Support) → Contains old s ⊎ ((s ≡ k) × (Has old (pair_of k) → ⊥)) → Contains old s
          ⊎ ((s.member ≡ k.member) × (pair_of s ≡ pair_of k) × ¬ Has old (pair_of s))
      by s (inl there) = inl there
      by s (inr (e, none)) = inr (ap (λ (x : Support). x.member) e, ap pair_of e, (λ h. none (subst (Has old) (ap pair_of e) h)))

-- the support of a hit of the member added
module _ (hit : Hit) (member : ℕ) (k : Support) (is : k ≡ support_by member hit) (old new : List Support) (put : new ≡ insert_key support_cmp old k) where
  pub hit_there : Has new hit
  hit_there = added_there (support_by member hit) old new (put ∙ ap (insert_key support_cmp old) is)

  pub hit_only : IsStrictlySortedBy support_cmp old → AddsOnly (λ h. h ≡ hit) member old new
  hit_only sorted = added_only (support_by member hit) old new (put ∙ ap (insert_key support_cmp old) is) sorted

-- supports in order are in order, and so are their pairs
pub supports_ascend : (xs : List Support) → IsStrictlySortedBy support_cmp xs → AllPairs (λ s r. support_cmp s r ≡ Less) xs
supports_ascend xs ordered i j d lt within = Less-from_sorted support_cmp xs i j d ordered lt within

-- the pairs of supports in order are in order
pub pairs_ascend : (xs : List Support) → IsStrictlySortedBy support_cmp xs → AllPairs IsBefore (map pair_of xs)
pairs_ascend xs ordered i j d lt within =
    let inside : j < length xs = omega (arith, within, length-map xs pair_of) in
    let left : get_or (map pair_of xs) i d ≡ pair_of (get_or xs i (support_by 0 d)) = get_or-map pair_of xs i (support_by 0 d) d (omega arith) in
    let right : get_or (map pair_of xs) j d ≡ pair_of (get_or xs j (support_by 0 d)) = get_or-map pair_of xs j (support_by 0 d) d inside in
    rw (left, right) (Less-from_sorted support_cmp xs i j (support_by 0 d) ordered lt inside)
