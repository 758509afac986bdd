-- Rows in the order of a set: how one is added, and what they are as hits.
use Rattle.std.proofs.Common.{◌≡◌, ℕ, ◌<◌, List, [], ◌∷◌, length, get_or, map, All, AllPairs, Contains, ◌⊎◌, inl, inr, refl, sym, ap, ◌∙◌, subst, arith}
use Rattle.std.specs.Ordering.{nat_cmp, ordering_then, ordering_reverse, match_ordering}
use Rattle.std.specs.Cmp.{IsTotalOrder}
use Rattle.std.specs.Cmp.Lexicographic.{slice_cmp, nat_list_cmp_total}
use Rattle.std.specs.List.Sorted.{IsStrictlySortedBy}
use Rattle.std.specs.BTreeSet.{insert_key}
use Rattle.std.specs.declared.cmp.Ordering.{Ordering}
use Rattle.std.specs.declared.cmp.Ordering.TheVariants.{Less, Equal, Greater}
use Rattle.std.proofs.lemmas.Bool.Decides.{nat_tests}
use Rattle.std.proofs.lemmas.Cmp.{then_total, on_total}
use Rattle.std.proofs.lemmas.Map.Keys.{Less-from_sorted}
use Rattle.std.proofs.lemmas.List.{get_or-map, length-map}
use Rattle.std.proofs.lemmas.List.Elements.{All-map, Contains-get_or}
use Rattle.cq_terms.specs.declared.hits.Hit.{Hit}
use Rattle.cq_meaning.proofs.Members.{Contains-head, Contains-later, Contains-cases, Contains-nil}
use Rattle.query_matching.specs.declared.row.Row.{Row}
use Rattle.query_matching.specs.Hits.{IsBefore}
use Rattle.query_matching.specs.Rows.{row_cmp, hit_of}

-- ---- the order

numbers_same : (xs ys : List ℕ) → slice_cmp nat_cmp xs ys ≡ Equal → xs ≡ ys
numbers_same [] [] e = refl
numbers_same [] (y ∷ ys) e = cc
numbers_same (x ∷ xs) [] e = cc
numbers_same (x ∷ xs) (y ∷ ys) e = by (nat_cmp x y) refl e (numbers_same xs ys)
  where
    by : (o : Ordering) → nat_cmp x y ≡ o → ordering_then o (slice_cmp nat_cmp xs ys) ≡ Equal → (slice_cmp nat_cmp xs ys ≡ Equal → xs ≡ ys) → x ∷ xs ≡ y ∷ ys
    by Less is e more = cc
    by Greater is e more = cc
    by Equal is e more =
        let head : x ≡ y = grind (arith, nat_tests) in
        let tail = more e in
        cc

pub row_total : IsTotalOrder row_cmp
row_total = then_total (on_total (λ (r : Row). r.tuple) nat_list_cmp_total) (on_total (λ (r : Row). r.image) nat_list_cmp_total)

then_equal : (o p : Ordering) → ordering_then o p ≡ Equal → (o ≡ Equal) × (p ≡ Equal)
then_equal Less p e = cc
then_equal Greater p e = cc
then_equal Equal p e = (refl, e)

-- rows that compare equal are equal
pub rows_same : (r s : Row) → row_cmp r s ≡ Equal → r ≡ s
rows_same r s e =
    let h = then_equal (slice_cmp nat_cmp r.tuple s.tuple) (slice_cmp nat_cmp r.image s.image) e in
    let tuples = numbers_same r.tuple s.tuple h.0 in
    let images = numbers_same r.image s.image h.1 in
    λ i. record { tuple = tuples i; image = images i }

-- ---- a row put into the set

pub put_itself : (k : Row) (rows : List Row) → Contains (insert_key row_cmp rows k) k
put_itself k [] = Contains-head k []
put_itself k (x ∷ xs) = by (row_cmp k x) refl (put_itself k xs)
  where
    by : (o : Ordering) → row_cmp k x ≡ o → Contains (insert_key row_cmp xs k) k
        → Contains (match_ordering o (k ∷ x ∷ xs) (x ∷ xs) (x ∷ insert_key row_cmp xs k)) k
    by Less is more = Contains-head k (x ∷ xs)
    by Equal is more = subst (Contains (x ∷ xs)) (sym (rows_same k x is)) (Contains-head x xs)
    by Greater is more = Contains-later x (insert_key row_cmp xs k) k more

pub put_kept : (k : Row) (rows : List Row) (r : Row) → Contains rows r → Contains (insert_key row_cmp rows k) r
put_kept k [] r there = absurd (Contains-nil r there)
put_kept k (x ∷ xs) r there = by (row_cmp k x) (Contains-cases x xs r there) (put_kept k xs r)
  where
    by : (o : Ordering) → (x ≡ r) ⊎ Contains xs r → (Contains xs r → Contains (insert_key row_cmp xs k) r)
        → Contains (match_ordering o (k ∷ x ∷ xs) (x ∷ xs) (x ∷ insert_key row_cmp xs k)) r
    by Less _ more = Contains-later k (x ∷ xs) r there
    by Equal _ more = there
    by Greater (inl e) more = subst (Contains (x ∷ insert_key row_cmp xs k)) e (Contains-head x (insert_key row_cmp xs k))
    by Greater (inr later) more = Contains-later x (insert_key row_cmp xs k) r (more later)

pub put_only : (k : Row) (rows : List Row) (r : Row) → Contains (insert_key row_cmp rows k) r → Contains rows r ⊎ (k ≡ r)
put_only k [] r there = first (Contains-cases k [] r there)
  where
    first : (k ≡ r) ⊎ Contains [] r → Contains [] r ⊎ (k ≡ r)
    first (inl e) = inr e
    first (inr h) = inl h
put_only k (x ∷ xs) r there = by (row_cmp k x) there (put_only k xs r)
  where
    first : (k ≡ r) ⊎ Contains (x ∷ xs) r → Contains (x ∷ xs) r ⊎ (k ≡ r)
    first (inl e) = inr e
    first (inr h) = inl h

    later : (Contains (insert_key row_cmp xs k) r → Contains xs r ⊎ (k ≡ r)) → (x ≡ r) ⊎ Contains (insert_key row_cmp xs k) r → Contains (x ∷ xs) r ⊎ (k ≡ r)
    later more (inl e) = inl (subst (Contains (x ∷ xs)) e (Contains-head x xs))
    later more (inr h) = in_rest (more h)
      where
        in_rest : Contains xs r ⊎ (k ≡ r) → Contains (x ∷ xs) r ⊎ (k ≡ r)
        in_rest (inl g) = inl (Contains-later x xs r g)
        in_rest (inr e) = inr e

    by : (o : Ordering) → Contains (match_ordering o (k ∷ x ∷ xs) (x ∷ xs) (x ∷ insert_key row_cmp xs k)) r
        → (Contains (insert_key row_cmp xs k) r → Contains xs r ⊎ (k ≡ r)) → Contains (x ∷ xs) r ⊎ (k ≡ r)
    by Less there more = first (Contains-cases k (x ∷ xs) r there)
    by Equal there more = inl there
    by Greater there more = later more (Contains-cases x (insert_key row_cmp xs k) r there)

-- ---- rows as hits

abbrev pub row_of : Hit → Row
row_of h = record { tuple = h.tuple; image = h.image }

-- the hits of rows in order are in order
pub hits_ascend : (rows : List Row) → IsStrictlySortedBy row_cmp rows → AllPairs IsBefore (map hit_of rows)
hits_ascend rows ordered i j d lt within =
    let inside : j < length rows = omega (arith, within, length-map rows hit_of) in
    let left : get_or (map hit_of rows) i d ≡ hit_of (get_or rows i (row_of d)) = get_or-map hit_of rows i (row_of d) d (omega arith) in
    let right : get_or (map hit_of rows) j d ≡ hit_of (get_or rows j (row_of d)) = get_or-map hit_of rows j (row_of d) d inside in
    rw (left, right) (Less-from_sorted row_cmp rows i j (row_of d) ordered lt inside)

pub hit_there : (rows : List Row) (h : Hit) → Contains rows (row_of h) → Contains (map hit_of rows) h
hit_there rows h (k, within, at) =
    (k, omega (arith, within, length-map rows hit_of), get_or-map hit_of rows k (row_of h) h within ∙ ap hit_of at)

pub all_hits : (P : Hit → Type 0) (rows : List Row) → ((r : Row) → Contains rows r → P (hit_of r)) → All P (map hit_of rows)
all_hits P rows each = All-map P hit_of rows (λ k d l. each (get_or rows k d) (Contains-get_or rows k d l))

-- no hit comes before itself
pub not_before_itself : (a : Hit) → IsBefore a a → ⊥
not_before_itself a h =
    let flip = row_total.antisymm (row_of a) (row_of a) in
    let is_less : row_cmp (row_of a) (row_of a) ≡ Less = h in
    let both : Less ≡ ordering_reverse Less = sym is_less ∙ flip ∙ ap ordering_reverse is_less in
    cc both
