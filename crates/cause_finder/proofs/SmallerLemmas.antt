-- A group that is narrowed place by place, and the parts of an image that it has.
use Rattle.std.proofs.Common.{◌≡◌, ℕ, zero, suc, ◌+◌, ◌<◌, ◌≤◌, List, [], ◌∷◌, ◌++◌, length, get_or, take, drop, All, Contains, ◌⊎◌, inl, inr, ◌↔◌, Bool}
use Rattle.std.proofs.Common.{true, false, IsTrue, not, refl, sym, ap, ◌∙◌, subst, arith, add-one, add-zero}
use Rattle.std.specs.List.{AllByRecursion}
use Rattle.std.specs.List.Sorted.{IsStrictlySortedBy, IsNonDecreasingBy, IsPartitionPoint}
use lib.Dec.{ltb, leb}
use Rattle.std.proofs.lemmas.Bool.Decides.{nat_tests}
use Rattle.std.specs.Ordering.{nat_cmp, ordering_then}
use Rattle.std.specs.declared.cmp.Ordering.{Ordering}
use Rattle.std.specs.declared.cmp.Ordering.TheVariants.{Less}
use Rattle.std.specs.Cmp.Lexicographic.{slice_cmp, nat_list_cmp_total}
use Rattle.std.proofs.Math.Seq.{drop-cons}
use Rattle.std.proofs.lemmas.Bool.{cases_eq}
use Rattle.std.proofs.lemmas.Cmp.{tied_itself}
use Rattle.std.proofs.lemmas.List.{get_or-drop, length-drop, length-take, take-append-drop}
use Rattle.std.proofs.lemmas.List.Elements.{All-contains, All-from_recursion, recursion_from_All}
use Rattle.std.proofs.lemmas.Map.Keys.{Less-from_sorted}
use Rattle.cq_terms.specs.Lists.{IsAscending}
use Rattle.cq_meaning.proofs.Ascending.{All-of}
use Rattle.cq_meaning.proofs.Listed.{append_left, append_right, append_cases}
use Rattle.cq_meaning.proofs.Members.{Contains-head, Contains-later, Contains-cases}
use Rattle.cause_finder.specs.declared.support.Support.{Support}
use Rattle.cause_finder.specs.Groups.{IsNoPart, HasNoPart}
use Rattle.cause_finder.specs.Smaller.{number_at, tail_cmp, AreNarrowed, HasPartFrom, AreSplit}
use Rattle.cause_finder.specs.Supports.{support_cmp}
use Rattle.cause_finder.proofs.PartsOfLists.{above_has, first_rises, rest_decides, drop_ascends, within_rest, within_above, not_within, within_more}
use Rattle.cause_finder.proofs.PartsOfLists.{within_both, part_shorter}

-- ---- lists in order

module _ (c : Support → Support → Ordering) where
  first_less : (x : Support) (xs : List Support) → IsStrictlySortedBy c (x ∷ xs) → (s : Support) → Contains xs s → c x s ≡ Less
  unfolding IsStrictlySortedBy
  first_less x xs sorted s there = All-contains (λ y. c x y ≡ Less) xs s (All-from_recursion (λ y. c x y ≡ Less) xs sorted.0) there

  recursion_left : (P : Support → Type 0) (xs ys : List Support) → AllByRecursion P (xs ++ ys) → AllByRecursion P xs
  recursion_left P [] ys all = tt
  recursion_left P (x ∷ xs) ys all = (all.0, recursion_left P xs ys all.1)

  pub sorted_left : (xs ys : List Support) → IsStrictlySortedBy c (xs ++ ys) → IsStrictlySortedBy c xs
  unfolding IsStrictlySortedBy
  sorted_left [] ys sorted = tt
  sorted_left (x ∷ xs) ys sorted = (recursion_left (λ y. c x y ≡ Less) xs ys sorted.0, sorted_left xs ys sorted.1)

  sorted_right : (xs ys : List Support) → IsStrictlySortedBy c (xs ++ ys) → IsStrictlySortedBy c ys
  unfolding IsStrictlySortedBy
  sorted_right [] ys sorted = sorted
  sorted_right (x ∷ xs) ys sorted = sorted_right xs ys sorted.1

  -- a list that is in one order is in another that follows from it
  sorted_like : (d : Support → Support → Ordering) (xs : List Support) → ((s r : Support) → Contains xs s → Contains xs r → c s r ≡ Less → d s r ≡ Less)
      → IsStrictlySortedBy c xs → IsStrictlySortedBy d xs
  unfolding IsStrictlySortedBy
  sorted_like d [] follows sorted = tt
  sorted_like d (x ∷ xs) follows sorted = (
    recursion_from_All (λ y. d x y ≡ Less) xs (All-of (λ y. d x y ≡ Less) xs
        (λ y m. follows x y (Contains-head x xs) (Contains-later x xs y m)
        (All-contains (λ z. c x z ≡ Less) xs y (All-from_recursion (λ z. c x z ≡ Less) xs sorted.0) m))),
    sorted_like d xs (λ s r m n. follows s r (Contains-later x xs s m) (Contains-later x xs r n)) sorted.1,
  )

-- ---- a narrowed group

-- a group that some of a narrowed group's supports make, in order
narrowed_some : (depth : ℕ) (group some : List Support) → ((s : Support) → Contains some s → Contains group s) → IsStrictlySortedBy (tail_cmp depth) some
    → AreNarrowed depth group → AreNarrowed depth some
narrowed_some depth group some in_group sorted narrowed = record {
  far = All-of (λ (s : Support). depth ≤ length s.image) some (λ s c. All-contains (λ (x : Support). depth ≤ length x.image) group s narrowed.far
      (in_group s c));
  ascending = All-of (λ (s : Support). IsAscending s.image) some
      (λ s c. All-contains (λ (x : Support). IsAscending x.image) group s narrowed.ascending (in_group s c));
  ordered = sorted;
}

-- where the first image goes on behind the depth, all do
pub all_longer : (depth : ℕ) (f : Support) (more : List Support) → AreNarrowed depth (f ∷ more) → depth < length f.image
    → All (λ s. depth < length s.image) (f ∷ more)
all_longer depth f more narrowed long = All-of (λ (s : Support). depth < length s.image) (f ∷ more) (λ s c. elim (Contains-cases f more s c) [
  | inl e ↦ subst (λ (x : Support). depth < length x.image) e long
  | inr d ↦
      let has = above_has (drop depth f.image) (drop depth s.image) (first_less (tail_cmp depth) f more narrowed.ordered s d) in
      omega (arith, has, length-drop depth s.image)
])

number_is : (depth : ℕ) (s : Support) → get_or (drop depth s.image) 0 0 ≡ number_at depth s
number_is depth s = get_or-drop depth s.image 0 0 ∙ ap (λ (n : ℕ). get_or s.image n 0) (add-zero depth)

-- the numbers at the depth don't fall
pub numbers_rise : (depth : ℕ) (group : List Support) → AreNarrowed depth group → All (λ s. depth < length s.image) group
    → IsNonDecreasingBy (number_at depth) group
numbers_rise depth group narrowed longer i j d le inside = elim (cases_eq i j) [
  | inl e ↦ subst (λ (k : ℕ). number_at depth (get_or group i d) ≤ number_at depth (get_or group k d)) e (omega arith)
  | inr ne ↦
      let less = Less-from_sorted (tail_cmp depth) group i j d narrowed.ordered (omega arith) inside in
      let long : depth < length (get_or group i d).image = longer i d (omega arith) in
      let rises = first_rises (drop depth (get_or group i d).image) (drop depth (get_or group j d).image)
      (omega (arith, long, length-drop depth (get_or group i d).image)) less in
      omega (arith, rises, number_is depth (get_or group i d), number_is depth (get_or group j d))
]

-- an image from a depth on
cut_at : (depth : ℕ) (s : Support) → depth < length s.image → drop depth s.image ≡ number_at depth s ∷ drop (depth + 1) s.image
cut_at depth s long = drop-cons s.image depth 0 long ∙ ap (λ (n : ℕ). number_at depth s ∷ drop n s.image) (sym (add-one depth))

-- ---- the group that is split at a number

module _ (depth number : ℕ) (more : List ℕ) (size : ℕ) (group same above : List Support) (split : AreSplit depth number group same above)
    (narrowed : AreNarrowed depth group) (longer : All (λ s. depth < length s.image) group) where
  in_below : (s : Support) → Contains split.below s → Contains group s
  in_below s c = subst (λ (xs : List Support). Contains xs s) (sym split.whole) (append_left split.below (same ++ above) s c)

  in_same : (s : Support) → Contains same s → Contains group s
  in_same s c = subst (λ (xs : List Support). Contains xs s) (sym split.whole) (append_right split.below (same ++ above) s (append_left same above s c))

  in_above : (s : Support) → Contains above s → Contains group s
  in_above s c = subst (λ (xs : List Support). Contains xs s) (sym split.whole) (append_right split.below (same ++ above) s (append_right same above s c))

  long : (s : Support) → Contains group s → depth < length s.image
  long s c = All-contains (λ (x : Support). depth < length x.image) group s longer c

  tail_ascends : (s : Support) → Contains group s → IsAscending (number_at depth s ∷ drop (depth + 1) s.image)
  tail_ascends s c = subst IsAscending (cut_at depth s (long s c))
      (drop_ascends depth s.image (All-contains (λ (x : Support). IsAscending x.image) group s narrowed.ascending c))

  -- of the supports with the number, what comes behind it is in order
  pub same_narrowed : AreNarrowed (depth + 1) same
  same_narrowed = record {
    far = All-of (λ (s : Support). depth + 1 ≤ length s.image) same (λ s c. let l = long s (in_same s c) in omega (arith, l));
    ascending = All-of (λ (s : Support). IsAscending s.image) same
        (λ s c. All-contains (λ (x : Support). IsAscending x.image) group s narrowed.ascending (in_same s c));
    ordered = sorted_like (tail_cmp depth) (tail_cmp (depth + 1)) same follows
        (sorted_left (tail_cmp depth) same above (sorted_right (tail_cmp depth) split.below (same ++ above)
        (subst (IsStrictlySortedBy (tail_cmp depth)) split.whole narrowed.ordered)));
  }
    where
      cut : (s : Support) → Contains same s → drop depth s.image ≡ number ∷ drop (depth + 1) s.image
      cut s c = cut_at depth s (long s (in_same s c)) ∙ ap (λ (n : ℕ). n ∷ drop (depth + 1) s.image) (split.equal s c)

      follows : (s r : Support) → Contains same s → Contains same r → tail_cmp depth s r ≡ Less → tail_cmp (depth + 1) s r ≡ Less
      follows s r c d less = rest_decides number (drop (depth + 1) s.image) (drop (depth + 1) r.image) (
          subst (λ (xs : List ℕ). slice_cmp nat_cmp (number ∷ drop (depth + 1) s.image) xs ≡ Less) (cut r d)
          (subst (λ (xs : List ℕ). slice_cmp nat_cmp xs (drop depth r.image) ≡ Less) (cut s c) less)
          )

  pub above_narrowed : AreNarrowed depth above
  above_narrowed = narrowed_some depth group above in_above (sorted_right (tail_cmp depth) same above
      (sorted_right (tail_cmp depth) split.below (same ++ above) (subst (IsStrictlySortedBy (tail_cmp depth)) split.whole narrowed.ordered))) narrowed

  pub above_longer : All (λ s. depth < length s.image) above
  above_longer = All-of (λ (s : Support). depth < length s.image) above (λ s c. long s (in_above s c))

  -- a part goes on with the number, or begins above it
  pub part_either : IsAscending (number ∷ more) → HasPartFrom depth (number ∷ more) size group → HasPartFrom (depth + 1) more size same
      ⊎ HasPartFrom depth more size above
  part_either ascending (s, c, all, short) = by (append_cases split.below (same ++ above) s (subst (λ (xs : List Support). Contains xs s) split.whole c))
    where
      here : All (Contains (number ∷ more)) (number_at depth s ∷ drop (depth + 1) s.image)
      here = subst (All (Contains (number ∷ more))) (cut_at depth s (long s c)) all

      in_rest : (n : ℕ) → n ≡ number → IsAscending (n ∷ drop (depth + 1) s.image) → All (Contains (number ∷ more)) (n ∷ drop (depth + 1) s.image)
          → All (Contains more) (drop (depth + 1) s.image)
      in_rest n e a h = within_rest number more (drop (depth + 1) s.image) (subst (λ (k : ℕ). IsAscending (k ∷ drop (depth + 1) s.image)) e a)
          (subst (λ (k : ℕ). All (Contains (number ∷ more)) (k ∷ drop (depth + 1) s.image)) e h)

      behind : Contains same s ⊎ Contains above s → HasPartFrom (depth + 1) more size same ⊎ HasPartFrom depth more size above
      behind (inl d) = inl (s, d, in_rest (number_at depth s) (split.equal s d) (tail_ascends s c) here, short)
      behind (inr d) = inr (
        s,
        d,
        subst (All (Contains more)) (sym (cut_at depth s (long s c)))
            (within_above number more (number_at depth s) (drop (depth + 1) s.image) (split.greater s d) (tail_ascends s c) here),
        short,
      )

      by : Contains split.below s ⊎ Contains (same ++ above) s → HasPartFrom (depth + 1) more size same ⊎ HasPartFrom depth more size above
      by (inl d) = absurd (not_within number more (number_at depth s) (drop (depth + 1) s.image) (split.less s d) ascending here)
      by (inr d) = behind (append_cases same above s d)

  pub part_same : HasPartFrom (depth + 1) more size same → HasPartFrom depth (number ∷ more) size group
  part_same (s, c, all, short) = (
    s,
    in_same s c,
    subst (All (Contains (number ∷ more))) (sym (cut_at depth s (long s (in_same s c)) ∙ ap (λ (n : ℕ). n ∷ drop (depth + 1) s.image) (split.equal s c)))
        (within_both number more (drop (depth + 1) s.image) all),
    short,
  )

  pub part_above : HasPartFrom depth more size above → HasPartFrom depth (number ∷ more) size group
  part_above (s, c, all, short) = (s, in_above s c, within_more number more (drop depth s.image) all, short)

-- ---- all of a group

-- of supports of one tuple, the images are in the order of the supports
pub images_in_order : (s r : Support) → s.tuple ≡ r.tuple → support_cmp s r ≡ Less → slice_cmp nat_cmp s.image r.image ≡ Less
images_in_order s r same less =
    let tied = tied_itself nat_list_cmp_total r.tuple in
    let there = subst (λ (t : List ℕ). ordering_then (slice_cmp nat_cmp t r.tuple) (slice_cmp nat_cmp s.image r.image) ≡ Less) same less in
    subst (λ (o : Ordering). ordering_then o (slice_cmp nat_cmp s.image r.image) ≡ Less) tied there

pub narrowed_first : (group : List Support) (tuple : List ℕ) → All (λ s. s.tuple ≡ tuple) group → IsStrictlySortedBy support_cmp group
    → All (λ s. IsAscending s.image) group → AreNarrowed 0 group
narrowed_first group tuple same sorted ascending = record {
  far = λ k d l. omega arith;
  ascending = ascending;
  ordered = sorted_like support_cmp (tail_cmp 0) group (λ s r c d less. images_in_order s r
      (All-contains (λ (x : Support). x.tuple ≡ tuple) group s same c ∙ sym (All-contains (λ (x : Support). x.tuple ≡ tuple) group r same d)) less) sorted;
}

pub no_part : (b : Bool) (group : List Support) (image : List ℕ) → AreNarrowed 0 group → IsAscending image → IsTrue b
    ↔ HasPartFrom 0 image (length image) group → IsTrue (not b) ↔ HasNoPart group image
no_part true group image narrowed ascending iff = (
  (λ isnt. absurd (cc isnt)),
  λ none. absurd (by (iff.0 refl) none),
)
  where
    by : HasPartFrom 0 image (length image) group → HasNoPart group image → ⊥
    by (s, c, all, short) none = let e = All-contains (λ (x : Support). IsNoPart x.image image) group s none c all in omega (arith, ap length e)
no_part false group image narrowed ascending iff = (
  (λ is. All-of (λ (s : Support). IsNoPart s.image image) group
      (λ s c all. elim (part_shorter image s.image ascending (All-contains (λ (x : Support). IsAscending x.image) group s narrowed.ascending c) all) [
        | inl e ↦ e
        | inr less ↦ absurd (let isnt = iff.1 (s, c, all, less) in cc isnt)
      ])),
  λ none. refl,
)

-- ---- where a group is split

module _ (n : Support → ℕ) (xs : List Support) (t i : ℕ) where
  pub before_point : IsPartitionPoint (λ y. ltb (n y) t ≡ true) (λ y. ltb (n y) t ≡ false) xs i → (k : ℕ) (d : Support) → k < i → n (get_or xs k d) < t
  before_point point k d l = let h = point.0 k d (omega arith) l in grind (arith, nat_tests)

  pub behind_point : IsPartitionPoint (λ y. ltb (n y) t ≡ true) (λ y. ltb (n y) t ≡ false) xs i → (k : ℕ) (d : Support) → i ≤ k → k < length xs
      → t ≤ n (get_or xs k d)
  behind_point point k d l m = let h = point.1 k d l m in grind (arith, nat_tests)

  pub before_last_point : IsPartitionPoint (λ y. leb (n y) t ≡ true) (λ y. leb (n y) t ≡ false) xs i → (k : ℕ) (d : Support) → k < i → n (get_or xs k d) ≤ t
  before_last_point point k d l = let h = point.0 k d (omega arith) l in grind (arith, nat_tests)

  pub behind_last_point : IsPartitionPoint (λ y. leb (n y) t ≡ true) (λ y. leb (n y) t ≡ false) xs i → (k : ℕ) (d : Support) → i ≤ k → k < length xs
      → t < n (get_or xs k d)
  behind_last_point point k d l m = let h = point.1 k d l m in grind (arith, nat_tests)

get_or-take_within : (i : ℕ) (xs : List Support) (k : ℕ) (d : Support) → k < i → get_or (take i xs) k d ≡ get_or xs k d
get_or-take_within zero xs k d l = absurd (omega arith)
get_or-take_within (suc i) [] k d l = refl
get_or-take_within (suc i) (x ∷ xs) zero d l = refl
get_or-take_within (suc i) (x ∷ xs) (suc k) d l = get_or-take_within i xs k d (omega arith)

pub taken : (P : Support → Type 0) (i : ℕ) (xs : List Support) → ((k : ℕ) (d : Support) → k < i → k < length xs → P (get_or xs k d)) → (s : Support)
    → Contains (take i xs) s → P s
taken P i xs all s (k, l, e) =
    let few : k < i = omega (arith, l, length-take i xs) in
    let inside : k < length xs = omega (arith, l, length-take i xs) in
    subst P (sym (get_or-take_within i xs k s few) ∙ e) (all k s few inside)

dropped : (P : Support → Type 0) (i : ℕ) (xs : List Support) → ((k : ℕ) (d : Support) → i ≤ k → k < length xs → P (get_or xs k d)) → (s : Support)
    → Contains (drop i xs) s → P s
dropped P i xs all s (k, l, e) = subst P (sym (get_or-drop i xs k s) ∙ e) (all (i + k) s (omega arith) (omega (arith, l, length-drop i xs)))

-- the two places split the group
pub split_at_both : (depth number : ℕ) (group : List Support) (i j : ℕ)
    → ((k : ℕ) (d : Support) → k < i → number_at depth (get_or group k d) < number)
    → ((k : ℕ) (d : Support) → i ≤ k → k < length group → number ≤ number_at depth (get_or group k d))
    → ((k : ℕ) (d : Support) → k < j → number_at depth (get_or (drop i group) k d) ≤ number)
    → ((k : ℕ) (d : Support) → j ≤ k → k < length (drop i group) → number < number_at depth (get_or (drop i group) k d))
    → AreSplit depth number group (take j (drop i group)) (drop j (drop i group))
split_at_both depth number group i j below from upto above = record {
  below = take i group;
  whole = sym (ap (λ (xs : List Support). take i group ++ xs) (take-append-drop j (drop i group)) ∙ take-append-drop i group);
  less = taken (λ (s : Support). number_at depth s < number) i group (λ k d l m. below k d l);
  equal = λ s c. least s (taken (λ (r : Support). number_at depth r ≤ number) j (drop i group) (λ k d l m. upto k d l) s c)
      (dropped (λ (r : Support). number ≤ number_at depth r) i group from s (in_front s c));
  greater = dropped (λ (s : Support). number < number_at depth s) j (drop i group) above;
}
  where
    least : (s : Support) → number_at depth s ≤ number → number ≤ number_at depth s → number_at depth s ≡ number
    least s l m = omega arith

    in_front : (s : Support) → Contains (take j (drop i group)) s → Contains (drop i group) s
    in_front s c = subst (λ (xs : List Support). Contains xs s) (take-append-drop j (drop i group))
        (append_left (take j (drop i group)) (drop j (drop i group)) s c)

pub split_between : (depth number : ℕ) (group : List Support) (i j : ℕ) (rest same above : List Support) → rest ≡ drop i group → same ≡ take j rest
    → above ≡ drop j rest
    → ((k : ℕ) (d : Support) → k < i → number_at depth (get_or group k d) < number)
    → ((k : ℕ) (d : Support) → i ≤ k → k < length group → number ≤ number_at depth (get_or group k d))
    → ((k : ℕ) (d : Support) → k < j → number_at depth (get_or rest k d) ≤ number)
    → ((k : ℕ) (d : Support) → j ≤ k → k < length rest → number < number_at depth (get_or rest k d))
    → AreSplit depth number group same above
split_between depth number group i j rest same above rest_is same_is above_is below from upto greater =
    subst (λ (xs : List Support). AreSplit depth number group xs above) (sym same_is)
    (subst (λ (xs : List Support). AreSplit depth number group (take j rest) xs) (sym above_is)
    (subst (λ (xs : List Support). AreSplit depth number group (take j xs) (drop j xs)) (sym rest_is)
    (split_at_both depth number group i j below from (subst (λ (xs : List Support). (k : ℕ) (d : Support) → k < j → number_at depth (get_or xs k d) ≤ number)
    rest_is upto)
    (subst (λ (xs : List Support). (k : ℕ) (d : Support) → j ≤ k → k < length xs → number < number_at depth (get_or xs k d)) rest_is greater))))
