-- What the matches in a part of a table say of the whole.
use Rattle.std.proofs.Common.{◌≡◌, ◌≢◌, ℕ, suc, ◌<◌, ◌≤◌, List, [], ◌∷◌, length, map, Contains, ◌⊎◌, inl, inr, ◌↔◌, Bool, true, false, slice_get, Some, refl}
use Rattle.std.proofs.Common.{sym, ap, ◌∙◌, subst, arith, AllPairs, not, ◌==◌}
use Rattle.std.specs.Bool.{IsTrue}
use Rattle.std.specs.List.{All, AllZip}
use Rattle.std.specs.Ordering.{ordering_reverse, ordering_then, nat_cmp}
use Rattle.std.specs.Cmp.Lexicographic.{slice_cmp}
use Rattle.std.proofs.lemmas.Cmp.{nat_list_cmp_total}
use Rattle.std.proofs.lemmas.Bool.Decides.{nat_tests}
use Rattle.std.specs.declared.cmp.Ordering.{Ordering}
use Rattle.std.specs.declared.cmp.Ordering.TheVariants.{Less, Equal, Greater}
use Rattle.std.proofs.lemmas.Bool.{cases_eq, cases_lt}
use Rattle.std.proofs.lemmas.List.{length-map}
use Rattle.std.proofs.lemmas.Option.{slice_get_within}
use Rattle.std.proofs.lemmas.List.Elements.{All-contains}
use Rattle.std.proofs.lemmas.List.Kept.{AllPairs-cons}
use Rattle.cq_terms.specs.declared.facts.Fact.{Fact}
use Rattle.cq_terms.specs.declared.hits.Hit.{Hit}
use Rattle.cq_terms.specs.Knowledge.{AreDistinct}
use Rattle.cq_terms.specs.Query.{Query}
use Rattle.cq_meaning.specs.Entailment.{HasImage}
use Rattle.cq_terms.specs.Lists.{IsAscending}
use Rattle.cq_meaning.proofs.Members.{Contains-head, Contains-later, Contains-cases, Contains-nil, Contains-slice_get, slice_get-Contains}
use Rattle.cq_meaning.proofs.Places.{some_inj}
use Rattle.cq_meaning.proofs.Supports.{image_has}
use Rattle.cq_meaning.proofs.Ascending.{All-of, ascending_same}
use Rattle.query_matching.specs.Hits.{IsHit, IsBefore, AreHits, HasMoreHits}
use Rattle.query_matching.proofs.Ascending.{AllPairs-head, AllPairs-tail}
use Rattle.conflict_finder.specs.Finding.{HasMoreSets}
use Rattle.conflict_finder.specs.declared.clash_facts.ClashFacts.{ClashFacts}
use Rattle.conflict_finder.specs.declared.clash_facts.ClashFacts.TheVariants.{One, Two}
use Rattle.conflict_finder.specs.declared.sought.Sought.TheVariants.{Pairs}
use Rattle.conflict_finder.specs.Images.{ArePart, AreKeys, IsShort, IsTwoAt}
use Rattle.conflict_finder.specs.FirstShown.{numbers_of, IsWanted}
use Rattle.conflict_finder.proofs.Parts.{zip_there, zip_back, lesser, in_whole, in_part, numbers_at, zip_at, ascends_at, one_place}

-- ---- queries with no head

zip_nil : {A B : Type 0} (R : A → B → Type 0) (xs : List A) (ys : List B) → xs ≡ [] → AllZip R xs ys → ys ≡ []
zip_nil R [] [] e h = refl
zip_nil R [] (y ∷ ys) e h = absurd h
zip_nil R (x ∷ xs) ys e h = cc

pub boolean : (facts : List Fact) (q : Query) (tuple numbers : List ℕ) → q.head ≡ [] → HasImage facts q tuple numbers → (tuple ≡ [])
    × HasImage facts q [] numbers
boolean facts q tuple numbers e h = let none = zip_nil _ q.head tuple e h.match.1.1 in (none, subst (λ (t : List ℕ). HasImage facts q t numbers) none h)

-- ---- an image has a number

zip_first : {A B : Type 0} (R : A → B → Type 0) (xs : List A) (ys : List B) → 0 < length xs → AllZip R xs ys → (y : B) × Contains ys y
zip_first R [] ys l h = absurd (omega arith)
zip_first R (x ∷ xs) [] l h = absurd h
zip_first R (x ∷ xs) (y ∷ ys) l h = (y, Contains-head y ys)

pub some_number : (facts : List Fact) (q : Query) (numbers : List ℕ) → 0 < length q.body → HasImage facts q [] numbers → (n : ℕ) × Contains numbers n
some_number facts q numbers l h =
    let f = zip_first _ q.body h.match.0 l h.match.1.2 in
    let n = slice_get-Contains facts f.0 (image_has (Contains facts) q [] h.match.0 h.match.1 f.0 f.1) in
    (n.0, (h.match.2 n.0).1 (f.0, f.1, n.1))

-- ---- a list compared with itself

same_order : (o : Ordering) → o ≡ ordering_reverse o → o ≡ Equal
same_order Less e = cc
same_order Equal e = refl
same_order Greater e = cc

list_same : (xs : List ℕ) → slice_cmp nat_cmp xs xs ≡ Equal
list_same xs = same_order (slice_cmp nat_cmp xs xs) (nat_list_cmp_total.antisymm xs xs)

not_less : (o p : Ordering) → o ≡ Equal → p ≡ Equal → ordering_then o p ≡ Less → ⊥
not_less o p e f l = let same : ordering_then o p ≡ Equal = rw (e, f) refl in cc

-- ---- one fact alone

pub one_ascends : (i : ℕ) → IsAscending (i ∷ [])
one_ascends i a b d ab l = absurd (omega arith)

pub alone_image : (f : Fact) (q : Query) (numbers : List ℕ) → 0 < length q.body → HasImage (f ∷ []) q [] numbers → HasImage (f ∷ []) q [] (0 ∷ [])
alone_image f q numbers l h = subst (HasImage (f ∷ []) q []) (ascending_same numbers (0 ∷ []) h.ascending (one_ascends 0) there back) h
  where
    zero_only : (i : ℕ) → Contains numbers i → i ≡ 0
    zero_only i c = let g = (h.match.2 i).0 c in let k = slice_get_within (f ∷ []) i g.0 g.2 in omega (arith, k)

    there : (i : ℕ) → Contains numbers i → Contains (0 ∷ []) i
    there i c = subst (Contains (0 ∷ [])) (sym (zero_only i c)) (Contains-head 0 [])

    back : (i : ℕ) → Contains (0 ∷ []) i → Contains numbers i
    back i c = elim (Contains-cases 0 [] i c) [
      | inl e ↦ let w = some_number (f ∷ []) q numbers l h in subst (Contains numbers) (zero_only w.0 w.1 ∙ e) w.1
      | inr n ↦ absurd (Contains-nil i n)
    ]

pub alone_hits : (f : Fact) (q : Query) (hits : List Hit) → IsShort q → All (IsHit (f ∷ []) q) hits → 0 < length hits → HasImage (f ∷ []) q [] (0 ∷ [])
alone_hits f q [] s all k = absurd (omega arith)
alone_hits f q (hit ∷ hits) s all k =
    let h = All-contains (IsHit (f ∷ []) q) (hit ∷ hits) hit all (Contains-head hit hits) in
    alone_image f q hit.image s.1 (boolean (f ∷ []) q hit.tuple hit.image s.0 h).1

-- a fact alone as a part of a table
pub alone_part : (facts : List Fact) → AreDistinct facts → (n : ℕ) (f : Fact) → slice_get facts n ≡ Some f → ArePart facts (n ∷ []) (f ∷ [])
alone_part facts distinct n f e = record { distinct = distinct; ascending = one_ascends n; each = (e, tt) }

pub alone_in_whole : (facts : List Fact) → AreDistinct facts → (q : Query) (n : ℕ) (f : Fact) → slice_get facts n ≡ Some f → HasImage (f ∷ []) q [] (0 ∷ [])
    → HasImage facts q [] (n ∷ [])
alone_in_whole facts distinct q n f e h = in_whole facts distinct (n ∷ []) (f ∷ []) (alone_part facts distinct n f e) q (n ∷ []) (0 ∷ []) (refl, tt)
    (one_ascends n) h

pub alone_in_part : (facts : List Fact) → AreDistinct facts → (q : Query) (n : ℕ) (f : Fact) → slice_get facts n ≡ Some f → HasImage facts q [] (n ∷ [])
    → HasImage (f ∷ []) q [] (0 ∷ [])
alone_in_part facts distinct q n f e h = in_part facts distinct (n ∷ []) (f ∷ []) (alone_part facts distinct n f e) q (n ∷ []) (0 ∷ []) (refl, tt)
    (one_ascends 0) h

-- ---- at most two facts

pub not_three : (facts : List Fact) → AreDistinct facts → (q : Query) (numbers : List ℕ) → length q.body ≤ 2 → HasImage facts q [] numbers → (a b c : ℕ)
    → Contains numbers a → Contains numbers b → Contains numbers c → a < b → b < c → ⊥
not_three facts distinct q numbers l h a b c ca cb cd ab bc =
    let fa = (h.match.2 a).0 ca in
    let fb = (h.match.2 b).0 cb in
    let fc = (h.match.2 c).0 cd in
    let ka = slice_get-Contains h.match.0 fa.0 fa.1 in
    let kb = slice_get-Contains h.match.0 fb.0 fb.1 in
    let kc = slice_get-Contains h.match.0 fc.0 fc.1 in
    let la = slice_get_within h.match.0 ka.0 fa.0 ka.1 in
    let lb = slice_get_within h.match.0 kb.0 fb.0 kb.1 in
    let lc = slice_get_within h.match.0 kc.0 fc.0 kc.1 in
    let same : length h.match.0 ≡ length q.body = zip_length _ q.body h.match.0 h.match.1.2 in
    let apart_ab = apart a b ka.0 kb.0 fa.0 fb.0 ka.1 kb.1 fa.2 fb.2 in
    let apart_bc = apart b c kb.0 kc.0 fb.0 fc.0 kb.1 kc.1 fb.2 fc.2 in
    let apart_ac = apart a c ka.0 kc.0 fa.0 fc.0 ka.1 kc.1 fa.2 fc.2 in
    pick ka.0 kb.0 kc.0 (omega (arith, la, same, l)) (omega (arith, lb, same, l)) (omega (arith, lc, same, l)) (λ e. let w = apart_ab e in omega (arith, w))
    (λ e. let w = apart_bc e in omega (arith, w)) (λ e. let w = apart_ac e in omega (arith, w))
  where
    zip_length : {A B : Type 0} (R : A → B → Type 0) (xs : List A) (ys : List B) → AllZip R xs ys → length ys ≡ length xs
    zip_length R [] [] z = refl
    zip_length R [] (y ∷ ys) z = absurd z
    zip_length R (x ∷ xs) [] z = absurd z
    zip_length R (x ∷ xs) (y ∷ ys) z = ap suc (zip_length R xs ys z.1)

    apart : (m n k j : ℕ) (f g : Fact) → slice_get h.match.0 k ≡ Some f → slice_get h.match.0 j ≡ Some g → slice_get facts m ≡ Some f
        → slice_get facts n ≡ Some g → k ≡ j → m ≡ n
    apart m n k j f g e e' d d' p = distinct m n f d (subst (λ (x : Fact). slice_get facts n ≡ Some x)
        (some_inj (sym e' ∙ ap (slice_get h.match.0) (sym p) ∙ e)) d')

    pick : (i j k : ℕ) → i < 2 → j < 2 → k < 2 → (i ≡ j → ⊥) → (j ≡ k → ⊥) → (i ≡ k → ⊥) → ⊥
    pick i j k li lj lk ij jk ik = go (cases_eq i j) (cases_eq j k) (cases_eq i k)
      where
        go : (i ≡ j) ⊎ (i ≡ j → ⊥) → (j ≡ k) ⊎ (j ≡ k → ⊥) → (i ≡ k) ⊎ (i ≡ k → ⊥) → ⊥
        go (inl e) _ _ = ij e
        go (inr _) (inl e) _ = jk e
        go (inr _) (inr _) (inl e) = ik e
        go (inr a') (inr b') (inr c') = omega arith

-- ---- two numbers

pub two_ascend : (i j : ℕ) → i < j → IsAscending (i ∷ j ∷ [])
two_ascend i j ij = AllPairs-cons (λ a b. a < b) i (j ∷ []) (All-of (λ l. i < l) (j ∷ [])
    (λ l c. elim (Contains-cases j [] l c) [ inl e ↦ omega arith | inr n ↦ absurd (Contains-nil l n) ])) (one_ascends j)

pub ascend_two : (i j : ℕ) → IsAscending (i ∷ j ∷ []) → i < j
ascend_two i j a = All-contains (λ l. i < l) (j ∷ []) j (AllPairs-head (λ x y. x < y) i (j ∷ []) a) (Contains-head j [])

-- ---- pairs

module _ (facts : List Fact) (distinct : AreDistinct facts) (numbers : List ℕ) (part : List Fact) (are : ArePart facts numbers part) (q : Query)
    (short : IsShort q) where
  pub pair_keys : (hits : List Hit) → AreHits part q hits → (keys : List ClashFacts)
      → AreKeys (λ k. (h : Hit) × Contains hits h × IsTwoAt numbers h.image k) keys
      → AreKeys (λ k. IsWanted Pairs numbers (numbers_of k) × HasImage facts q [] (numbers_of k)) keys
  pair_keys hits all keys told k = ((λ c. there k ((told k).0 c)), (λ w. (told k).1 (back k w.0.0 w.0.1 w.1)))
    where
      image_there : (a b i j : ℕ) → HasImage part q [] (i ∷ j ∷ []) → slice_get numbers i ≡ Some a → slice_get numbers j ≡ Some b
          → IsWanted Pairs numbers (a ∷ b ∷ []) × HasImage facts q [] (a ∷ b ∷ [])
      image_there a b i j h e f =
          let l = lesser numbers are.ascending i j a b (ascend_two i j h.ascending) e f in
          let both : All (Contains numbers) (a ∷ b ∷ []) = All-of (Contains numbers) (a ∷ b ∷ []) (λ n c. elim (Contains-cases a (b ∷ []) n c) [
            | inl d ↦ subst (Contains numbers) d (Contains-slice_get numbers i a e)
            | inr c' ↦ elim (Contains-cases b [] n c') [
              | inl d ↦ subst (Contains numbers) d (Contains-slice_get numbers j b f)
              | inr z ↦
                  absurd (Contains-nil n z)
            ]
          ]) in
          ((refl, both), in_whole facts distinct numbers part are q (a ∷ b ∷ []) (i ∷ j ∷ []) (e, (f, tt)) (two_ascend a b l) h)

      there : (k : ClashFacts) → (h : Hit) × Contains hits h × IsTwoAt numbers h.image k → IsWanted Pairs numbers (numbers_of k)
          × HasImage facts q [] (numbers_of k)
      there (One a) w = absurd w.2
      there (Two a b) w = image_there a b w.2.0 w.2.1 (subst (HasImage part q []) w.2.2
          (boolean part q w.0.tuple w.0.image short.0 (All-contains (IsHit part q) hits w.0 all.each w.1)).1) w.2.3 w.2.4

      in_order : (a b i j : ℕ) → a < b → slice_get numbers i ≡ Some a → slice_get numbers j ≡ Some b → i < j
      in_order a b i j l e f = go (cases_lt i j) (cases_eq i j)
        where
          go : (i < j) ⊎ (j ≤ i) → (i ≡ j) ⊎ (i ≡ j → ⊥) → i < j
          go (inl p) _ = p
          go (inr p) (inl d) = let same = some_inj (sym e ∙ ap (slice_get numbers) d ∙ f) in absurd (omega (arith, same, l))
          go (inr p) (inr n) = let w = lesser numbers are.ascending j i b a (omega arith) f e in absurd (omega (arith, w, l))

      back : (k : ClashFacts) → length (numbers_of k) ≡ 2 → All (Contains numbers) (numbers_of k) → HasImage facts q [] (numbers_of k) → (h : Hit)
          × Contains hits h × IsTwoAt numbers h.image k
      back (One a) two both h = absurd (omega (arith, two))
      back (Two a b) two both h =
          let i = slice_get-Contains numbers a (All-contains (Contains numbers) (a ∷ b ∷ []) a both (Contains-head a (b ∷ []))) in
          let j = slice_get-Contains numbers b (All-contains (Contains numbers) (a ∷ b ∷ []) b both (Contains-later a (b ∷ []) b (Contains-head b []))) in
          let l = in_order a b i.0 j.0 (ascend_two a b h.ascending) i.1 j.1 in
          let image = in_part facts distinct numbers part are q (a ∷ b ∷ []) (i.0 ∷ j.0 ∷ []) (i.1, (j.1, tt)) (two_ascend i.0 j.0 l) h in
          (record { tuple = []; image = i.0 ∷ j.0 ∷ [] }, all.complete (record { tuple = []; image = i.0 ∷ j.0 ∷ [] }) image, (i.0, j.0, refl, i.1, j.1))

  named : (h : Hit) → IsHit part q h → (i : ℕ) → Contains h.image i → i < length numbers
  named h hit i c =
      let f = (hit.match.2 i).0 c in
      let z = slice_get_within part i f.0 f.2 in
      let same = same_length numbers part are.each in
      omega (arith, z, same)
    where
      same_length : (xs : List ℕ) (ys : List Fact) → AllZip (λ n f. slice_get facts n ≡ Some f) xs ys → length ys ≡ length xs
      same_length [] [] z = refl
      same_length [] (y ∷ ys) z = absurd z
      same_length (x ∷ xs) [] z = absurd z
      same_length (x ∷ xs) (y ∷ ys) z = ap suc (same_length xs ys z.1)

  pub images_named : (hits : List Hit) → AreHits part q hits → All (λ h. All (λ i. i < length numbers) h.image) hits
  images_named hits all = All-of (λ (h : Hit). All (λ i. i < length numbers) h.image) hits
      (λ h c. All-of (λ i. i < length numbers) h.image (named h (All-contains (IsHit part q) hits h all.each c)))

  abbrev IsSet : List ℕ → Type 0
  IsSet set = All (Contains numbers) set × HasImage facts q [] set

  is_set : (h : Hit) → IsHit part q h → IsSet (numbers_at numbers h.image)
  is_set h hit = (
    All-of (Contains numbers) (numbers_at numbers h.image) (λ n c. let z =
        zip_there (λ m i. slice_get numbers i ≡ Some m) (numbers_at numbers h.image) h.image zip n c in Contains-slice_get numbers z.0 n z.2),
    in_whole facts distinct numbers part are q (numbers_at numbers h.image) h.image zip (ascends_at numbers h.image are.ascending hit.ascending (named h hit))
        (boolean part q h.tuple h.image short.0 hit).1,
  )
    where
      zip : AllZip (λ n i. slice_get numbers i ≡ Some n) (numbers_at numbers h.image) h.image
      zip = zip_at numbers h.image (named h hit)

  same_image : (a b : Hit) → IsHit part q a → IsHit part q b → numbers_at numbers a.image ≡ numbers_at numbers b.image → a.image ≡ b.image
  same_image a b ha hb e = ascending_same a.image b.image ha.ascending hb.ascending (over a b ha hb e) (over b a hb ha (sym e))
    where
      over : (x y : Hit) → IsHit part q x → IsHit part q y → numbers_at numbers x.image ≡ numbers_at numbers y.image → (i : ℕ) → Contains x.image i
          → Contains y.image i
      over x y hx hy d i c =
          let z = zip_back (λ m j. slice_get numbers j ≡ Some m) (numbers_at numbers x.image) x.image (zip_at numbers x.image (named x hx)) i c in
          let w = zip_there (λ m j. slice_get numbers j ≡ Some m) (numbers_at numbers y.image) y.image (zip_at numbers y.image (named y hy)) z.0
          (subst (λ (s : List ℕ). Contains s z.0) d z.1) in
          subst (Contains y.image) (one_place numbers are.ascending w.0 i z.0 w.2 z.2) w.1

  not_before : (a b : Hit) → a.tuple ≡ b.tuple → a.image ≡ b.image → IsBefore a b → ⊥
  not_before a b e f l =
      let h : ordering_then (slice_cmp nat_cmp b.tuple b.tuple) (slice_cmp nat_cmp b.image b.image) ≡ Less =
      subst (λ (t : List ℕ). ordering_then (slice_cmp nat_cmp t b.tuple) (slice_cmp nat_cmp b.image b.image) ≡ Less) e
      (subst (λ (t : List ℕ). ordering_then (slice_cmp nat_cmp a.tuple b.tuple) (slice_cmp nat_cmp t b.image) ≡ Less) f l) in
      not_less (slice_cmp nat_cmp b.tuple b.tuple) (slice_cmp nat_cmp b.image b.image) (list_same b.tuple) (list_same b.image) h

  sets_apart : (hits : List Hit) → All (IsHit part q) hits → AllPairs IsBefore hits
      → AllPairs (λ (x y : List ℕ). x ≢ y) (map (λ (h : Hit). numbers_at numbers h.image) hits)
  sets_apart [] all a = λ i j d ij l. absurd (omega arith)
  sets_apart (h ∷ hits) all a =
      AllPairs-cons (λ (x y : List ℕ). x ≢ y) (numbers_at numbers h.image) (map (λ (g : Hit). numbers_at numbers g.image) hits)
      (apart hits (All-of (IsHit part q) hits (λ g c. All-contains (IsHit part q) (h ∷ hits) g all (Contains-later h hits g c)))
      (AllPairs-head IsBefore h hits a))
      (sets_apart hits (All-of (IsHit part q) hits (λ g c. All-contains (IsHit part q) (h ∷ hits) g all (Contains-later h hits g c)))
      (AllPairs-tail IsBefore h hits a))
    where
      hit : IsHit part q h
      hit = All-contains (IsHit part q) (h ∷ hits) h all (Contains-head h hits)

      differ : (g : Hit) → IsHit part q g → IsBefore h g → numbers_at numbers h.image ≡ numbers_at numbers g.image → ⊥
      differ g hg l e = not_before h g ((boolean part q h.tuple h.image short.0 hit).0 ∙ sym (boolean part q g.tuple g.image short.0 hg).0)
          (same_image h g hit hg e) l

      apart : (gs : List Hit) → All (IsHit part q) gs → All (IsBefore h) gs
          → All (λ (y : List ℕ). numbers_at numbers h.image ≢ y) (map (λ (g : Hit). numbers_at numbers g.image) gs)
      apart gs all' before = All-of (λ (y : List ℕ). numbers_at numbers h.image ≢ y) (map (λ (g : Hit). numbers_at numbers g.image) gs)
          (λ y c e. let w = map_back (λ (g : Hit). numbers_at numbers g.image) gs y c in
          differ w.0 (All-contains (IsHit part q) gs w.0 all' w.1) (All-contains (IsBefore h) gs w.0 before w.1) (e ∙ w.2))
        where
          map_back : (f : Hit → List ℕ) (xs : List Hit) (y : List ℕ) → Contains (map f xs) y → (x : Hit) × Contains xs x × (y ≡ f x)
          map_back f [] y c = absurd (Contains-nil y c)
          map_back f (x ∷ xs) y c = elim (Contains-cases (f x) (map f xs) y c) [
            | inl e ↦ (x, Contains-head x xs, sym e)
            | inr d ↦ let w = map_back f xs y d in (w.0, Contains-later x xs w.0 w.1, w.2)
          ]

  each_set : (hits : List Hit) → All (IsHit part q) hits → All (λ (set : List ℕ). All (Contains numbers) set × HasImage facts q [] set)
      (map (λ (h : Hit). numbers_at numbers h.image) hits)
  each_set [] all = λ k d l. absurd (omega arith)
  each_set (h ∷ hits) all = All-of (λ (set : List ℕ). All (Contains numbers) set × HasImage facts q [] set)
      (numbers_at numbers h.image ∷ map (λ (g : Hit). numbers_at numbers g.image) hits)
      (λ set c. elim (Contains-cases (numbers_at numbers h.image) (map (λ (g : Hit). numbers_at numbers g.image) hits) set c) [
        | inl e ↦ subst (λ (s : List ℕ). All (Contains numbers) s × HasImage facts q [] s) e
            (is_set h (All-contains (IsHit part q) (h ∷ hits) h all (Contains-head h hits)))
        | inr d ↦ All-contains (λ (s : List ℕ). All (Contains numbers) s × HasImage facts q [] s) (map (λ (g : Hit). numbers_at numbers g.image) hits) set
            (each_set hits (All-of (IsHit part q) hits (λ g c'. All-contains (IsHit part q) (h ∷ hits) g all (Contains-later h hits g c')))) d
      ])

  pub more_sets : (limit : ℕ) → HasMoreHits part q limit → HasMoreSets (λ set. All (Contains numbers) set × HasImage facts q [] set) limit
  more_sets limit more = record {
    items = map (λ (h : Hit). numbers_at numbers h.image) more.items;
    each = each_set more.items more.each;
    apart = sets_apart more.items more.each more.apart;
    longer = omega (arith, length-map more.items (λ (h : Hit). numbers_at numbers h.image), more.longer);
  }

-- ---- what a test of one fact answers

not_zero : (n : ℕ) → (suc n == 0) ≡ false
not_zero n = grind (arith, nat_tests)

pub alone_of_hits : (f : Fact) (q : Query) (hits : List Hit) → IsShort q → AreHits (f ∷ []) q hits → (b : Bool) → b ≡ (length hits == 0) → IsTrue (not b)
    ↔ HasImage (f ∷ []) q [] (0 ∷ [])
alone_of_hits f q [] s all b e = (
  (λ t. let no : b ≡ true = e in absurd (cc (no, t))),
  (λ h. absurd (Contains-nil (record { tuple = []; image = 0 ∷ [] }) (all.complete (record { tuple = []; image = 0 ∷ [] }) h))),
)
alone_of_hits f q (hit ∷ hits) s all b e = (
  (λ t. alone_hits f q (hit ∷ hits) s all.each (omega arith)),
  (λ h. let some : b ≡ false = e ∙ not_zero (length hits) in rw some refl),
)

pub alone_of_more : (f : Fact) (q : Query) → IsShort q → HasMoreHits (f ∷ []) q 1 → IsTrue true ↔ HasImage (f ∷ []) q [] (0 ∷ [])
alone_of_more f q s more = ((λ t. alone_hits f q more.items s more.each (let k = more.longer in omega (arith, k))), (λ h. refl))

-- ---- places in a part

pub images_within : (part : List Fact) (q : Query) (numbers : List ℕ) → length numbers ≡ length part → (hits : List Hit) → AreHits part q hits
    → All (λ h. All (λ i. i < length numbers) h.image) hits
images_within part q numbers e hits all = All-of (λ (h : Hit). All (λ i. i < length numbers) h.image) hits
    (λ h c. All-of (λ i. i < length numbers) h.image (inside h c))
  where
    inside : (h : Hit) → Contains hits h → (i : ℕ) → Contains h.image i → i < length numbers
    inside h c i d =
        let hit = All-contains (IsHit part q) hits h all.each c in
        let f = (hit.match.2 i).0 d in
        let k = slice_get_within part i f.0 f.2 in
        omega (arith, k, e)

zip_lengths : (facts : List Fact) (xs : List ℕ) (ys : List Fact) → AllZip (λ n f. slice_get facts n ≡ Some f) xs ys → length xs ≡ length ys
zip_lengths facts [] [] z = refl
zip_lengths facts [] (y ∷ ys) z = absurd z
zip_lengths facts (x ∷ xs) [] z = absurd z
zip_lengths facts (x ∷ xs) (y ∷ ys) z = ap suc (zip_lengths facts xs ys z.1)

pub part_length : (facts : List Fact) (numbers : List ℕ) (part : List Fact) → ArePart facts numbers part → length numbers ≡ length part
part_length facts numbers part are = zip_lengths facts numbers part are.each
