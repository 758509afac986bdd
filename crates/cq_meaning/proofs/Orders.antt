-- Where no fact is reached from itself, the facts have an order in which none is better than an earlier one.
use Rattle.std.proofs.Common.{◌≡◌, ◌≢◌, ℕ, zero, suc, ◌<◌, ◌≤◌, ◌⊎◌, ◌↔◌, inl, inr, List, [], ◌∷◌, length, Contains, refl, sym, subst, ap, ◌∙◌, arith, Bool}
use Rattle.std.proofs.Common.{true, false, ◌||◌, eqb, eqb-true, eq-eqb, true≢false, IsTrue, IsFalse, cond, if◌then◌else◌}
use Rattle.std.specs.List.{IsDistinct, list_any, AllByRecursion}
use Rattle.std.proofs.lemmas.Bool.{cases_eq, cases_Bool, or_cases}
use Rattle.std.proofs.lemmas.Map.Steps.{length-le_from_distinct_below}
use Rattle.cq_terms.specs.declared.facts.Repairs.{Repairs}
use Rattle.cq_terms.specs.Knowledge.{Knowledge}
use Rattle.cq_meaning.specs.Repairs.{IsBetter, LeadsTo, IsAcyclic}
use Rattle.cq_meaning.specs.Cores.{IsTopological}
use Rattle.cq_meaning.proofs.Members.{Contains-head, Contains-later, Contains-cases, Contains-nil}

-- a test on numbers, and whether some member passes it
member_passes : (p : ℕ → Bool) (xs : List ℕ) → ((j : ℕ) × Contains xs j × IsTrue (p j)) ⊎ ((j : ℕ) → Contains xs j → IsFalse (p j))
member_passes p [] = inr (λ j c. absurd (Contains-nil j c))
member_passes p (x ∷ xs) = go (cases_Bool (p x)) (member_passes p xs)
  where
    all : IsFalse (p x) → ((j : ℕ) → Contains xs j → IsFalse (p j)) → (j : ℕ) → (x ≡ j) ⊎ Contains xs j → IsFalse (p j)
    all f h j (inl e) = subst (λ k. IsFalse (p k)) e f
    all f h j (inr c) = h j c

    go : (p x ≡ true) ⊎ (p x ≡ false) → ((j : ℕ) × Contains xs j × IsTrue (p j)) ⊎ ((j : ℕ) → Contains xs j → IsFalse (p j))
        → ((j : ℕ) × Contains (x ∷ xs) j × IsTrue (p j)) ⊎ ((j : ℕ) → Contains (x ∷ xs) j → IsFalse (p j))
    go (inl t) h = inl (x, Contains-head x xs, t)
    go (inr f) (inl (j, c, t)) = inl (j, Contains-later x xs j c, t)
    go (inr f) (inr h) = inr (λ j c. all f h j (Contains-cases x xs j c))

any_contains : (j : ℕ) (xs : List ℕ) → list_any (eqb j) xs ≡ true → Contains xs j
any_contains j [] e = absurd (true≢false (sym e))
any_contains j (x ∷ xs) e = go (or_cases (eqb j x) (list_any (eqb j) xs) e) (λ h. any_contains j xs h)
  where
    go : (eqb j x ≡ true) ⊎ (list_any (eqb j) xs ≡ true) → (list_any (eqb j) xs ≡ true → Contains xs j) → Contains (x ∷ xs) j
    go (inl t) again = subst (Contains (x ∷ xs)) (sym (eqb-true j x t)) (Contains-head x xs)
    go (inr t) again = Contains-later x xs j (again t)

none_equal : (j : ℕ) (xs : List ℕ) → list_any (eqb j) xs ≡ false → AllByRecursion (λ y. eqb j y ≡ false) xs
none_equal j [] e = tt
none_equal j (x ∷ xs) e = go (eqb j x) refl e (λ h. none_equal j xs h)
  where
    go : (b : Bool) → eqb j x ≡ b → (b || list_any (eqb j) xs) ≡ false → (list_any (eqb j) xs ≡ false → AllByRecursion (λ y. eqb j y ≡ false) xs)
        → (eqb j x ≡ false) × AllByRecursion (λ y. eqb j y ≡ false) xs
    go true d e again = absurd (true≢false e)
    go false d e again = (d, again e)

IsDistinct-more : (j : ℕ) (xs : List ℕ) → list_any (eqb j) xs ≡ false → IsDistinct eqb xs → IsDistinct eqb (j ∷ xs)
unfolding IsDistinct
IsDistinct-more j xs e d = (none_equal j xs e, d)

IsDistinct-one : (j : ℕ) → IsDistinct eqb (j ∷ [])
unfolding IsDistinct
IsDistinct-one j = (tt, tt)

-- some member passes no test of the others, or each has one
first_free : (p : ℕ → ℕ → Bool) (rest xs : List ℕ) → ((m : ℕ) × Contains xs m × ((j : ℕ) → Contains rest j → IsFalse (p j m)))
    ⊎ ((m : ℕ) → Contains xs m → (j : ℕ) × Contains rest j × IsTrue (p j m))
first_free p rest [] = inr (λ m c. absurd (Contains-nil m c))
first_free p rest (x ∷ xs) = go (member_passes (λ j. p j x) rest) (first_free p rest xs)
  where
    each : ((j : ℕ) × Contains rest j × IsTrue (p j x)) → ((m : ℕ) → Contains xs m → (j : ℕ) × Contains rest j × IsTrue (p j m)) → (m : ℕ) → (x ≡ m)
        ⊎ Contains xs m → (j : ℕ) × Contains rest j × IsTrue (p j m)
    each (j, c, t) h m (inl e) = (j, c, subst (λ k. IsTrue (p j k)) e t)
    each w h m (inr c) = h m c

    go : ((j : ℕ) × Contains rest j × IsTrue (p j x)) ⊎ ((j : ℕ) → Contains rest j → IsFalse (p j x))
        → ((m : ℕ) × Contains xs m × ((j : ℕ) → Contains rest j → IsFalse (p j m))) ⊎ ((m : ℕ) → Contains xs m → (j : ℕ) × Contains rest j × IsTrue (p j m))
        → ((m : ℕ) × Contains (x ∷ xs) m × ((j : ℕ) → Contains rest j → IsFalse (p j m)))
        ⊎ ((m : ℕ) → Contains (x ∷ xs) m → (j : ℕ) × Contains rest j × IsTrue (p j m))
    go (inr f) h = inl (x, Contains-head x xs, f)
    go (inl w) (inl (m, c, f)) = inl (m, Contains-later x xs m c, f)
    go (inl w) (inr h) = inr (λ m c. each w h m (Contains-cases x xs m c))

-- the list without a number
abbrev except : ℕ → List ℕ → List ℕ
except m [] = []
except m (x ∷ xs) = if eqb x m then except m xs else x ∷ except m xs

except_in : (m : ℕ) (xs : List ℕ) (j : ℕ) → Contains (except m xs) j → Contains xs j × (j ≢ m)
except_in m [] j c = absurd (Contains-nil j c)
except_in m (x ∷ xs) j c = go (eqb x m) refl c (λ h. except_in m xs j h)
  where
    here : eqb x m ≡ false → (x ≡ j) ⊎ Contains (except m xs) j → (Contains (except m xs) j → Contains xs j × (j ≢ m)) → Contains (x ∷ xs) j × (j ≢ m)
    here f (inl e) again = (subst (Contains (x ∷ xs)) e (Contains-head x xs), λ d. true≢false (sym (eq-eqb x m (e ∙ d)) ∙ f))
    here f (inr c) again = let w = again c in (Contains-later x xs j w.0, w.1)

    go : (b : Bool) → eqb x m ≡ b → Contains (cond b (except m xs) (x ∷ except m xs)) j → (Contains (except m xs) j → Contains xs j × (j ≢ m))
        → Contains (x ∷ xs) j × (j ≢ m)
    go true e c again = let w = again c in (Contains-later x xs j w.0, w.1)
    go false e c again = here e (Contains-cases x (except m xs) j c) again

in_except : (m : ℕ) (xs : List ℕ) (j : ℕ) → Contains xs j → j ≢ m → Contains (except m xs) j
in_except m [] j c n = absurd (Contains-nil j c)
in_except m (x ∷ xs) j c n = go (eqb x m) refl (Contains-cases x xs j c) (λ h. in_except m xs j h n)
  where
    go : (b : Bool) → eqb x m ≡ b → (x ≡ j) ⊎ Contains xs j → (Contains xs j → Contains (except m xs) j) → Contains (cond b (except m xs) (x ∷ except m xs)) j
    go true e (inl d) again = absurd (n (sym d ∙ eqb-true x m e))
    go true e (inr c) again = again c
    go false e (inl d) again = subst (Contains (x ∷ except m xs)) d (Contains-head x (except m xs))
    go false e (inr c) again = Contains-later x (except m xs) j (again c)

length-except-le : (m : ℕ) (xs : List ℕ) → length (except m xs) ≤ length xs
length-except-le m [] = omega arith
length-except-le m (x ∷ xs) = go (eqb x m) (length-except-le m xs)
  where
    go : (b : Bool) → length (except m xs) ≤ length xs → length (cond b (except m xs) (x ∷ except m xs)) ≤ length (x ∷ xs)
    go true h = omega arith
    go false h = omega arith

length-except-lt : (m : ℕ) (xs : List ℕ) → Contains xs m → length (except m xs) < length xs
length-except-lt m [] c = absurd (Contains-nil m c)
length-except-lt m (x ∷ xs) c = go (eqb x m) refl (Contains-cases x xs m c) (length-except-le m xs) (λ h. length-except-lt m xs h)
  where
    go : (b : Bool) → eqb x m ≡ b → (x ≡ m) ⊎ Contains xs m → length (except m xs) ≤ length xs → (Contains xs m → length (except m xs) < length xs)
        → length (cond b (except m xs) (x ∷ except m xs)) < length (x ∷ xs)
    go true e c l again = omega arith
    go false e (inl d) l again = absurd (true≢false (sym (eq-eqb x m d) ∙ e))
    go false e (inr c) l again = omega (arith, again c)

upto : ℕ → List ℕ
upto zero = []
upto (suc n) = n ∷ upto n

length_upto : (n : ℕ) → length (upto n) ≤ n
unfolding upto
length_upto zero = omega arith
length_upto (suc n) = omega (arith, length_upto n)

upto_iff : (n i : ℕ) → Contains (upto n) i ↔ (i < n)
unfolding upto
upto_iff n i = (to n, from n)
  where
    to : (n : ℕ) → Contains (upto n) i → i < n
    to zero c = absurd (Contains-nil i c)
    to (suc n) c = elim (Contains-cases n (upto n) i c) [ inl e ↦ omega arith | inr d ↦ omega (arith, to n d) ]

    from : (n : ℕ) → i < n → Contains (upto n) i
    from zero l = absurd (omega arith)
    from (suc n) l = elim (cases_eq n i) [
      | inl e ↦ subst (Contains (n ∷ upto n)) e (Contains-head n (upto n))
      | inr ne ↦
          Contains-later n (upto n) i (from n (omega arith))
    ]

module _ (kb : Knowledge) (m : Repairs) (n : ℕ) (better : ℕ → ℕ → Bool) (told : (i j : ℕ) → i < n → j < n → IsTrue (better i j) ↔ IsBetter kb m i j)
    (acyclic : IsAcyclic kb m) where
  -- each of the list is better than the next
  Climbs : List ℕ → Type 0
  Climbs [] = Unit {0}
  Climbs (i ∷ path) = ((j : ℕ) → Contains path j → (k : ℕ) × LeadsTo kb m k i j) × Climbs path

  -- a path of distinct facts below n
  record IsPath (path : List ℕ) : Type 0 where
    climbs : Climbs path
    distinct : IsDistinct eqb path
    below : (j : ℕ) → Contains path j → j < n

  -- a path that begins in the list
  From : List ℕ → ℕ → Type 0
  From rest k = (i : ℕ) × (path : List ℕ) × Contains rest i × IsPath (i ∷ path) × (length path ≡ k)

  -- where each has a better one in the list, there are paths of any length
  grow : (rest : List ℕ) → ((j : ℕ) → Contains rest j → j < n) → ((i : ℕ) → Contains rest i → (j : ℕ) × Contains rest j × IsTrue (better j i)) → (i : ℕ)
      → Contains rest i → (k : ℕ) → From rest k
  unfolding Climbs From
  grow rest inside each i c zero = (
    i,
    [],
    c,
    record {
      climbs = ((λ j d. absurd (Contains-nil j d)), tt);
      distinct = IsDistinct-one i;
      below =
          λ j d. elim (Contains-cases i [] j d) [ inl e ↦ subst (λ l. l < n) e (inside i c) | inr z ↦ absurd (Contains-nil j z) ];
    },
    refl,
  )
  grow rest inside each i c (suc k) = more (grow rest inside each i c k)
    where
      go : (i : ℕ) (path : List ℕ) → Contains rest i → IsPath (i ∷ path) → length path ≡ k → (j : ℕ) → Contains rest j → IsBetter kb m j i → (b : Bool)
          → list_any (eqb j) (i ∷ path) ≡ b → From rest (suc k)
      go i path c p l j cj w true e = elim (Contains-cases i path j (any_contains j (i ∷ path) e)) [
        | inl d ↦ absurd (acyclic 0 j (subst (IsBetter kb m j) d w))
        | inr d ↦ let r = p.climbs.0 j d in absurd (acyclic (suc r.0) j (i, w, r.1))
      ]
      go i path c p l j cj w false e = (
        j,
        i ∷ path,
        cj,
        record {
          climbs = (
            (λ h d. elim (Contains-cases i path h d) [
              | inl f ↦ (0, subst (IsBetter kb m j) f w)
              | inr g ↦ let r = p.climbs.0 h g in
                  (suc r.0, (i, w, r.1))
            ]),
            p.climbs,
          );
          distinct = IsDistinct-more j (i ∷ path) e p.distinct;
          below = λ h d. elim (Contains-cases j (i ∷ path) h d) [ inl f ↦ subst (λ l. l < n) f (inside j cj) | inr g ↦ p.below h g ];
        },
        ap suc l,
      )

      more : From rest k → From rest (suc k)
      more (i, path, c, p, l) = let b = each i c in go i path c p l b.0 b.1 ((told b.0 i (inside b.0 b.1) (inside i c)).0 b.2) (list_any (eqb b.0) (i ∷ path))
          refl

  -- some fact of the list has no better one in it
  source : (rest : List ℕ) → ((j : ℕ) → Contains rest j → j < n) → (i : ℕ) → Contains rest i → (s : ℕ) × Contains rest s
      × ((j : ℕ) → Contains rest j → ¬ IsBetter kb m j s)
  unfolding From
  source rest inside i c = go (first_free better rest rest)
    where
      go : ((s : ℕ) × Contains rest s × ((j : ℕ) → Contains rest j → IsFalse (better j s)))
          ⊎ ((s : ℕ) → Contains rest s → (j : ℕ) × Contains rest j × IsTrue (better j s)) → (s : ℕ) × Contains rest s
          × ((j : ℕ) → Contains rest j → ¬ IsBetter kb m j s)
      go (inl (s, d, f)) = (s, d, λ j e w. true≢false (sym ((told j s (inside j e) (inside s d)).1 w) ∙ f j e))
      go (inr each) =
          let g = grow rest inside each i c n in
          absurd (let h = length-le_from_distinct_below (g.0 ∷ g.1) n g.3.distinct (λ q t. g.3.below q (any_contains q (g.0 ∷ g.1) t)) in omega (arith, g.4))

  -- the facts of the list in an order in which none is better than an earlier one
  arranged : (k : ℕ) (rest : List ℕ) → length rest ≤ k → ((j : ℕ) → Contains rest j → j < n) → (order : List ℕ)
      × ((i : ℕ) → Contains order i ↔ Contains rest i) × IsTopological kb m order
  arranged k [] l inside = ([], (λ i. ((λ c. c), (λ c. c))), tt)
  arranged zero (x ∷ rest) l inside = absurd (omega arith)
  arranged (suc k) (x ∷ rest) l inside = go (source (x ∷ rest) inside x (Contains-head x rest))
      (λ s c. arranged k (except s (x ∷ rest)) (omega (arith, length-except-lt s (x ∷ rest) c)) (λ j d. inside j (except_in s (x ∷ rest) j d).0))
    where
      go : (s : ℕ) × Contains (x ∷ rest) s × ((j : ℕ) → Contains (x ∷ rest) j → ¬ IsBetter kb m j s)
          → ((s : ℕ) → Contains (x ∷ rest) s → (order : List ℕ) × ((i : ℕ) → Contains order i ↔ Contains (except s (x ∷ rest)) i) × IsTopological kb m order)
          → (order : List ℕ) × ((i : ℕ) → Contains order i ↔ Contains (x ∷ rest) i) × IsTopological kb m order
      go (s, c, free) again = let w = again s c in (
        s ∷ w.0,
        (λ i. (to i w.0 (λ d. (w.1 i).0 d), from i w.0 (λ d. (w.1 i).1 d))),
        ((λ j d. free j (except_in s (x ∷ rest) j ((w.1 j).0 d)).0), w.2),
      )
        where
          to : (i : ℕ) (order : List ℕ) → (Contains order i → Contains (except s (x ∷ rest)) i) → Contains (s ∷ order) i → Contains (x ∷ rest) i
          to i order h d = elim (Contains-cases s order i d) [ inl e ↦ subst (Contains (x ∷ rest)) e c | inr g ↦ (except_in s (x ∷ rest) i (h g)).0 ]

          from : (i : ℕ) (order : List ℕ) → (Contains (except s (x ∷ rest)) i → Contains order i) → Contains (x ∷ rest) i → Contains (s ∷ order) i
          from i order h d = elim (cases_eq s i) [
            | inl e ↦ subst (Contains (s ∷ order)) e (Contains-head s order)
            | inr ne ↦
                Contains-later s order i (h (in_except s (x ∷ rest) i d (λ e. ne (sym e))))
          ]

  pub order_of : (order : List ℕ) × ((i : ℕ) → Contains order i ↔ (i < n)) × IsTopological kb m order
  order_of = let w = arranged n (upto n) (length_upto n) (λ j c. (upto_iff n j).0 c) in
      (w.0, (λ i. ((λ c. (upto_iff n i).0 ((w.1 i).0 c)), (λ l. (w.1 i).1 ((upto_iff n i).1 l)))), w.2)
