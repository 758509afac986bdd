-- The conflicts of one more fact, parted by whether its list has them.
use Rattle.std.proofs.Common.{◌≡◌, ◌<◌, ◌≤◌, ◌^◌, ◌+◌, ◌⊎◌, inl, inr, ◌↔◌, ℕ, zero, suc, Bool, true, false, not, cond, eqb, ltb, List, [], ◌∷◌, ◌++◌, length}
use Rattle.std.proofs.Common.{map, get_or, refl, sym, ap, ◌∙◌, subst, arith, Contains, All}
use Rattle.std.specs.List.{filter}
use Rattle.std.proofs.lemmas.Bool.{cases_eq, cases_lt, cases_Bool, eq-eqb, ne_eqb, lt-ltb, le-ltb, true≢false, not-true, not_from_false}
use Rattle.std.proofs.lemmas.List.{append-nil, map-append, length-append, length-map}
use Rattle.std.proofs.lemmas.List.Elements.{All-nil, All-head, All-tail, All-append, All-weaker, All-map, All-from_get_or, All-contains, All-filter}
use Rattle.std.proofs.lemmas.List.Elements.{Contains-get_or, filter-append}
use Rattle.std.proofs.lemmas.List.Folds.{list_any_at}
use Rattle.std.proofs.lemmas.List.Kept.{AllPairs-filter}
use Rattle.cq_terms.specs.declared.facts.Pair.{Pair}
use Rattle.cq_terms.specs.declared.flat_lists.KeyedNumber.{KeyedNumber}
use Rattle.cq_terms.specs.Conflicts.{ConflictGraph, AreInConflict}
use Rattle.cq_terms.specs.Lists.{IsAscending}
use Rattle.cq_terms.specs.ConflictTables.{conflict_entries, rivals}
use Rattle.cq_terms.specs.FlatLists.{values_at, HaveKeysBelow, AreGrouped}
use Rattle.priority_graph.specs.Priority.{IsListed, Ranks}
use Rattle.priority_graph.specs.Split.{has, SetsEach, entries_of, pair_entries, AreSplitEntries, AreParted}

-- the test of a member
pub has_true : (list : List ℕ) (i : ℕ) → Contains list i → has list i ≡ true
has_true list i (k, l, e) = list_any_at (λ j. eqb j i) list k i l (eq-eqb _ i e)

pub has_there : (list : List ℕ) (i : ℕ) → has list i ≡ true → Contains list i
has_there [] i h = absurd (true≢false (sym h))
has_there (x ∷ list) i h = by (cases_eq x i) (λ t. has_there list i t)
  where
    by : (x ≡ i) ⊎ (x ≡ i → ⊥) → (has list i ≡ true → Contains list i) → Contains (x ∷ list) i
    by (inl same) again = (0, omega arith, same)
    by (inr other) again =
        let rest : Contains list i = again (rw (ne_eqb x i other) at h) in
        (suc rest.0, omega (arith, rest.1), rest.2)

pub has_not : (list : List ℕ) (i : ℕ) → ¬ Contains list i → has list i ≡ false
has_not list i absent = elim (cases_Bool (has list i)) [ inl t ↦ absurd (absent (has_there list i t)) | inr f ↦ f ]

-- members of a filtered list
pub Contains-filter_to : (p : ℕ → Bool) (xs : List ℕ) (j : ℕ) → Contains xs j → p j ≡ true → Contains (filter p xs) j
Contains-filter_to p [] j (k, l, e) t = absurd (omega arith)
Contains-filter_to p (x ∷ xs) j (zero, l, e) t =
    let test : p x ≡ true = ap p e ∙ t in
    rw test (0, omega arith, e)
Contains-filter_to p (x ∷ xs) j (suc k, l, e) t = by (p x) (Contains-filter_to p xs j (k, omega arith, e) t)
  where
    by : (b : Bool) → Contains (filter p xs) j → Contains (cond b (x ∷ filter p xs) (filter p xs)) j
    by true (i, m, f) = (suc i, omega arith, f)
    by false m = m

pub Contains-filter_from : (p : ℕ → Bool) (xs : List ℕ) (j : ℕ) → Contains (filter p xs) j → Contains xs j × (p j ≡ true)
Contains-filter_from p [] j (k, l, e) = absurd (omega arith)
Contains-filter_from p (x ∷ xs) j h = by (p x) refl h (λ m. Contains-filter_from p xs j m)
  where
    later : Contains xs j × (p j ≡ true) → Contains (x ∷ xs) j × (p j ≡ true)
    later ((i, m, f), t) = ((suc i, omega arith, f), t)

    by : (b : Bool) → p x ≡ b → Contains (cond b (x ∷ filter p xs) (filter p xs)) j → (Contains (filter p xs) j → Contains xs j × (p j ≡ true))
        → Contains (x ∷ xs) j × (p j ≡ true)
    by true is (zero, l, e) again = ((0, omega arith, e), subst (λ (n : ℕ). p n ≡ true) e is)
    by true is (suc k, l, e) again = later (again (k, omega arith, e))
    by false is m again = later (again m)

filter_within : (p q : ℕ → Bool) (xs : List ℕ) → All (λ x. p x ≡ q x) xs → filter p xs ≡ filter q xs
filter_within p q [] h = refl
filter_within p q (x ∷ xs) h = rw (h 0 x (omega arith), filter_within p q xs (All-tail (λ x. p x ≡ q x) x xs h)) refl

length-filter_both : (p : ℕ → Bool) (xs : List ℕ) → length (filter p xs) + length (filter (λ x. not (p x)) xs) ≡ length xs
length-filter_both p [] = omega arith
length-filter_both p (x ∷ xs) = by (p x) (length-filter_both p xs)
  where
    by : (b : Bool) → length (filter p xs) + length (filter (λ x. not (p x)) xs) ≡ length xs
        → length (cond b (x ∷ filter p xs) (filter p xs)) + length (cond (not b) (x ∷ filter (λ x. not (p x)) xs) (filter (λ x. not (p x)) xs))
        ≡ suc (length xs)
    by true h = omega arith
    by false h = omega arith

-- the values of joined entries
values_at-append : (xs ys : List KeyedNumber) (i : ℕ) → values_at (xs ++ ys) i ≡ values_at xs i ++ values_at ys i
values_at-append xs ys i = ap (map (λ (e : KeyedNumber). e.value)) (filter-append (λ (e : KeyedNumber). eqb e.key i) xs ys)
    ∙ map-append (λ (e : KeyedNumber). e.value) _ _

-- the entries of a fact are those of its list, and of no other
values_at-same : (fact : ℕ) (xs : List ℕ) → values_at (map (λ j. record { key = fact; value = j }) xs) fact ≡ xs
values_at-same fact [] = refl
values_at-same fact (x ∷ xs) = rw (eq-eqb fact fact refl) (ap (λ (ys : List ℕ). x ∷ ys) (values_at-same fact xs))

values_at-other : (fact i : ℕ) (xs : List ℕ) → (fact ≡ i → ⊥) → values_at (map (λ j. record { key = fact; value = j }) xs) i ≡ []
values_at-other fact i [] other = refl
values_at-other fact i (x ∷ xs) other = rw (ne_eqb fact i other) (values_at-other fact i xs other)

values_at-past : (bound i : ℕ) (xs : List KeyedNumber) → HaveKeysBelow bound xs → bound ≤ i → values_at xs i ≡ []
values_at-past bound i [] h past = refl
values_at-past bound i (e ∷ xs) h past =
    let less : e.key < bound = All-head (λ (x : KeyedNumber). x.key < bound) e xs h in
    let other : e.key ≡ i → ⊥ = λ s. omega arith in
    rw (ne_eqb e.key i other) (values_at-past bound i xs (All-tail (λ (x : KeyedNumber). x.key < bound) e xs h) past)

-- how many entries have keys below a bound
count_below : (bound : ℕ) (es : List KeyedNumber) → length (filter (λ e. ltb e.key (bound + 1)) es)
    ≡ length (filter (λ e. ltb e.key bound) es) + length (values_at es bound)
count_below bound [] = omega arith
count_below bound (e ∷ es) = by (cases_lt e.key bound) (cases_eq e.key bound) (count_below bound es)
  where
    by : (e.key < bound) ⊎ (bound ≤ e.key) → (e.key ≡ bound) ⊎ (e.key ≡ bound → ⊥)
        → length (filter (λ e. ltb e.key (bound + 1)) es) ≡ length (filter (λ e. ltb e.key bound) es) + length (values_at es bound)
        → length (filter (λ e. ltb e.key (bound + 1)) (e ∷ es)) ≡ length (filter (λ e. ltb e.key bound) (e ∷ es)) + length (values_at (e ∷ es) bound)
    by (inl less) (inl same) h = absurd (omega arith)
    by (inl less) (inr other) h = rw (lt-ltb e.key (bound + 1) (omega arith), lt-ltb e.key bound less, ne_eqb e.key bound other) (omega arith)
    by (inr more) (inl same) h = rw (lt-ltb e.key (bound + 1) (omega arith), le-ltb e.key bound more, eq-eqb e.key bound same) (omega arith)
    by (inr more) (inr other) h = rw (le-ltb e.key (bound + 1) (omega arith), le-ltb e.key bound more, ne_eqb e.key bound other) (omega arith)

length-filter-le : (p : KeyedNumber → Bool) (es : List KeyedNumber) → length (filter p es) ≤ length es
length-filter-le p [] = omega arith
length-filter-le p (e ∷ es) = by (p e) (length-filter-le p es)
  where
    by : (b : Bool) → length (filter p es) ≤ length es → length (cond b (e ∷ filter p es) (filter p es)) ≤ suc (length es)
    by true h = omega arith
    by false h = omega arith

-- no fact is parted yet
pub split_none : (g : ConflictGraph) (listed : List (List ℕ)) → AreSplitEntries g listed 0 [] []
split_none g listed = record {
  worse_exact = λ i l. absurd (omega arith);
  blockers_exact = λ i l. absurd (omega arith);
  worse_known = All-nil (λ e. e.key < 0);
  blockers_known = All-nil (λ e. e.key < 0);
  count = sym (ap length (none (conflict_entries g.clashes)));
  few = omega arith;
  rivals_ascending = λ i l. absurd (omega arith);
  rivals_known = λ i l. absurd (omega arith);
  rivals_exact = λ i j l. absurd (omega arith);
}
  where
    none : (es : List KeyedNumber) → filter (λ e. ltb e.key 0) es ≡ []
    none [] = refl
    none (e ∷ es) = rw (le-ltb e.key 0 (omega arith)) (none es)

-- what is known of the conflicts of a fact
pub record HasRivals (g : ConflictGraph) (fact : ℕ) (list : List ℕ) : Type 0 where
  pub are : list ≡ rivals g.clashes fact
  pub ascending : IsAscending list
  pub exact : (j : ℕ) → Contains list j ↔ AreInConflict g.clashes fact j
  pub known : All (λ j. j < g.facts) list
  pub few : length (conflict_entries g.clashes) < 2 ^ 32

-- one more fact
pub split_more : (g : ConflictGraph) (listed : List (List ℕ)) (fact : ℕ) (worse blockers : List KeyedNumber) (test : ℕ → Bool) (list : List ℕ)
    → AreSplitEntries g listed fact worse blockers → HasRivals g fact list → ((j : ℕ) → j < g.facts → test j ≡ has (get_or listed fact []) j)
    → AreSplitEntries g listed (fact + 1) (worse ++ entries_of fact test list) (blockers ++ entries_of fact (λ j. not (test j)) list)
split_more g listed fact worse blockers test list h r same = record {
  worse_exact = λ i l. at worse (has (get_or listed i [])) i test (h.worse_known) l (h.worse_exact i)
      (λ e. subst (λ (k : ℕ). filter test list ≡ filter (has (get_or listed k [])) (rivals g.clashes k)) e here);
  blockers_exact = λ i l. at blockers (λ j. not (has (get_or listed i []) j)) i (λ j. not (test j)) (h.blockers_known) l (h.blockers_exact i)
      (λ e. subst (λ (k : ℕ). filter (λ j. not (test j)) list ≡ filter (λ j. not (has (get_or listed k []) j)) (rivals g.clashes k)) e there);
  worse_known = known worse test h.worse_known;
  blockers_known = known blockers (λ j. not (test j)) h.blockers_known;
  count = count;
  few = omega (arith, count, length-filter-le (λ e. ltb e.key (fact + 1)) (conflict_entries g.clashes), r.few);
  rivals_ascending = λ i l. elim (cases_eq i fact) [
    | inl e ↦ subst (λ (k : ℕ). IsAscending (rivals g.clashes k)) (sym e) (subst IsAscending r.are r.ascending)
    | inr n ↦ h.rivals_ascending i (omega arith)
  ];
  rivals_known = λ i l. elim (cases_eq i fact) [
    | inl e ↦ subst (λ (k : ℕ). All (λ j. j < g.facts) (rivals g.clashes k)) (sym e)
        (subst (All (λ j. j < g.facts)) r.are r.known)
    | inr n ↦ h.rivals_known i (omega arith)
  ];
  rivals_exact = λ i j l. elim (cases_eq i fact) [
    | inl e ↦ subst (λ (k : ℕ). Contains (rivals g.clashes k) j ↔ AreInConflict g.clashes k j) (sym e)
        (subst (λ (xs : List ℕ). Contains xs j ↔ AreInConflict g.clashes fact j) r.are (r.exact j))
    | inr n ↦ h.rivals_exact i j (omega arith)
  ];
}
  where
    here : filter test list ≡ filter (has (get_or listed fact [])) (rivals g.clashes fact)
    here = filter_within test (has (get_or listed fact [])) list (λ k d l. same (get_or list k d) (r.known k d l))
        ∙ ap (filter (has (get_or listed fact []))) r.are

    there : filter (λ j. not (test j)) list ≡ filter (λ j. not (has (get_or listed fact []) j)) (rivals g.clashes fact)
    there = filter_within (λ j. not (test j)) (λ j. not (has (get_or listed fact []) j)) list (λ k d l. ap not (same (get_or list k d) (r.known k d l)))
        ∙ ap (filter (λ j. not (has (get_or listed fact []) j))) r.are

    at : (old : List KeyedNumber) (wanted : ℕ → Bool) (i : ℕ) (p : ℕ → Bool) → HaveKeysBelow fact old → i < fact + 1
        → (i < fact → values_at old i ≡ filter wanted (rivals g.clashes i)) → (fact ≡ i → filter p list ≡ filter wanted (rivals g.clashes i))
        → values_at (old ++ entries_of fact p list) i ≡ filter wanted (rivals g.clashes i)
    at old wanted i p below l before now = by (cases_eq fact i)
      where
        by : (fact ≡ i) ⊎ (fact ≡ i → ⊥) → values_at (old ++ entries_of fact p list) i ≡ filter wanted (rivals g.clashes i)
        by (inl e) =
            values_at-append old (entries_of fact p list) i
            ∙ ap (λ (xs : List ℕ). xs ++ values_at (entries_of fact p list) i) (values_at-past fact i old below (omega arith))
            ∙ subst (λ (k : ℕ). values_at (entries_of fact p list) k ≡ filter p list) e (values_at-same fact (filter p list))
            ∙ now e
        by (inr n) =
            values_at-append old (entries_of fact p list) i
            ∙ ap (λ (xs : List ℕ). values_at old i ++ xs) (values_at-other fact i (filter p list) n)
            ∙ append-nil (values_at old i)
            ∙ before (omega arith)

    known : (old : List KeyedNumber) (p : ℕ → Bool) → HaveKeysBelow fact old → HaveKeysBelow (fact + 1) (old ++ entries_of fact p list)
    known old p below =
        All-append (λ e. e.key < fact + 1) old (entries_of fact p list)
        (All-weaker (λ (e : KeyedNumber). e.key < fact) (λ (e : KeyedNumber). e.key < fact + 1) (λ e l. omega arith) old below)
        (All-map (λ (e : KeyedNumber). e.key < fact + 1) (λ (j : ℕ). record { key = fact; value = j }) (filter p list) (λ k d l. omega arith))

    count : length (worse ++ entries_of fact test list) + length (blockers ++ entries_of fact (λ j. not (test j)) list)
        ≡ length (filter (λ e. ltb e.key (fact + 1)) (conflict_entries g.clashes))
    count =
        let w = length-append worse (entries_of fact test list) in
        let b = length-append blockers (entries_of fact (λ j. not (test j)) list) in
        let wm : length (entries_of fact test list) ≡ length (filter test list) = length-map (filter test list) (λ (j : ℕ). record { key = fact; value = j }) in
        let bm : length (entries_of fact (λ j. not (test j)) list) ≡ length (filter (λ j. not (test j)) list) =
        length-map (filter (λ j. not (test j)) list) (λ (j : ℕ). record { key = fact; value = j }) in
        let both = length-filter_both test list in
        let all = ap length r.are in
        omega (arith, w, b, wm, bm, both, all, h.count, count_below fact (conflict_entries g.clashes))

-- a mark tells whether the list of the fact has a number
pub mark_tells : (marks new list : List ℕ) (fact : ℕ) → SetsEach marks new list (fact + 1) → All (λ mark. mark ≤ fact) marks → (j : ℕ) → j < length marks
    → eqb (get_or new j 0) (fact + 1) ≡ has list j
mark_tells marks new list fact set older j l = by (has list j) (set.exact j l)
  where
    by : (b : Bool) → get_or new j 0 ≡ cond b (fact + 1) (get_or marks j 0) → eqb (get_or new j 0) (fact + 1) ≡ b
    by true e = eq-eqb _ _ e
    by false e = ne_eqb _ _ (λ s. let old : get_or marks j 0 ≤ fact = older j 0 l in omega arith)

-- no mark is past that of the fact
pub marks_older : (marks new list : List ℕ) (fact : ℕ) → SetsEach marks new list (fact + 1) → All (λ mark. mark ≤ fact) marks
    → All (λ mark. mark ≤ fact + 1) new
marks_older marks new list fact set older =
    All-from_get_or (λ mark. mark ≤ fact + 1) new 0 (λ j l. let k : j < length marks = omega (arith, set.all) in by j k (has list j) (set.exact j k))
  where
    by : (j : ℕ) → j < length marks → (b : Bool) → get_or new j 0 ≡ cond b (fact + 1) (get_or marks j 0) → get_or new j 0 ≤ fact + 1
    by j k true e = omega arith
    by j k false e = let old : get_or marks j 0 ≤ fact = older j 0 k in omega arith

-- the lists of the pairs have exactly the lower facts
listed_there : (pairs : List Pair) (i j : ℕ) → Contains (values_at (pair_entries pairs) i) j → IsListed pairs i j
listed_there [] i j (k, l, e) = absurd (omega arith)
listed_there (p ∷ pairs) i j h = by (cases_eq p.upper i) (λ m. listed_there pairs i j m)
  where
    later : IsListed pairs i j → IsListed (p ∷ pairs) i j
    later (k, l, e) = (suc k, omega arith, e)

    by : (p.upper ≡ i) ⊎ (p.upper ≡ i → ⊥) → (Contains (values_at (pair_entries pairs) i) j → IsListed pairs i j) → IsListed (p ∷ pairs) i j
    by (inl same) again = first (rw (eq-eqb p.upper i same) at h)
      where
        first : Contains (p.lower ∷ values_at (pair_entries pairs) i) j → IsListed (p ∷ pairs) i j
        first (zero, l, e) = (0, omega arith, ap (λ (a : ℕ). record { upper = a; lower = p.lower }) same ∙ ap (λ (b : ℕ). record { upper = i; lower = b }) e)
        first (suc k, l, e) = later (again (k, omega arith, e))
    by (inr other) again = later (again (rw (ne_eqb p.upper i other) at h))

there_listed : (pairs : List Pair) (i j : ℕ) → IsListed pairs i j → Contains (values_at (pair_entries pairs) i) j
there_listed [] i j (k, l, e) = absurd (omega arith)
there_listed (p ∷ pairs) i j (zero, l, e) =
    let test : eqb p.upper i ≡ true = eq-eqb p.upper i (ap (λ (q : Pair). q.upper) e) in
    rw test (0, omega arith, ap (λ (q : Pair). q.lower) e)
there_listed (p ∷ pairs) i j (suc k, l, e) = by (eqb p.upper i) (there_listed pairs i j (k, omega arith, e))
  where
    by : (b : Bool) → Contains (values_at (pair_entries pairs) i) j
        → Contains (map (λ e. e.value) (cond b (record { key = p.upper; value = p.lower } ∷ filter (λ e. eqb e.key i) (pair_entries pairs))
        (filter (λ e. eqb e.key i) (pair_entries pairs)))) j
    by true (m, n, f) = (suc m, omega arith, f)
    by false h = h

-- the keys of the pairs are facts, and so are the values
pub pairs_known : (facts : ℕ) (pairs : List Pair) → All (λ p. (p.upper < facts) × (p.lower < facts)) pairs → HaveKeysBelow facts (pair_entries pairs)
pairs_known facts pairs h = All-map (λ (e : KeyedNumber). e.key < facts) (λ (p : Pair). record { key = p.upper; value = p.lower }) pairs (λ k d l. (h k d l).0)

pub lists_known : (facts : ℕ) (pairs : List Pair) (lists : List (List ℕ)) → All (λ p. (p.upper < facts) × (p.lower < facts)) pairs
    → AreGrouped (pair_entries pairs) facts lists
    → All (λ list. All (λ j. j < facts) list) lists
lists_known facts pairs lists h g = All-from_get_or (λ list. All (λ j. j < facts) list) lists [] (λ i l.
    rw (g.exact i (omega (arith, g.all))) (λ k d m.
    let there : IsListed pairs i (get_or (values_at (pair_entries pairs) i) k d) =
    listed_there pairs i _ (Contains-get_or (values_at (pair_entries pairs) i) k d m) in
    (All-contains (λ (p : Pair). (p.upper < facts) × (p.lower < facts)) pairs _ h there).1))

-- the lists of worse facts and of blockers
pub parted_from : (pairs : List Pair) (g : ConflictGraph) (listed worse blockers : List (List ℕ)) (worse_entries blocker_entries : List KeyedNumber)
    → AreGrouped (pair_entries pairs) g.facts listed → AreSplitEntries g listed g.facts worse_entries blocker_entries
    → AreGrouped worse_entries g.facts worse → AreGrouped blocker_entries g.facts blockers → AreParted pairs g worse blockers
parted_from pairs g listed worse blockers worse_entries blocker_entries l s w b = record {
  worse_all = w.all;
  blockers_all = b.all;
  known = λ i k. rw (w.exact i k ∙ s.worse_exact i k) (All-filter (has (get_or listed i [])) (λ j. j < g.facts) (rivals g.clashes i) (s.rivals_known i k));
  exact = λ i k. record {
    worse_ascending = rw (w.exact i k ∙ s.worse_exact i k) (AllPairs-filter (λ x y. x < y) (has (get_or listed i [])) (rivals g.clashes i)
        (s.rivals_ascending i k));
    worse_exact = λ j. rw (w.exact i k ∙ s.worse_exact i k) (to_worse i j k, from_worse i j k);
    blockers_ascending = rw (b.exact i k ∙ s.blockers_exact i k)
        (AllPairs-filter (λ x y. x < y) (λ j. not (has (get_or listed i []) j)) (rivals g.clashes i) (s.rivals_ascending i k));
    blockers_exact = λ j. rw (b.exact i k ∙ s.blockers_exact i k) (to_blocker i j k, from_blocker i j k);
  };
}
  where
    told : (i j : ℕ) → i < g.facts → (has (get_or listed i []) j ≡ true) ↔ IsListed pairs i j
    told i j k = (
      (λ t. listed_there pairs i j (subst (λ (xs : List ℕ). Contains xs j) (l.exact i k) (has_there (get_or listed i []) j t))),
      (λ h. has_true (get_or listed i []) j (subst (λ (xs : List ℕ). Contains xs j) (sym (l.exact i k)) (there_listed pairs i j h))),
    )

    to_worse : (i j : ℕ) → i < g.facts → Contains (filter (has (get_or listed i [])) (rivals g.clashes i)) j → Ranks pairs g i j
    to_worse i j k h =
        let m = Contains-filter_from (has (get_or listed i [])) (rivals g.clashes i) j h in
        ((told i j k).0 m.1, (s.rivals_exact i j k).0 m.0)

    from_worse : (i j : ℕ) → i < g.facts → Ranks pairs g i j → Contains (filter (has (get_or listed i [])) (rivals g.clashes i)) j
    from_worse i j k r = Contains-filter_to (has (get_or listed i [])) (rivals g.clashes i) j ((s.rivals_exact i j k).1 r.1) ((told i j k).1 r.0)

    to_blocker : (i j : ℕ) → i < g.facts → Contains (filter (λ j. not (has (get_or listed i []) j)) (rivals g.clashes i)) j → AreInConflict g.clashes i j
        × ¬ Ranks pairs g i j
    to_blocker i j k h =
        let m = Contains-filter_from (λ j. not (has (get_or listed i []) j)) (rivals g.clashes i) j h in
        ((s.rivals_exact i j k).0 m.0, λ r. true≢false (sym ((told i j k).1 r.0) ∙ not-true _ m.1))

    from_blocker : (i j : ℕ) → i < g.facts → AreInConflict g.clashes i j × ¬ Ranks pairs g i j
        → Contains (filter (λ j. not (has (get_or listed i []) j)) (rivals g.clashes i)) j
    from_blocker i j k (c, n) =
        Contains-filter_to (λ j. not (has (get_or listed i []) j)) (rivals g.clashes i) j ((s.rivals_exact i j k).1 c)
        (not_from_false _ (has_not (get_or listed i []) j (λ m. n ((told i j k).0 (has_true (get_or listed i []) j m), c))))
