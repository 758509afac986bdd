-- A walk from fact to parent closes, and turned round it is a cycle.
use Rattle.std.proofs.Common.{◌≡◌, ◌≢◌, ◌<◌, ◌≤◌, ◌+◌, ◌-◌, ◌⊎◌, inl, inr, ℕ, suc, Bool, true, false, cond, List, [], ◌∷◌, ◌++◌, length, take, drop, reverse}
use Rattle.std.proofs.Common.{get_or, set, refl, sym, ap, ◌∙◌, subst, arith, Contains, All}
use Rattle.std.specs.List.{AllPairs}
use Rattle.std.proofs.lemmas.Bool.{cases_lt, true≢false}
use Rattle.std.proofs.lemmas.List.{append-nil, take-append-drop, drop_more, take_more, reverse-append, length-set, length-append, length-drop, length_push}
use Rattle.std.proofs.lemmas.List.{length-reverse, get_or_default, get_or_read, get_or_push, get_or-drop, get_or-reverse, get_or_append_left}
use Rattle.std.proofs.lemmas.List.{get_or-append_right, get_or-append-add, get_or-set_same, get_or-set_other}
use Rattle.std.proofs.lemmas.List.Elements.{All-nil, All-push, All-append, Contains-get_or}
use Rattle.std.proofs.lemmas.List.Kept.{AllPairs-cons}
use Rattle.std.proofs.lemmas.List.Quantifiers.{all_pairs_push}
use Rattle.std.proofs.lemmas.List.Sorted.{IsPermutation-reverse, All-permutation}
use Rattle.priority_graph.specs.Relations.{Chain, IsClosed, IsCycle}
use Rattle.priority_graph.specs.Split.{has, SetsEach}
use Rattle.priority_graph.specs.Walks.{IsLeft, AreParents, IsParent, AreClosed, IsTurned}
use Rattle.priority_graph.proofs.SplitLemmas.{has_true, has_there}
use Rattle.priority_graph.proofs.CountLemmas.{distinct_length}

-- the parents, as far as the facts below a bound can be some
pub record AreParentsBelow (lists : List (List ℕ)) (counts parents : List ℕ) (bound : ℕ) : Type 0 where
  pub all : length parents ≡ length counts
  pub exact : (i u : ℕ) → i < length counts → u < bound → IsLeft counts u → Contains (get_or lists u []) i
      → IsLeft counts (get_or parents i 0) × Contains (get_or lists (get_or parents i 0) []) i

-- a walk from each fact to its parent, where each place tells when a fact came
pub record IsWalk (counts parents path places : List ℕ) (fact : ℕ) : Type 0 where
  pub all : length places ≡ length counts
  pub here : IsLeft counts fact
  pub left : All (IsLeft counts) path
  pub placed : (k : ℕ) → k < length path → get_or places (get_or path k 0) 0 ≡ k
  pub steps : (k : ℕ) → k + 1 < length path → get_or parents (get_or path k 0) 0 ≡ get_or path (k + 1) 0
  pub next : (k : ℕ) → k + 1 ≡ length path → get_or parents (get_or path k 0) 0 ≡ fact

-- one more fact that is left
pub parents_more : (lists : List (List ℕ)) (counts parents new : List ℕ) (fact : ℕ) → AreParentsBelow lists counts parents fact → fact < length counts
    → get_or counts fact 0 ≢ 0
    → SetsEach parents new (get_or lists fact []) fact → AreParentsBelow lists counts new (fact + 1)
parents_more lists counts parents new fact h within some set = record {
  all = set.all ∙ h.all;
  exact = λ i u l m left c. by i u l m left c (has (get_or lists fact []) i) refl (set.exact i (omega (arith, h.all)));
}
  where
    by : (i u : ℕ) → i < length counts → u < fact + 1 → IsLeft counts u → Contains (get_or lists u []) i
        → (b : Bool) → has (get_or lists fact []) i ≡ b → get_or new i 0 ≡ cond b fact (get_or parents i 0)
        → IsLeft counts (get_or new i 0) × Contains (get_or lists (get_or new i 0) []) i
    by i u l m left c true is e =
        (subst (IsLeft counts) (sym e) (within, some), subst (λ (p : ℕ). Contains (get_or lists p []) i) (sym e) (has_there (get_or lists fact []) i is))
    by i u l m left c false is e =
        let other : u ≢ fact = λ s. true≢false (sym (has_true (get_or lists fact []) i (subst (λ (n : ℕ). Contains (get_or lists n []) i) s c)) ∙ is) in
        let old = h.exact i u l (omega (arith, other)) left c in
        (subst (IsLeft counts) (sym e) old.0, subst (λ (p : ℕ). Contains (get_or lists p []) i) (sym e) old.1)

-- one more fact that isn't left
pub parents_kept : (lists : List (List ℕ)) (counts parents : List ℕ) (fact : ℕ) → AreParentsBelow lists counts parents fact → get_or counts fact 0 ≡ 0
    → AreParentsBelow lists counts parents (fact + 1)
parents_kept lists counts parents fact h none = record {
  all = h.all;
  exact = λ i u l m left c.
      let other : u ≢ fact = λ s. left.1 (ap (λ (n : ℕ). get_or counts n 0) s ∙ none) in
      h.exact i u l (omega (arith, other)) left c;
}

pub parents_all : (lists : List (List ℕ)) (counts parents : List ℕ) (bound : ℕ) → AreParentsBelow lists counts parents bound → length counts ≤ bound
    → AreParents lists counts parents
parents_all lists counts parents bound h past = record {
  all = h.all;
  exact = λ i u l left c. h.exact i u l (omega (arith, left.0)) left c;
}

-- nothing is on the walk yet
pub walk_none : (counts parents places : List ℕ) (fact : ℕ) → length places ≡ length counts → IsLeft counts fact → IsWalk counts parents [] places fact
walk_none counts parents places fact same left = record {
  all = same;
  here = left;
  left = All-nil (IsLeft counts);
  placed = λ k l. absurd (omega arith);
  steps = λ k l. absurd (omega arith);
  next = λ k l. absurd (omega arith);
}

module _ (counts parents path places : List ℕ) (fact : ℕ) (h : IsWalk counts parents path places fact) where
  -- the walk never came to a fact of which its place says so
  pub not_on_walk : (get_or places fact 0 < length path → get_or path (get_or places fact 0) 0 ≡ fact → ⊥) → ¬ Contains path fact
  not_on_walk new (k, l, e) =
      let here : get_or path k 0 ≡ fact = get_or_default path k 0 fact l ∙ e in
      let at : get_or places fact 0 ≡ k = subst (λ (n : ℕ). get_or places n 0 ≡ k) here (h.placed k l) in
      new (omega (arith, at)) (ap (λ (n : ℕ). get_or path n 0) at ∙ here)

  pub walk_distinct : AllPairs (λ i j. i ≢ j) path
  walk_distinct i j d less l e =
      let same : get_or path i 0 ≡ get_or path j 0 = get_or_default path i 0 d (omega arith) ∙ e ∙ get_or_default path j d 0 l in
      let at : i ≡ j = sym (h.placed i (omega arith)) ∙ ap (λ (n : ℕ). get_or places n 0) same ∙ h.placed j l in
      omega (arith, at)

  module _ (absent : ¬ Contains path fact) where
    -- there are no more facts on the walk than facts
    pub walk_short : length path < length counts
    walk_short =
        let distinct = all_pairs_push (λ i j. i ≢ j) path fact walk_distinct (λ k d l e. absent (k, l, get_or_default path k fact d l ∙ e)) in
        let below = All-push (λ i. i < length counts) path fact (λ k d l. (h.left k d l).0) h.here.0 in
        omega (arith, distinct_length (length counts) (path ++ fact ∷ []) distinct below, length_push path fact)

    pub walk_more : AreClosed counts parents → IsWalk counts parents (path ++ fact ∷ []) (set places fact (length path)) (get_or parents fact 0)
    walk_more closed = record {
      all = length-set places fact (length path) ∙ h.all;
      here = closed fact h.here;
      left = All-push (IsLeft counts) path fact h.left h.here;
      placed = λ k l. placed k (omega (arith, length_push path fact)) (cases_lt k (length path));
      steps = λ k l. steps k (omega (arith, length_push path fact)) (cases_lt (k + 1) (length path));
      next = λ k e. ap (λ (n : ℕ). get_or parents n 0) (get_or_push path fact 0 k (omega (arith, e, length_push path fact)));
    }
      where
        old : (k : ℕ) → k < length path → get_or (path ++ fact ∷ []) k 0 ≡ get_or path k 0
        old k l = get_or_append_left path (fact ∷ []) 0 k l

        placed : (k : ℕ) → k < length path + 1 → (k < length path) ⊎ (length path ≤ k)
            → get_or (set places fact (length path)) (get_or (path ++ fact ∷ []) k 0) 0 ≡ k
        placed k l (inl less) =
            let other : get_or path k 0 ≢ fact = λ s. absent (k, less, get_or_default path k fact 0 less ∙ s) in
            ap (λ (n : ℕ). get_or (set places fact (length path)) n 0) (old k less)
            ∙ get_or-set_other places fact (get_or path k 0) (length path) 0 other
            ∙ h.placed k less
        placed k l (inr more) =
            let here : get_or (path ++ fact ∷ []) k 0 ≡ fact = get_or_push path fact 0 k (omega arith) in
            ap (λ (n : ℕ). get_or (set places fact (length path)) n 0) here
            ∙ get_or-set_same places fact (length path) 0 (omega (arith, h.here.0, h.all))
            ∙ omega arith

        steps : (k : ℕ) → k + 1 < length path + 1 → (k + 1 < length path) ⊎ (length path ≤ k + 1)
            → get_or parents (get_or (path ++ fact ∷ []) k 0) 0 ≡ get_or (path ++ fact ∷ []) (k + 1) 0
        steps k l (inl less) = ap (λ (n : ℕ). get_or parents n 0) (old k (omega arith)) ∙ h.steps k less ∙ sym (old (k + 1) less)
        steps k l (inr more) =
            ap (λ (n : ℕ). get_or parents n 0) (old k (omega arith))
            ∙ h.next k (omega arith)
            ∙ sym (get_or_push path fact 0 (k + 1) (omega arith))

-- a chain by places
chain_from : (S : ℕ → ℕ → Type 0) (x : ℕ) (xs : List ℕ) (end : ℕ) → ((k : ℕ) → k + 1 < length (x ∷ xs) → S (get_or (x ∷ xs) k 0) (get_or (x ∷ xs) (k + 1) 0))
    → ((k : ℕ) → k + 1 ≡ length (x ∷ xs) → S (get_or (x ∷ xs) k 0) end) → Chain S x xs end
chain_from S x [] end steps last = last 0 (omega arith)
chain_from S x (y ∷ ys) end steps last = (
  steps 0 (omega arith),
  chain_from S y ys end (λ k l. let next : suc k + 1 ≡ suc (k + 1) = omega arith in
      subst (λ (n : ℕ). S (get_or (y ∷ ys) k 0) (get_or (x ∷ y ∷ ys) n 0)) next (steps (suc k) (omega arith))) (λ k e. last (suc k) (omega arith)),
)

-- a closed chain by places
closed_from : (S : ℕ → ℕ → Type 0) (xs : List ℕ) → 0 < length xs → ((k : ℕ) → k + 1 < length xs → S (get_or xs k 0) (get_or xs (k + 1) 0))
    → ((k : ℕ) → k + 1 ≡ length xs → S (get_or xs k 0) (get_or xs 0 0)) → IsClosed S xs
closed_from S [] some steps last = absurd (omega arith)
closed_from S (x ∷ xs) some steps last = chain_from S x xs x steps last

-- the walk from the fact that came again
pub walk_closes : (counts parents path places : List ℕ) (fact place : ℕ) → IsWalk counts parents path places fact → place < length path
    → get_or path place 0 ≡ fact
    → IsClosed (λ i p. IsParent counts parents p i) (drop place path) × AllPairs (λ i j. i ≢ j) (drop place path)
walk_closes counts parents path places fact place h l again = (
  closed_from (λ i p. IsParent counts parents p i) (drop place path) (omega (arith, long))
      (λ k m.
      let a = get_or-drop place path k 0 in
      let b : get_or (drop place path) (k + 1) 0 ≡ get_or path (place + k + 1) 0 =
      get_or-drop place path (k + 1) 0 ∙ ap (λ (n : ℕ). get_or path n 0) (omega arith) in (
        subst (IsLeft counts) (sym a) (h.left (place + k) 0 (omega (arith, long))),
        ap (λ (n : ℕ). get_or parents n 0) a ∙ h.steps (place + k) (omega (arith, long)) ∙ sym b,
      ))
      (λ k e.
      let a = get_or-drop place path k 0 in
      let b : get_or (drop place path) 0 0 ≡ get_or path place 0 = get_or-drop place path 0 0 ∙ ap (λ (n : ℕ). get_or path n 0) (omega arith) in (
        subst (IsLeft counts) (sym a) (h.left (place + k) 0 (omega (arith, long))),
        ap (λ (n : ℕ). get_or parents n 0) a ∙ h.next (place + k) (omega (arith, long, e)) ∙ sym again ∙ sym b,
      )),
  λ i j d less m e. walk_distinct counts parents path places fact h (place + i) (place + j) d (omega arith) (omega (arith, long))
      (sym (get_or-drop place path i d) ∙ e ∙ get_or-drop place path j d),
)
  where
    long : length (drop place path) ≡ length path - place
    long = length-drop place path

-- a chain cut at one of its members
chain_cut : (S : ℕ → ℕ → Type 0) (x : ℕ) (xs : List ℕ) (y : ℕ) (ys : List ℕ) (end : ℕ) → Chain S x (xs ++ y ∷ ys) end → Chain S x xs y × Chain S y ys end
chain_cut S x [] y ys end (a, b) = (a, b)
chain_cut S x (z ∷ xs) y ys end (a, b) = let rest = chain_cut S z xs y ys end b in ((a, rest.0), rest.1)

chain_join : (S : ℕ → ℕ → Type 0) (x : ℕ) (xs : List ℕ) (y : ℕ) (ys : List ℕ) (end : ℕ) → Chain S x xs y → Chain S y ys end → Chain S x (xs ++ y ∷ ys) end
chain_join S x [] y ys end a b = (a, b)
chain_join S x (z ∷ xs) y ys end (a, rest) b = (a, chain_join S z xs y ys end rest b)

-- the opposite chain backwards
chain_back : (S R : ℕ → ℕ → Type 0) → ((i j : ℕ) → S i j → R j i) → (x : ℕ) (xs : List ℕ) (end : ℕ) → Chain S x xs end → Chain R end (reverse xs) x
chain_back S R turn x [] end a = turn x end a
chain_back S R turn x (y ∷ xs) end (a, rest) =
    subst (λ (zs : List ℕ). Chain R end zs x) (sym (reverse-append (y ∷ []) xs))
    (chain_join R end (reverse xs) y [] x (chain_back S R turn y xs end rest) (turn x y a))

All-reverse : (P : ℕ → Type 0) (xs : List ℕ) → All P xs → All P (reverse xs)
All-reverse P xs h = All-permutation P xs (reverse xs) (IsPermutation-reverse xs) h

-- distinct lists joined, cut and turned
distinct_join : (xs ys : List ℕ) → AllPairs (λ i j. i ≢ j) xs → AllPairs (λ i j. i ≢ j) ys → ((i j : ℕ) → Contains xs i → Contains ys j → i ≢ j)
    → AllPairs (λ i j. i ≢ j) (xs ++ ys)
distinct_join xs ys a b cross i j d less l = by (cases_lt i (length xs)) (cases_lt j (length xs))
  where
    by : (i < length xs) ⊎ (length xs ≤ i) → (j < length xs) ⊎ (length xs ≤ j) → get_or (xs ++ ys) i d ≡ get_or (xs ++ ys) j d → ⊥
    by (inl p) (inl q) e = a i j d less q (sym (get_or_append_left xs ys d i p) ∙ e ∙ get_or_append_left xs ys d j q)
    by (inl p) (inr q) e =
        cross (get_or xs i d) (get_or ys (j - length xs) d) (Contains-get_or xs i d p)
        (Contains-get_or ys (j - length xs) d (omega (arith, length-append xs ys)))
        (sym (get_or_append_left xs ys d i p) ∙ e ∙ get_or-append_right xs ys (length xs) j d refl q)
    by (inr p) (inl q) e = omega arith
    by (inr p) (inr q) e =
        b (i - length xs) (j - length xs) d (omega arith) (omega (arith, length-append xs ys))
        (sym (get_or-append_right xs ys (length xs) i d refl p) ∙ e ∙ get_or-append_right xs ys (length xs) j d refl q)

distinct_left : (xs ys : List ℕ) → AllPairs (λ i j. i ≢ j) (xs ++ ys) → AllPairs (λ i j. i ≢ j) xs
distinct_left xs ys h i j d less l e =
    h i j d less (omega (arith, length-append xs ys)) (get_or_append_left xs ys d i (omega arith) ∙ e ∙ sym (get_or_append_left xs ys d j l))

distinct_right : (xs ys : List ℕ) → AllPairs (λ i j. i ≢ j) (xs ++ ys) → AllPairs (λ i j. i ≢ j) ys
distinct_right xs ys h i j d less l e =
    h (length xs + i) (length xs + j) d (omega arith) (omega (arith, length-append xs ys)) (get_or-append-add xs ys i d ∙ e ∙ sym (get_or-append-add xs ys j d))

distinct_cross : (xs ys : List ℕ) → AllPairs (λ i j. i ≢ j) (xs ++ ys) → (i j : ℕ) → Contains xs i → Contains ys j → i ≢ j
distinct_cross xs ys h i j (k, l, e) (m, n, f) same =
    h k (length xs + m) i (omega arith) (omega (arith, length-append xs ys))
    (get_or_append_left xs ys i k l ∙ e ∙ same ∙ sym f ∙ get_or_default ys m j i n ∙ sym (get_or-append-add xs ys m i))

distinct_reverse : (xs : List ℕ) → AllPairs (λ i j. i ≢ j) xs → AllPairs (λ i j. i ≢ j) (reverse xs)
distinct_reverse xs h i j d less l e =
    let short : j < length xs = omega (arith, length-reverse xs) in
    h (length xs - 1 - j) (length xs - 1 - i) d (omega arith) (omega arith) (sym (get_or-reverse xs j d short) ∙ sym e ∙ get_or-reverse xs i d (omega arith))

-- a closed walk turned round is a cycle
pub turned_is_cycle : (S R : ℕ → ℕ → Type 0) → ((i j : ℕ) → S i j → R j i) → (walk cycle : List ℕ) → IsClosed S walk → AllPairs (λ i j. i ≢ j) walk
    → IsTurned walk cycle → IsCycle R cycle
turned_is_cycle S R turn walk cycle closed distinct (before, least, after, parts, turned, low) =
    subst (IsCycle R) (sym turned) (record {
      closed = chain_back S R turn least (after ++ before) least (around before (subst (IsClosed S) parts closed));
      distinct = AllPairs-cons (λ i j. i ≢ j) least (reverse (after ++ before)) (All-reverse (λ i. least ≢ i) (after ++ before) others)
          (distinct_reverse (after ++ before) (distinct_right (least ∷ []) (after ++ before) rotated));
      least = All-reverse (λ i. least ≤ i) (after ++ before) below;
    })
  where
    whole : AllPairs (λ i j. i ≢ j) (before ++ least ∷ after)
    whole = subst (AllPairs (λ i j. i ≢ j)) parts distinct

    rotated : AllPairs (λ i j. i ≢ j) (least ∷ (after ++ before))
    rotated = distinct_join (least ∷ after) before (distinct_right before (least ∷ after) whole) (distinct_left before (least ∷ after) whole)
        (λ i j a b s. distinct_cross before (least ∷ after) whole j i b a (sym s))

    others : All (λ i. least ≢ i) (after ++ before)
    others = λ k d l. rotated 0 (suc k) d (omega arith) (omega arith)

    low' : All (λ i. least ≤ i) (before ++ least ∷ after)
    low' = subst (All (λ i. least ≤ i)) parts low

    below : All (λ i. least ≤ i) (after ++ before)
    below = All-append (λ i. least ≤ i) after before
        (λ k d l. subst (λ (n : ℕ). least ≤ n) (get_or-append-add before (least ∷ after) (suc k) d)
        (low' (length before + suc k) d (omega (arith, length-append before (least ∷ after)))))
        (λ k d l. subst (λ (n : ℕ). least ≤ n) (get_or_append_left before (least ∷ after) d k l)
        (low' k d (omega (arith, length-append before (least ∷ after)))))

    around : (xs : List ℕ) → IsClosed S (xs ++ least ∷ after) → Chain S least (after ++ xs) least
    around [] c = subst (λ (ys : List ℕ). Chain S least ys least) (sym (append-nil after)) c
    around (x ∷ xs) c =
        let cut = chain_cut S x xs least after x c in
        chain_join S least after x xs least cut.1 cut.0

-- what is cut behind the least, both parts turned round
pub turned_from : (walk : List ℕ) (place : ℕ) → place < length walk → All (λ i. get_or walk place 0 ≤ i) walk
    → IsTurned walk (reverse (take (place + 1) walk) ++ reverse (drop (place + 1) walk))
turned_from walk place l low = (
  take place walk,
  get_or walk place 0,
  drop (place + 1) walk,
  sym (take-append-drop place walk) ∙ ap (λ (xs : List ℕ). take place walk ++ xs) (drop_more walk place 0 l),
  ap (λ (xs : List ℕ). reverse xs ++ reverse (drop (place + 1) walk)) (take_more walk place 0 l)
      ∙ ap (λ (xs : List ℕ). xs ++ reverse (drop (place + 1) walk)) (reverse-append (take place walk) (get_or walk place 0 ∷ []))
      ∙ ap (λ (xs : List ℕ). get_or walk place 0 ∷ xs) (sym (reverse-append (drop (place + 1) walk) (take place walk))),
  low,
)

-- the place that was read doesn't tell that the fact is on the walk: it is past the walk, or another fact stands there
pub new_past : (path places : List ℕ) (fact place : ℕ) → fact < length places → place ≡ get_or places fact place → length path ≤ place
    → get_or places fact 0 < length path → get_or path (get_or places fact 0) 0 ≡ fact → ⊥
new_past path places fact place inside read past l e = let at = get_or_read places fact place inside read 0 in omega (arith, at)

pub new_other : (path places : List ℕ) (fact place there : ℕ) → fact < length places → place ≡ get_or places fact place → place < length path
    → there ≡ get_or path place there → there ≢ fact
    → get_or places fact 0 < length path → get_or path (get_or places fact 0) 0 ≡ fact → ⊥
new_other path places fact place there inside read within at other l e =
    let is = get_or_read places fact place inside read 0 in
    other (get_or_read path place there within at 0 ∙ ap (λ (n : ℕ). get_or path n 0) is ∙ e)
