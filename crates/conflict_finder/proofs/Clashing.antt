-- The clashes of entries: those of one fact, and those of two.
use Rattle.std.proofs.Common.{◌≡◌, ℕ, ◌<◌, ◌≤◌, List, [], ◌∷◌, length, map, Contains, ◌⊎◌, inl, inr, sym, ap, subst, arith, AllPairs}
use Rattle.std.specs.List.{AllByRecursion}
use Rattle.std.specs.List.Sorted.{IsStrictlySortedBy}
use Rattle.std.specs.declared.cmp.Ordering.TheVariants.{Less}
use Rattle.std.specs.Map.{keys_of}
use Rattle.std.specs.Ordering.{nat_cmp, ordering_then}
use Rattle.std.proofs.lemmas.Bool.Decides.{nat_tests}
use Rattle.std.proofs.lemmas.Bool.{cases_eq, cases_lt}
use Rattle.std.proofs.lemmas.List.Elements.{All-contains}
use Rattle.std.proofs.lemmas.List.Kept.{AllPairs-cons}
use Rattle.cq_terms.specs.declared.hits.Clash.{Clash}
use Rattle.cq_terms.specs.Conflicts.{own_facts, couples, IsBefore}
use Rattle.cq_terms.specs.Lists.{IsAscending}
use Rattle.cq_meaning.proofs.Members.{Contains-head, Contains-later, Contains-cases, Contains-nil}
use Rattle.cq_meaning.proofs.Ascending.{All-of}
use Rattle.query_matching.proofs.Ascending.{AllPairs-head, AllPairs-tail}
use Rattle.conflict_finder.specs.declared.clash_facts.ClashFacts.{ClashFacts}
use Rattle.conflict_finder.specs.declared.clash_facts.ClashFacts.TheVariants.{One, Two}
use Rattle.conflict_finder.specs.declared.first_shown.Source.{Source}
use Rattle.conflict_finder.specs.FirstShown.{facts_cmp, numbers_of, HasKey, clash_of}

-- ---- what is mapped

pub map_to : {X Y : Type 0} (f : X → Y) (xs : List X) (x : X) → Contains xs x → Contains (map f xs) (f x)
map_to f [] x c = absurd (Contains-nil x c)
map_to f (y ∷ xs) x c = elim (Contains-cases y xs x c) [
  | inl e ↦ subst (λ z. Contains (map f (y ∷ xs)) (f z)) e (Contains-head (f y) (map f xs))
  | inr d ↦ Contains-later (f y) (map f xs) (f x) (map_to f xs x d)
]

pub map_from : {X Y : Type 0} (f : X → Y) (xs : List X) (y : Y) → Contains (map f xs) y → (x : X) × Contains xs x × (y ≡ f x)
map_from f [] y c = absurd (Contains-nil y c)
map_from f (x ∷ xs) y c = elim (Contains-cases (f x) (map f xs) y c) [
  | inl e ↦ (x, Contains-head x xs, sym e)
  | inr d ↦ let w = map_from f xs y d in (w.0, Contains-later x xs w.0 w.1, w.2)
]

pub pairs_map : {X Y : Type 0} (R : X → X → Type 0) (S : Y → Y → Type 0) (f : X → Y) (xs : List X) → AllPairs R xs
    → ((x z : X) → Contains xs x → Contains xs z → R x z → S (f x) (f z)) → AllPairs S (map f xs)
pairs_map R S f [] a h = λ i j d ij l. absurd (omega arith)
pairs_map R S f (x ∷ xs) a h =
    AllPairs-cons S (f x) (map f xs)
    (All-of (S (f x)) (map f xs) (λ y c. let w = map_from f xs y c in
    subst (S (f x)) (sym w.2) (h x w.0 (Contains-head x xs) (Contains-later x xs w.0 w.1) (All-contains (R x) xs w.0 (AllPairs-head R x xs a) w.1))))
    (pairs_map R S f xs (AllPairs-tail R x xs a) (λ u v c d. h u v (Contains-later x xs u c) (Contains-later x xs v d)))

-- ---- which facts clash

same_one : (a b : ℕ) (s t : Source) → ◌≡◌ {A = ClashFacts × Source} (One a, s) (One b, t) → a ≡ b
same_one a b s t e = let key : One a ≡ One b = ap (λ (x : ClashFacts × Source). x.0) e in cc key

first_of_two : (a b c d : ℕ) → Two a b ≡ Two c d → a ≡ c
first_of_two a b c d e = cc

second_of_two : (a b c d : ℕ) → Two a b ≡ Two c d → b ≡ d
second_of_two a b c d e = cc

same_two : (a b c d : ℕ) (s t : Source) → ◌≡◌ {A = ClashFacts × Source} (Two a b, s) (Two c d, t) → ◌≡◌ {A = ℕ × ℕ} (a, b) (c, d)
same_two a b c d s t e =
    let key : Two a b ≡ Two c d = ap (λ (x : ClashFacts × Source). x.0) e in
    let first = first_of_two a b c d key in
    let second = second_of_two a b c d key in
    λ i. (first i, second i)

one_not_two : (a b c : ℕ) (s t : Source) → ◌≡◌ {A = ClashFacts × Source} (One a, s) (Two b c, t) → ⊥
one_not_two a b c s t e = let key : One a ≡ Two b c = ap (λ (x : ClashFacts × Source). x.0) e in cc key

key_later : (e : ClashFacts × Source) (es : List (ClashFacts × Source)) (k : ClashFacts) → HasKey es k → HasKey (e ∷ es) k
key_later e es k (s, c) = (s, Contains-later e es (k, s) c)

pub own_there : (es : List (ClashFacts × Source)) (i : ℕ) → Contains (own_facts (map clash_of es)) i → HasKey es (One i)
own_there [] i c = absurd (Contains-nil i c)
own_there ((One a, s) ∷ es) i c = elim (Contains-cases a (own_facts (map clash_of es)) i c) [
  | inl e ↦ (s, subst (λ (x : ℕ). Contains ((One a, s) ∷ es) (One x, s)) e (Contains-head (One a, s) es))
  | inr d ↦ key_later (One a, s) es (One i) (own_there es i d)
]
own_there ((Two a b, s) ∷ es) i c = key_later (Two a b, s) es (One i) (own_there es i c)

pub own_back : (es : List (ClashFacts × Source)) (i : ℕ) → HasKey es (One i) → Contains (own_facts (map clash_of es)) i
own_back [] i (s, c) = absurd (Contains-nil (One i, s) c)
own_back ((One a, t) ∷ es) i (s, c) = elim (Contains-cases (One a, t) es (One i, s) c) [
  | inl e ↦ subst (Contains (a ∷ own_facts (map clash_of es))) (same_one a i t s e) (Contains-head a (own_facts (map clash_of es)))
  | inr d ↦ Contains-later a (own_facts (map clash_of es)) i (own_back es i (s, d))
]
own_back ((Two a b, t) ∷ es) i (s, c) = elim (Contains-cases (Two a b, t) es (One i, s) c) [
  | inl e ↦ absurd (one_not_two i a b s t (sym e))
  | inr d ↦ own_back es i (s, d)
]

pub couple_there : (es : List (ClashFacts × Source)) (i j : ℕ) → Contains (couples (map clash_of es)) (i, j) → HasKey es (Two i j)
couple_there [] i j c = absurd (Contains-nil (i, j) c)
couple_there ((One a, s) ∷ es) i j c = key_later (One a, s) es (Two i j) (couple_there es i j c)
couple_there ((Two a b, s) ∷ es) i j c = elim (Contains-cases (a, b) (couples (map clash_of es)) (i, j) c) [
  | inl e ↦ (s, subst (λ (p : ℕ × ℕ). Contains ((Two a b, s) ∷ es) (Two p.0 p.1, s)) e (Contains-head (Two a b, s) es))
  | inr d ↦ key_later (Two a b, s) es (Two i j) (couple_there es i j d)
]

pub couple_back : (es : List (ClashFacts × Source)) (i j : ℕ) → HasKey es (Two i j) → Contains (couples (map clash_of es)) (i, j)
couple_back [] i j (s, c) = absurd (Contains-nil (Two i j, s) c)
couple_back ((One a, t) ∷ es) i j (s, c) = elim (Contains-cases (One a, t) es (Two i j, s) c) [
  | inl e ↦ absurd (one_not_two a i j t s e)
  | inr d ↦ couple_back es i j (s, d)
]
couple_back ((Two a b, t) ∷ es) i j (s, c) = elim (Contains-cases (Two a b, t) es (Two i j, s) c) [
  | inl e ↦ subst (Contains ((a, b) ∷ couples (map clash_of es))) (same_two a b i j t s e) (Contains-head (a, b) (couples (map clash_of es)))
  | inr d ↦ Contains-later (a, b) (couples (map clash_of es)) (i, j) (couple_back es i j (s, d))
]

-- ---- in order

abbrev pub IsLess : ClashFacts × Source → ClashFacts × Source → Type 0
IsLess e f = facts_cmp e.0 f.0 ≡ Less

pub entries_ascend : (es : List (ClashFacts × Source)) → IsStrictlySortedBy facts_cmp (keys_of es) → AllPairs IsLess es
unfolding IsStrictlySortedBy
entries_ascend [] s = λ i j d ij l. absurd (omega arith)
entries_ascend (e ∷ es) s = AllPairs-cons IsLess e es (All-of (IsLess e) es (first es s.0)) (entries_ascend es s.1)
  where
    first : (fs : List (ClashFacts × Source)) → AllByRecursion (λ k. facts_cmp e.0 k ≡ Less) (keys_of fs) → (f : ClashFacts × Source) → Contains fs f
        → IsLess e f
    first [] h f c = absurd (Contains-nil f c)
    first (x ∷ fs) h f c = elim (Contains-cases x fs f c) [ inl q ↦ subst (IsLess e) q h.0 | inr d ↦ first fs h.1 f d ]

less_one : (a b : ℕ) → nat_cmp a b ≡ Less → a < b
less_one a b e = grind (arith, nat_tests, e)

less_two : (a b c d : ℕ) → ordering_then (nat_cmp a c) (nat_cmp b d) ≡ Less → IsBefore (a, b) (c, d)
less_two a b c d e = go (cases_lt a c) (cases_eq a c) (cases_lt b d)
  where
    go : (a < c) ⊎ (c ≤ a) → (a ≡ c) ⊎ (a ≡ c → ⊥) → (b < d) ⊎ (d ≤ b) → (a < c) ⊎ ((a ≡ c) × (b < d))
    go (inl l) _ _ = inl l
    go (inr l) (inl p) (inl m) = inr (p, m)
    go (inr l) (inl p) (inr m) = absurd (grind (arith, nat_tests, e, p, m))
    go (inr l) (inr n) _ = absurd (grind (arith, nat_tests, e, n, l))

pub owns_ascend : (es : List (ClashFacts × Source)) → AllPairs IsLess es → IsAscending (own_facts (map clash_of es))
owns_ascend [] a = λ i j d ij l. absurd (omega arith)
owns_ascend ((One i, s) ∷ es) a =
    AllPairs-cons (λ x y. x < y) i (own_facts (map clash_of es))
    (All-of (λ y. i < y) (own_facts (map clash_of es)) (λ y c. let w = own_there es y c in
    less_one i y (All-contains (IsLess (One i, s)) es (One y, w.0) (AllPairs-head IsLess (One i, s) es a) w.1)))
    (owns_ascend es (AllPairs-tail IsLess (One i, s) es a))
owns_ascend ((Two i j, s) ∷ es) a = owns_ascend es (AllPairs-tail IsLess (Two i j, s) es a)

pub couples_ascend : (es : List (ClashFacts × Source)) → AllPairs IsLess es → AllPairs IsBefore (couples (map clash_of es))
couples_ascend [] a = λ i j d ij l. absurd (omega arith)
couples_ascend ((One i, s) ∷ es) a = couples_ascend es (AllPairs-tail IsLess (One i, s) es a)
couples_ascend ((Two i j, s) ∷ es) a =
    AllPairs-cons IsBefore (i, j) (couples (map clash_of es))
    (All-of (IsBefore (i, j)) (couples (map clash_of es)) (λ p c. let w = couple_there es p.0 p.1 c in
    less_two i j p.0 p.1 (All-contains (IsLess (Two i j, s)) es (Two p.0 p.1, w.0) (AllPairs-head IsLess (Two i j, s) es a) w.1)))
    (couples_ascend es (AllPairs-tail IsLess (Two i j, s) es a))

-- a lesser key has no more facts
no_more_facts : (k j : ClashFacts) → facts_cmp k j ≡ Less → length (numbers_of k) ≤ length (numbers_of j)
no_more_facts (One a) (One b) l = omega arith
no_more_facts (One a) (Two b c) l = omega arith
no_more_facts (Two a b) (One c) l = cc
no_more_facts (Two a b) (Two c d) l = omega arith

-- the clashes of one fact come first
pub owns_first : (es : List (ClashFacts × Source)) → AllPairs IsLess es → AllPairs (λ (c d : Clash). length c.facts ≤ length d.facts) (map clash_of es)
owns_first es a = pairs_map IsLess (λ (c d : Clash). length c.facts ≤ length d.facts) clash_of es a (λ e f c d l. no_more_facts e.0 f.0 l)
