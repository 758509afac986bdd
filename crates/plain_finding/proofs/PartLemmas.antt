-- Lists in two parts by marks at the places of their members.
use Rattle.std.proofs.Common.{◌≡◌, ◌<◌, ◌≤◌, ◌+◌, ◌⊎◌, inl, inr, ℕ, zero, suc, List, [], ◌∷◌, ◌++◌, length, map, Contains, All, Bool, true, false, not, refl}
use Rattle.std.proofs.Common.{sym, subst, ap, ◌∙◌, arith, filter, get_or, take, cond, add-one, min}
use Rattle.std.proofs.lemmas.List.Elements.{All-contains}
use Rattle.std.proofs.lemmas.Bool.{cases_lt}
use Rattle.std.proofs.lemmas.List.Kept.{AllPairs-cons}
use Rattle.cq_terms.specs.Lists.{IsAscending}
use Rattle.cq_meaning.proofs.Ascending.{All-of}
use Rattle.cq_meaning.proofs.Members.{Contains-head, Contains-later, Contains-cases, Contains-nil}
use Rattle.plain_finding.specs.Kept.{kept_at}

pub map-kept_at : {X Y : Type 0} (f : X → Y) (marks : List Bool) (xs : List X) → map f (kept_at marks xs) ≡ kept_at marks (map f xs)
map-kept_at f [] xs = refl
map-kept_at f (mark ∷ marks) [] = refl
map-kept_at f (true ∷ marks) (x ∷ xs) = ap (λ ys. f x ∷ ys) (map-kept_at f marks xs)
map-kept_at f (false ∷ marks) (x ∷ xs) = map-kept_at f marks xs

-- by the marks of a test it is the filtered list
pub kept_at-tested : {X : Type 0} (test : X → Bool) (xs : List X) → kept_at (map test xs) xs ≡ filter test xs
kept_at-tested test [] = refl
kept_at-tested {X} test (x ∷ xs) = by (test x) (kept_at-tested test xs)
  where
    by : (b : Bool) → kept_at (map test xs) xs ≡ filter test xs
        → kept_at (b ∷ map test xs) (x ∷ xs) ≡ cond b (x ∷ filter test xs) (filter test xs)
    by true e = ap (λ (ys : List X). x ∷ ys) e
    by false e = e

pub kept_within : {X : Type 0} (marks : List Bool) (xs : List X) (x : X) → Contains (kept_at marks xs) x → Contains xs x
kept_within [] xs x m = absurd (Contains-nil x m)
kept_within (mark ∷ marks) [] x m = absurd (Contains-nil x m)
kept_within (true ∷ marks) (y ∷ xs) x m = elim (Contains-cases y (kept_at marks xs) x m) [
  | inl e ↦ subst (Contains (y ∷ xs)) e (Contains-head y xs)
  | inr n ↦ Contains-later y xs x (kept_within marks xs x n)
]
kept_within (false ∷ marks) (y ∷ xs) x m = Contains-later y xs x (kept_within marks xs x m)

-- each member is in one of the parts
pub in_a_part : {X : Type 0} (marks : List Bool) (xs : List X) (x : X) → length xs ≡ length marks → Contains xs x
    → Contains (kept_at marks xs) x ⊎ Contains (kept_at (map not marks) xs) x
in_a_part marks [] x e m = absurd (Contains-nil x m)
in_a_part [] (y ∷ xs) x e m = absurd (omega arith)
in_a_part (true ∷ marks) (y ∷ xs) x e m = elim (Contains-cases y xs x m) [
  | inl is ↦ inl (subst (Contains (y ∷ kept_at marks xs)) is (Contains-head y (kept_at marks xs)))
  | inr n ↦ elim (in_a_part marks xs x (omega arith) n) [ inl k ↦ inl (Contains-later y (kept_at marks xs) x k) | inr g ↦ inr g ]
]
in_a_part (false ∷ marks) (y ∷ xs) x e m = elim (Contains-cases y xs x m) [
  | inl is ↦ inr (subst (Contains (y ∷ kept_at (map not marks) xs)) is (Contains-head y (kept_at (map not marks) xs)))
  | inr n ↦ elim (in_a_part marks xs x (omega arith) n) [ inl k ↦ inl k | inr g ↦ inr (Contains-later y (kept_at (map not marks) xs) x g) ]
]

-- an ascending list begins with its least number
pub ascending_tail : (x : ℕ) (xs : List ℕ) → IsAscending (x ∷ xs) → IsAscending xs
ascending_tail x xs up i j d l m = up (suc i) (suc j) d (omega arith) (omega arith)

pub ascending_head : (x : ℕ) (xs : List ℕ) → IsAscending (x ∷ xs) → All (λ y. x < y) xs
ascending_head x xs up k d l = up 0 (suc k) d (omega arith) (omega arith)

pub above_head : (x : ℕ) (xs : List ℕ) → IsAscending (x ∷ xs) → (y : ℕ) → Contains xs y → x < y
above_head x xs up y m = All-contains (λ y. x < y) xs y (ascending_head x xs up) m

-- a part of an ascending list ascends
pub kept_ascending : (marks : List Bool) (xs : List ℕ) → IsAscending xs → IsAscending (kept_at marks xs)
kept_ascending [] xs up = λ i j d l m. absurd (omega arith)
kept_ascending (mark ∷ marks) [] up = up
kept_ascending (true ∷ marks) (x ∷ xs) up = AllPairs-cons (λ i j. i < j) x (kept_at marks xs)
    (All-of (λ y. x < y) (kept_at marks xs) (λ y m. above_head x xs up y (kept_within marks xs y m)))
    (kept_ascending marks xs (ascending_tail x xs up))
kept_ascending (false ∷ marks) (x ∷ xs) up = kept_ascending marks xs (ascending_tail x xs up)

-- no number is in both parts of an ascending list
pub parts_apart : (marks : List Bool) (xs : List ℕ) → IsAscending xs → (x : ℕ) → Contains (kept_at marks xs) x → ¬ Contains (kept_at (map not marks) xs) x
parts_apart [] xs up x m n = absurd (Contains-nil x m)
parts_apart (mark ∷ marks) [] up x m n = absurd (Contains-nil x m)
parts_apart (true ∷ marks) (y ∷ xs) up x m n = elim (Contains-cases y (kept_at marks xs) x m) [
  | inl e ↦ (let l = above_head y xs up x (kept_within (map not marks) xs x n) in absurd (omega arith))
  | inr k ↦ parts_apart marks xs (ascending_tail y xs up) x k n
]
parts_apart (false ∷ marks) (y ∷ xs) up x m n = elim (Contains-cases y (kept_at (map not marks) xs) x n) [
  | inl e ↦ (let l = above_head y xs up x (kept_within marks xs x m) in absurd (omega arith))
  | inr k ↦ parts_apart marks xs (ascending_tail y xs up) x m k
]

-- the parts of one more place, as a walk over the places finds them
more_kept : {X : Type 0} (marks : List Bool) (xs : List X) (i : ℕ) (d : X) → i < length marks → i < length xs → get_or marks i false ≡ true
    → kept_at (take (suc i) marks) (take (suc i) xs) ≡ kept_at (take i marks) (take i xs) ++ get_or xs i d ∷ []
more_kept [] xs i d l m e = absurd (omega arith)
more_kept (mark ∷ marks) [] i d l m e = absurd (omega arith)
more_kept (true ∷ marks) (x ∷ xs) zero d l m e = refl
more_kept (false ∷ marks) (x ∷ xs) zero d l m e = absurd (cc e)
more_kept {X} (true ∷ marks) (x ∷ xs) (suc i) d l m e = ap (λ (ys : List X). x ∷ ys) (more_kept marks xs i d (omega arith) (omega arith) e)
more_kept (false ∷ marks) (x ∷ xs) (suc i) d l m e = more_kept marks xs i d (omega arith) (omega arith) e

more_skipped : {X : Type 0} (marks : List Bool) (xs : List X) (i : ℕ) → i < length marks → get_or marks i false ≡ false
    → kept_at (take (suc i) marks) (take (suc i) xs) ≡ kept_at (take i marks) (take i xs)
more_skipped [] xs i l e = absurd (omega arith)
more_skipped (mark ∷ marks) [] zero l e = refl
more_skipped (mark ∷ marks) [] (suc i) l e = refl
more_skipped (true ∷ marks) (x ∷ xs) zero l e = absurd (cc e)
more_skipped (false ∷ marks) (x ∷ xs) zero l e = refl
more_skipped {X} (true ∷ marks) (x ∷ xs) (suc i) l e = ap (λ (ys : List X). x ∷ ys) (more_skipped marks xs i (omega arith) e)
more_skipped (false ∷ marks) (x ∷ xs) (suc i) l e = more_skipped marks xs i (omega arith) e

module _ {X : Type 0} (marks : List Bool) (xs : List X) (i : ℕ) (l : i < length marks) (old new : List X)
    (is : old ≡ kept_at (take i marks) (take i xs)) where
  pub kept_more : (d : X) → i < length xs → get_or marks i false ≡ true → new ≡ old ++ get_or xs i d ∷ []
      → new ≡ kept_at (take (i + 1) marks) (take (i + 1) xs)
  kept_more d m e f = rw add-one (f ∙ (ap (λ (ys : List X). ys ++ get_or xs i d ∷ []) is ∙ sym (more_kept marks xs i d l m e)))

  pub kept_skips : get_or marks i false ≡ false → new ≡ old → new ≡ kept_at (take (i + 1) marks) (take (i + 1) xs)
  kept_skips e f = rw add-one (f ∙ (is ∙ sym (more_skipped marks xs i l e)))

-- marks turned round
pub turned : (marks : List Bool) (i : ℕ) → i < length marks → get_or (map not marks) i false ≡ not (get_or marks i false)
turned [] i l = absurd (omega arith)
turned (mark ∷ marks) zero l = refl
turned (mark ∷ marks) (suc i) l = turned marks i (omega arith)

-- the places up to the end of the shorter list are all
pub kept_all : {X : Type 0} (marks : List Bool) (xs : List X) (i : ℕ) → (length xs ≤ i) ⊎ (length marks ≤ i)
    → kept_at (take i marks) (take i xs) ≡ kept_at marks xs
kept_all [] xs zero e = refl
kept_all [] xs (suc i) e = refl
kept_all (mark ∷ marks) [] zero e = refl
kept_all (mark ∷ marks) [] (suc i) e = refl
kept_all (mark ∷ marks) (x ∷ xs) zero e = absurd (elim e [ inl l ↦ omega arith | inr l ↦ omega arith ])
kept_all {X} (true ∷ marks) (x ∷ xs) (suc i) e = ap (λ (ys : List X). x ∷ ys)
    (kept_all marks xs i (elim e [ inl l ↦ inl (omega arith) | inr l ↦ inr (omega arith) ]))
kept_all (false ∷ marks) (x ∷ xs) (suc i) e = kept_all marks xs i (elim e [ inl l ↦ inl (omega arith) | inr l ↦ inr (omega arith) ])

-- past the lesser of two numbers is past one of them
pub min_ends : (a b k : ℕ) → min a b ≤ k → (a ≤ k) ⊎ (b ≤ k)
min_ends a b k l = elim (cases_lt k a) [ inl less ↦ inr (omega arith) | inr more ↦ inl more ]
