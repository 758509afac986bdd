-- Lists cut at the first element that passes a test.
use Rattle.std.proofs.Common.{suc, ◌≡◌, ℕ, ◌<◌, ◌≤◌, ◌+◌, Bool, true, false, cond, not, ltb, List, [], ◌∷◌, ◌++◌, length, take, drop, Some, None, position}
use Rattle.std.proofs.Common.{unwrap_or, refl, sym, arith}
use Rattle.std.specs.List.{AllByRecursion, position_or_len}
use Rattle.std.proofs.Math.Seq.{take-length}
use Rattle.std.proofs.lemmas.Bool.Decides.{Decides-ltb}
use Rattle.std.proofs.lemmas.List.{take-append-drop}
use Rattle.std.proofs.lemmas.List.Sums.{prefix_len-le-length}

-- no element passes the test
abbrev pub Fails : (ℕ → Bool) → List ℕ → Type 0
Fails p xs = AllByRecursion (λ x. p x ≡ false) xs

-- the first element, if there is one, passes the test
abbrev pub Starts : (ℕ → Bool) → List ℕ → Type 0
Starts p [] = Unit {0}
Starts p (x ∷ xs) = p x ≡ true

-- one more element before those that fail
before_step : (p : ℕ → Bool) (x : ℕ) (xs : List ℕ) (n : ℕ) (b : Bool) → p x ≡ b → Fails p (take n xs)
    → Fails p (take (cond (not b) (1 + n) 0) (x ∷ xs))
before_step p x xs n true e h = tt
before_step p x xs n false e h = let one : 1 + n ≡ suc n = omega arith in rw one (e, h)

-- what stands before the first that passes fails
pub Fails-before : (p : ℕ → Bool) (xs : List ℕ) → Fails p (take (position_or_len p xs) xs)
Fails-before p [] = tt
Fails-before p (x ∷ xs) = before_step p x xs (position_or_len p xs) (p x) refl (Fails-before p xs)

-- one more element before the first that passes
from_step : (p : ℕ → Bool) (x : ℕ) (xs : List ℕ) (n : ℕ) (b : Bool) → p x ≡ b → Starts p (drop n xs)
    → Starts p (drop (cond (not b) (1 + n) 0) (x ∷ xs))
from_step p x xs n true e h = e
from_step p x xs n false e h = let one : 1 + n ≡ suc n = omega arith in rw one h

-- what stands from the first that passes on starts with it
pub Starts-from : (p : ℕ → Bool) (xs : List ℕ) → Starts p (drop (position_or_len p xs) xs)
Starts-from p [] = tt
Starts-from p (x ∷ xs) = from_step p x xs (position_or_len p xs) (p x) refl (Starts-from p xs)

-- the place of the first that passes is within the list
pub position_or_len-le : (p : ℕ → Bool) (xs : List ℕ) → position_or_len p xs ≤ length xs
position_or_len-le p xs = prefix_len-le-length (λ x. not (p x)) xs

-- a place that is found is that of the first that passes
pub found_place : (p : ℕ → Bool) (xs : List ℕ) (i : ℕ) → position p xs ≡ Some i → (i ≡ position_or_len p xs) × (i < length xs)
found_place p xs i e = by (ltb (position_or_len p xs) (length xs)) refl e
  where
    by : (b : Bool) → ltb (position_or_len p xs) (length xs) ≡ b → cond b (Some (position_or_len p xs)) None ≡ Some i
        → (i ≡ position_or_len p xs) × (i < length xs)
    by true t s =
        let same : i ≡ position_or_len p xs = cc in
        (same, let lt : position_or_len p xs < length xs = (Decides-ltb _ _).0 t in omega arith)
    by false t s = cc

-- where no place is found, all fail
pub no_place : (p : ℕ → Bool) (xs : List ℕ) → position p xs ≡ None → Fails p xs
no_place p xs e = by (ltb (position_or_len p xs) (length xs)) refl e
  where
    by : (b : Bool) → ltb (position_or_len p xs) (length xs) ≡ b → cond b (Some (position_or_len p xs)) None ≡ None → Fails p xs
    by true t s = cc
    by false t s =
        let no : position_or_len p xs < length xs → ⊥ = λ lt. let yes = (Decides-ltb (position_or_len p xs) (length xs)).1 lt in cc in
        let all : position_or_len p xs ≡ length xs = omega (arith, position_or_len-le p xs) in
        let front : Fails p (take (length xs) xs) = rw all at (Fails-before p xs) in
        rw take-length at front

-- a list is what stands before a place and from there on
pub whole : (xs : List ℕ) (i : ℕ) → xs ≡ take i xs ++ drop i xs
whole xs i = sym (take-append-drop i xs)

-- the place that is found, or the length
pub unwrap_or-position : (p : ℕ → Bool) (xs : List ℕ) → unwrap_or (position p xs) (length xs) ≡ position_or_len p xs
unwrap_or-position p xs = by (ltb (position_or_len p xs) (length xs)) refl
  where
    by : (b : Bool) → ltb (position_or_len p xs) (length xs) ≡ b
        → unwrap_or (cond b (Some (position_or_len p xs)) None) (length xs) ≡ position_or_len p xs
    by true t = refl
    by false t =
        let no : position_or_len p xs < length xs → ⊥ = λ lt. let yes = (Decides-ltb (position_or_len p xs) (length xs)).1 lt in cc in
        omega (arith, position_or_len-le p xs)
