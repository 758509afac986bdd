-- Bytes cut behind the first ones that pass a test.
use Rattle.std.proofs.Common.{◌≡◌, ℕ, ◌<◌, ◌≤◌, ◌+◌, ◌-◌, Bool, true, false, cond, not, ◌&&◌, ltb, List, [], ◌∷◌, ◌++◌, length, take, drop, position, Some}
use Rattle.std.proofs.Common.{None, refl, sym, ap, ◌∙◌, arith, length-drop, suc, ◌==◌}
use Rattle.std.specs.List.{list_all, prefix_len, position_or_len}
use Rattle.std.specs.Str.{IsAscii, IsUtf8}
use Rattle.std.proofs.Math.Seq.{take-length}
use Rattle.std.proofs.lemmas.Bool.Decides.{nat_tests}
use Rattle.std.proofs.lemmas.Str.{IsUtf8-from_ascii}
use Rattle.std.proofs.lemmas.Str.Ascii.{IsAscii-nil, IsAscii-cons}
use Rattle.query_reader.specs.Tokens.{begins, is_letter}
use Rattle.query_reader.specs.Parts.{IsRun}

-- both of two tests hold
pub both : (a b : Bool) → (a && b) ≡ true → (a ≡ true) × (b ≡ true)
both true b h = (refl, h)
both false b h = cc

module _ (p : ℕ → Bool) where
  -- the first bytes that pass are as many as those before the first that doesn't
  prefix_len-not : (xs : List ℕ) → position_or_len (λ x. not (p x)) xs ≡ prefix_len p xs
  prefix_len-not [] = refl
  prefix_len-not (x ∷ xs) = by (p x) _ _ (prefix_len-not xs)
    where
      by : (b : Bool) (m n : ℕ) → m ≡ n → cond (not (not b)) (1 + m) 0 ≡ cond b (1 + n) 0
      by true m n e = ap (λ k. 1 + k) e
      by false m n e = refl

  -- one more byte that passes
  run_cons : (x : ℕ) (xs run after : List ℕ) → p x ≡ true → IsRun p xs run after → IsRun p (x ∷ xs) (x ∷ run) after
  run_cons x xs run after passes r = record {
    whole = ap (λ rest. x ∷ rest) r.whole;
    all = rw passes r.all;
    ends = r.ends;
  }

  -- the bytes are cut where those that pass end
  run_front : (xs : List ℕ) → IsRun p xs (take (prefix_len p xs) xs) (drop (prefix_len p xs) xs)
  run_front [] = record { whole = refl; all = refl; ends = refl }
  run_front (x ∷ xs) = by (p x) refl (run_front xs)
    where
      by : (b : Bool) → p x ≡ b → IsRun p xs (take (prefix_len p xs) xs) (drop (prefix_len p xs) xs)
          → IsRun p (x ∷ xs) (take (cond (p x) (1 + prefix_len p xs) 0) (x ∷ xs)) (drop (cond (p x) (1 + prefix_len p xs) 0) (x ∷ xs))
      by true e more = let one : 1 + prefix_len p xs ≡ suc (prefix_len p xs) = omega arith in rw (e, one) (run_cons x xs _ _ e more)
      by false e more = rw e (record { whole = refl; all = refl; ends = e })

  -- the rest of the bytes, as an index cuts it
  rest_is : (xs : List ℕ) (n : ℕ) → take (length xs - n) (drop n xs) ≡ drop n xs
  rest_is xs n = rw (← length-drop n xs) (take-length (drop n xs))

  -- the place of the first that doesn't pass
  place_is : (n m : ℕ) (k : ℕ) → cond (ltb n m) (Some n) None ≡ Some k → n ≡ k
  place_is n m k = by (ltb n m)
    where
      by : (b : Bool) → cond b (Some n) None ≡ Some k → n ≡ k
      by true e = cc
      by false e = cc

  no_place : (n m : ℕ) → None ≡ cond (ltb n m) (Some n) None → ltb n m ≡ false
  no_place n m = by (ltb n m)
    where
      by : (b : Bool) → None ≡ cond b (Some n) None → b ≡ false
      by true e = cc
      by false e = refl

  prefix_len_le : (xs : List ℕ) → prefix_len p xs ≤ length xs
  prefix_len_le [] = omega arith
  prefix_len_le (x ∷ xs) = by (p x) _ _ (prefix_len_le xs)
    where
      by : (b : Bool) (n m : ℕ) → n ≤ m → cond b (1 + n) 0 ≤ suc m
      by true n m e = omega arith
      by false n m e = omega arith

  -- the bytes are cut at the place of the first that doesn't pass
  pub run_at : (xs : List ℕ) (n : ℕ) → position (λ x. not (p x)) xs ≡ Some n → IsRun p xs (take n xs) (take (length xs - n) (drop n xs))
  run_at xs n e =
      let same : prefix_len p xs ≡ n = sym (prefix_len-not xs) ∙ place_is _ (length xs) n e in
      rw (rest_is xs n, ← same) (run_front xs)

  -- where all pass, nothing comes after them
  pub run_all : (xs : List ℕ) → None ≡ position (λ x. not (p x)) xs → IsRun p xs xs (take (length xs - length xs) (drop (length xs) xs))
  run_all xs e =
      let no = no_place (position_or_len (λ x. not (p x)) xs) (length xs) e in
      let most = prefix_len_le xs in
      let k = prefix_len-not xs in
      let same : prefix_len p xs ≡ length xs = grind (arith, nat_tests) in
      let all : take (length xs) xs ≡ xs = take-length xs in
      let front : IsRun p xs (take (length xs) xs) (drop (length xs) xs) = rw (← same) (run_front xs) in
      rw (rest_is xs (length xs)) (rw all at front)

  -- bytes are cut so in one way
  pub runs_once : (run after others rest : List ℕ) → list_all p run ≡ true → begins p after ≡ false → list_all p others ≡ true → begins p rest ≡ false
      → run ++ after ≡ others ++ rest → (run ≡ others) × (after ≡ rest)
  runs_once [] after [] rest h k i j e = (refl, e)
  runs_once [] [] (o ∷ others) rest h k i j e = cc
  runs_once [] (b ∷ after) (o ∷ others) rest h k i j e =
      let yes = both (p o) (list_all p others) i in
      let same : b ≡ o = cc in
      let no : true ≡ false = sym yes.0 ∙ ap p (sym same) ∙ k in cc
  runs_once (r ∷ run) after [] [] h k i j e = cc
  runs_once (r ∷ run) after [] (b ∷ rest) h k i j e =
      let yes = both (p r) (list_all p run) h in
      let same : b ≡ r = cc in
      let no : true ≡ false = sym yes.0 ∙ ap p (sym same) ∙ j in cc
  runs_once (r ∷ run) after (o ∷ others) rest h k i j e =
      let more = runs_once run after others rest (both (p r) (list_all p run) h).1 k (both (p o) (list_all p others) i).1 j cc in
      let same : r ≡ o = cc in
      (rw (same, more.0) refl, more.1)

-- letters are ASCII
letter_ascii : (byte : ℕ) → is_letter byte ≡ true → byte < 128
letter_ascii byte h = grind (arith, nat_tests)

letters_ascii : (bytes : List ℕ) → list_all is_letter bytes ≡ true → IsAscii bytes
letters_ascii [] h = IsAscii-nil
letters_ascii (byte ∷ bytes) h =
    let parts = both (is_letter byte) (list_all is_letter bytes) h in
    IsAscii-cons byte bytes (letter_ascii byte parts.0) (letters_ascii bytes parts.1)

-- so they are UTF-8
pub IsUtf8-letters : (bytes : List ℕ) → list_all is_letter bytes ≡ true → IsUtf8 bytes
IsUtf8-letters bytes h = IsUtf8-from_ascii bytes (letters_ascii bytes h)

-- bytes of no length are none
pub empty_is : (bytes : List ℕ) → true ≡ (length bytes == 0) → bytes ≡ []
empty_is [] h = refl
empty_is (byte ∷ bytes) h = grind (arith, nat_tests)

-- bytes of some length are some
pub some_are : (bytes : List ℕ) → false ≡ (length bytes == 0) → bytes ≡ [] → ⊥
some_are [] h none = cc h
some_are (byte ∷ bytes) h none = cc none
