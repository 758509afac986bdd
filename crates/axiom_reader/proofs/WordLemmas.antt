-- The words of a line, taken from its front.
use Rattle.std.proofs.Common.{suc, ◌≡◌, ℕ, ◌<◌, ◌≤◌, ◌+◌, ◌-◌, Bool, true, false, cond, not, eqb, List, [], ◌∷◌, ◌++◌, length, take, drop, get_or, Some, None}
use Rattle.std.proofs.Common.{position, refl, sym, ap, ◌∙◌, arith, append-nil, length-drop}
use Rattle.std.specs.List.{position_or_len, slice_split, onto_first}
use Rattle.std.specs.Prelude.{filter}
use Rattle.std.proofs.lemmas.List.{take_rest}
use Rattle.axiom_reader.specs.Lines.{is_blank, is_silent, is_word, words_of}
use Rattle.axiom_reader.proofs.TestLemmas.{fails, passes}
use Rattle.axiom_reader.proofs.CutLemmas.{Fails, Starts, Fails-before, Starts-from, found_place, no_place, whole}

-- whether the byte isn't a blank
abbrev pub is_other : ℕ → Bool
is_other byte = not (is_blank byte)

-- a blank in front adds no word
words_blank : (byte : ℕ) (line : List ℕ) → is_blank byte ≡ true → words_of (byte ∷ line) ≡ words_of line
unfolding words_of
words_blank byte line e = rw e refl

-- blanks in front add no word
words_blanks : (blanks line : List ℕ) → Fails is_other blanks → words_of (blanks ++ line) ≡ words_of line
words_blanks [] line h = refl
words_blanks (byte ∷ blanks) line h = words_blank byte (blanks ++ line) (passes (is_blank byte) h.0) ∙ words_blanks blanks line h.1

-- bytes without a separator are one part
split_none : (p : ℕ → Bool) (xs : List ℕ) → Fails p xs → slice_split p xs ≡ xs ∷ []
split_none p [] h = refl
split_none p (x ∷ xs) h = rw (h.0, split_none p xs h.1) refl

-- bytes up to a separator are the first part
split_at : (p : ℕ → Bool) (xs : List ℕ) (y : ℕ) (ys : List ℕ) → Fails p xs → p y ≡ true
    → slice_split p (xs ++ y ∷ ys) ≡ xs ∷ slice_split p ys
split_at p [] y ys h e = rw e refl
split_at p (x ∷ xs) y ys h e = rw (h.0, split_at p xs y ys h.1 e) refl

-- a word in front, before a blank or the end
words_front : (word rest : List ℕ) → Fails is_blank word → is_word word ≡ true → Starts is_blank rest
    → words_of (word ++ rest) ≡ word ∷ words_of rest
unfolding words_of
words_front word [] h some starts = rw (append-nil word, split_none is_blank word h, some) refl
words_front word (y ∷ ys) h some starts = rw (split_at is_blank word y ys h starts, some, starts) refl

-- blanks alone have no word
words_none : (line : List ℕ) → Fails is_other line → words_of line ≡ []
unfolding words_of
words_none [] h = refl
words_none (byte ∷ line) h = rw (passes (is_blank byte) h.0) (words_none line h.1)

-- a front that begins with no blank is a word
front_is_word : (words : List ℕ) → Starts is_other words → 0 < length words → is_word (take (position_or_len is_blank words) words) ≡ true
front_is_word [] starts some = absurd (omega arith)
front_is_word (byte ∷ words) starts some =
    let no : is_blank byte ≡ false = fails (is_blank byte) starts in
    let one : 1 + position_or_len is_blank words ≡ suc (position_or_len is_blank words) = omega arith in
    rw (no, one) refl

-- no word starts where only blanks are
pub no_word : (line : List ℕ) → position is_other line ≡ None → words_of line ≡ []
no_word line e = words_none line (no_place is_other line e)

-- the first word and what comes after it
pub first_word : (line words : List ℕ) (start : ℕ) → position is_other line ≡ Some start → words ≡ drop start line
    → words_of line ≡ take (position_or_len is_blank words) words ∷ words_of (drop (position_or_len is_blank words) words)
first_word line words start e from =
    let place = found_place is_other line start e in
    let front : Fails is_other (take start line) = rw place.0 (Fails-before is_other line) in
    let starts : Starts is_other words = rw (from, place.0) (Starts-from is_other line) in
    let some : 0 < length words = rw from (omega (arith, length-drop start line)) in
    let skipped : words_of line ≡ words_of words =
    ap words_of (whole line start) ∙ words_blanks (take start line) (drop start line) front ∙ ap words_of (sym from) in
    let end = position_or_len is_blank words in
    skipped ∙ ap words_of (whole words end)
    ∙ words_front (take end words) (drop end words) (Fails-before is_blank words) (front_is_word words starts some) (Starts-from is_blank words)

-- blanks alone are silent
silent_none : (line : List ℕ) → Fails is_other line → is_silent line ≡ true
unfolding is_silent
silent_none [] h = refl
silent_none (byte ∷ line) h = rw (passes (is_blank byte) h.0) (silent_none line h.1)

-- where no byte isn't a blank, the line is silent
pub silent_blanks : (line : List ℕ) → position is_other line ≡ None → is_silent line ≡ true
silent_blanks line e = silent_none line (no_place is_other line e)

-- one more byte before the first that isn't a blank
silent_step : (byte : ℕ) (line : List ℕ) (n : ℕ) (b : Bool) → is_other byte ≡ b
    → (n < length line → is_silent line ≡ eqb (get_or line n 0) 35) → cond (not b) (1 + n) 0 < suc (length line)
    → is_silent (byte ∷ line) ≡ eqb (get_or (byte ∷ line) (cond (not b) (1 + n) 0) 0) 35
unfolding is_silent
silent_step byte line n true e more lt = rw (fails (is_blank byte) e) refl
silent_step byte line n false e more lt =
    let one : 1 + n ≡ suc n = omega arith in
    let below : n < length line = omega arith in
    rw (passes (is_blank byte) e, one) (more below)

-- the first byte that isn't a blank decides
silent_at : (line : List ℕ) → position_or_len is_other line < length line
    → is_silent line ≡ eqb (get_or line (position_or_len is_other line) 0) 35
silent_at [] lt = absurd (omega arith)
silent_at (byte ∷ line) lt = silent_step byte line (position_or_len is_other line) (is_other byte) refl (silent_at line) lt

-- where a byte isn't a blank, the first such decides
pub silent_first : (line : List ℕ) (start : ℕ) → position is_other line ≡ Some start → is_silent line ≡ eqb (get_or line start 0) 35
silent_first line start e =
    let place = found_place is_other line start e in
    let lt : position_or_len is_other line < length line = rw (← place.0) place.1 in
    rw place.0 (silent_at line lt)

-- the first word and the rest, as they are cut
pub next_found : (line words : List ℕ) (start end : ℕ) → Some start ≡ position is_other line → words ≡ drop start line
    → end ≡ position_or_len is_blank words
    → words_of line ≡ take end words ∷ words_of (take (length words - end) (drop end words))
next_found line words start end s from e = rw (take_rest words end, e) (first_word line words start (sym s) from)

-- a part with one more byte in front is a word
onto_word : (byte : ℕ) (parts : List (List ℕ)) (n : ℕ) → length (filter is_word parts) ≤ n
    → length (filter is_word (onto_first byte parts)) ≤ n + 1
onto_word byte [] n h = omega arith
onto_word byte ([] ∷ parts) n h = omega arith
onto_word byte ((x ∷ part) ∷ parts) n h = omega arith

-- one more byte adds at most one word
split_step : (byte : ℕ) (line : List ℕ) (b : Bool) → length (filter is_word (slice_split is_blank line)) ≤ length line
    → length (filter is_word (cond b ([] ∷ slice_split is_blank line) (onto_first byte (slice_split is_blank line)))) ≤ length (byte ∷ line)
split_step byte line true h = omega arith
split_step byte line false h = omega (arith, onto_word byte (slice_split is_blank line) (length line) h)

-- the parts have at most as many words as bytes
split_long : (line : List ℕ) → length (filter is_word (slice_split is_blank line)) ≤ length line
split_long [] = omega arith
split_long (byte ∷ line) = split_step byte line (is_blank byte) (split_long line)

-- a line has at most as many words as bytes
pub words_long : (line : List ℕ) → length (words_of line) ≤ length line
unfolding words_of
words_long line = split_long line
