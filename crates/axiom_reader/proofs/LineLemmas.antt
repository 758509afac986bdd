-- The lines of a text, taken from its front.
use Rattle.std.proofs.Common.{suc, ◌≡◌, ℕ, ◌<◌, ◌≤◌, ◌+◌, ◌-◌, Bool, true, false, ◌&&◌, eqb, List, [], ◌∷◌, ◌++◌, length, take, drop, get_or, Some, None}
use Rattle.std.proofs.Common.{position, refl, sym, ap, ◌∙◌, arith, length-drop, nat_eq}
use Rattle.std.specs.Prelude.{map}
use Rattle.std.specs.List.{starts_with}
use Rattle.std.proofs.Math.Seq.{drop-cons, drop-length}
use Rattle.std.proofs.lemmas.Bool.Decides.{nat_tests}
use Rattle.std.proofs.lemmas.List.{length-take, take_rest}
use Rattle.axiom_reader.specs.Lines.{is_line_end, is_mark, lines_in, pieces, skip_marks, without_return}
use Rattle.axiom_reader.specs.Parts.{IsFirstLine}
use Rattle.axiom_reader.proofs.CutLemmas.{Fails, Starts, Fails-before, Starts-from, found_place, no_place, whole}

-- bytes up to a line end are the first piece
pieces_at : (front : List ℕ) (y : ℕ) (back : List ℕ) → Fails is_line_end front → is_line_end y ≡ true
    → pieces (front ++ y ∷ back) ≡ front ∷ pieces back
unfolding pieces
pieces_at [] y back h e = rw e refl
pieces_at (x ∷ front) y back h e = rw (h.0, pieces_at front y back h.1 e) refl

-- bytes without a line end are one piece
pieces_last : (x : ℕ) (xs : List ℕ) → Fails is_line_end (x ∷ xs) → pieces (x ∷ xs) ≡ (x ∷ xs) ∷ []
unfolding pieces
pieces_last x [] h = rw h.0 refl
pieces_last x (y ∷ xs) h = rw (h.0, pieces_last y xs h.1) refl

-- the first line, where a line ends
pub first_ended : (text : List ℕ) (place : ℕ) → position is_line_end text ≡ Some place
    → lines_in text ≡ without_return (take place text) ∷ lines_in (drop (place + 1) text)
first_ended text place e =
    let at = found_place is_line_end text place e in
    let front : Fails is_line_end (take place text) = rw at.0 (Fails-before is_line_end text) in
    let starts : Starts is_line_end (drop place text) = rw at.0 (Starts-from is_line_end text) in
    let one : place + 1 ≡ suc place = omega arith in
    let split : drop place text ≡ get_or text place 0 ∷ drop (suc place) text = drop-cons text place 0 at.1 in
    let ends : is_line_end (get_or text place 0) ≡ true = rw split at starts in
    let all : text ≡ take place text ++ (get_or text place 0 ∷ drop (suc place) text) = whole text place ∙ ap (λ rest. take place text ++ rest) split in
    rw one (ap lines_in all ∙ ap (map without_return) (pieces_at (take place text) (get_or text place 0) (drop (suc place) text) front ends))

-- the last line, where no line ends
pub first_last : (text : List ℕ) → 0 < length text → position is_line_end text ≡ None → lines_in text ≡ without_return text ∷ []
first_last [] some e = absurd (omega arith)
first_last (x ∷ xs) some e = ap (map without_return) (pieces_last x xs (no_place is_line_end (x ∷ xs) e))

-- a CR at the end isn't part of a line
pub returns_cut : (line : List ℕ) → without_return (line ++ 13 ∷ []) ≡ line
unfolding without_return
returns_cut [] = refl
returns_cut (x ∷ []) = refl
returns_cut (x ∷ y ∷ line) = ap (λ rest. x ∷ rest) (returns_cut (y ∷ line))

-- any other byte at the end is
pub returns_kept : (line : List ℕ) (last : ℕ) → eqb last 13 ≡ false → without_return (line ++ last ∷ []) ≡ line ++ last ∷ []
unfolding without_return
returns_kept [] last e = rw e refl
returns_kept (x ∷ []) last e = rw e refl
returns_kept (x ∷ y ∷ line) last e = ap (λ rest. x ∷ rest) (returns_kept (y ∷ line) last e)

-- the same, by the test of the last byte
pub returns_other : (line : List ℕ) (last : ℕ) → ¬ (last ≡ 13) → without_return (line ++ last ∷ []) ≡ line ++ last ∷ []
returns_other line last apart = returns_kept line last (grind (arith, nat_tests))

-- nothing stays nothing
pub returns_none : (line : List ℕ) → length line ≡ 0 → without_return line ≡ line
unfolding without_return
returns_none [] e = refl
returns_none (x ∷ line) e = absurd (omega arith)

-- the first line and what comes after it, where a line ends
pub first_ended_is : (text line : List ℕ) (place : ℕ) → Some place ≡ position is_line_end text → line ≡ without_return (take place text)
    → length line ≤ length (take place text)
    → IsFirstLine text line (take (length text - (place + 1)) (drop (place + 1) text))
first_ended_is text line place found is shorter =
    let at = found_place is_line_end text place (sym found) in
    rw (take_rest text (place + 1)) (record {
      lines = rw is (first_ended text place (sym found));
      shorter = omega (arith, length-take place text, length-drop (place + 1) text, at.1);
      ends = omega (arith, length-drop (place + 1) text, at.1);
    })

-- the last line, where no line ends
pub first_last_is : (text line : List ℕ) → 0 < length text → None ≡ position is_line_end text → line ≡ without_return text
    → length line ≤ length text
    → IsFirstLine text line (take (length text - length text) (drop (length text) text))
unfolding pieces
first_last_is text line some none is shorter =
    rw (take_rest text (length text), drop-length) (record {
      lines = rw is (first_last text some (sym none));
      shorter = omega arith;
      ends = some;
    })

-- a test of equality may be swapped
eqb-swap : (x y : ℕ) → eqb x y ≡ eqb y x
eqb-swap x y = grind (arith, nat_tests)

-- a mark is its bytes
mark_bytes : (a b c : ℕ) (rest : List ℕ) → starts_with nat_eq (a ∷ b ∷ c ∷ rest) (239 ∷ 187 ∷ 191 ∷ []) ≡ is_mark a b c
mark_bytes a b c rest = rw (eqb-swap 239 a, eqb-swap 187 b, eqb-swap 191 c) (by (eqb a 239) (eqb b 187) (eqb c 191))
  where
    by : (x y z : Bool) → (x && (y && (z && true))) ≡ (x && y && z)
    by true true true = refl
    by true true false = refl
    by true false z = refl
    by false y z = refl

-- a mark at the beginning is skipped
pub skip_mark : (text : List ℕ) → starts_with nat_eq text (239 ∷ 187 ∷ 191 ∷ []) ≡ true → 3 ≤ length text
    → skip_marks (drop 3 text) ≡ skip_marks text
unfolding skip_marks
skip_mark [] e long = absurd (omega arith)
skip_mark (a ∷ []) e long = absurd (omega arith)
skip_mark (a ∷ b ∷ []) e long = absurd (omega arith)
skip_mark (a ∷ b ∷ c ∷ rest) e long = rw (sym (mark_bytes a b c rest) ∙ e) refl

-- nothing else is
pub skip_none : (text : List ℕ) → starts_with nat_eq text (239 ∷ 187 ∷ 191 ∷ []) ≡ false → skip_marks text ≡ text
unfolding skip_marks
skip_none [] e = refl
skip_none (a ∷ []) e = refl
skip_none (a ∷ b ∷ []) e = refl
skip_none (a ∷ b ∷ c ∷ rest) e = rw (sym (mark_bytes a b c rest) ∙ e) refl

-- one more mark is skipped of the rest
pub skip_more : (bytes rest : List ℕ) → starts_with nat_eq rest (239 ∷ 187 ∷ 191 ∷ []) ≡ true → 3 ≤ length rest
    → (skip_marks rest ≡ skip_marks bytes) × (length rest ≤ length bytes)
    → (skip_marks (take (length rest - 3) (drop 3 rest)) ≡ skip_marks bytes) × (length (take (length rest - 3) (drop 3 rest)) ≤ length bytes)
skip_more bytes rest e long kept = rw (take_rest rest 3) (skip_mark rest e long ∙ kept.0, omega (arith, length-drop 3 rest, kept.1))
