-- Bytes cut at their first line feed, and their first piece.
use Rattle.std.proofs.Common.{◌≡◌, ◌==◌, ℕ, ◌+◌, ◌-◌, ◌<◌, List, [], ◌∷◌, ◌++◌, length, take, drop, Bool, true, false}
use Rattle.std.proofs.Common.{get_or, refl, sym, subst, ap, ◌∙◌, arith, true≢false, Option, Some, None, eqb-true, eq-eqb, cond, ltb, ltb-false}
use Rattle.std.specs.Prelude.{position}
use Rattle.std.specs.List.{position_or_len}
use Rattle.std.proofs.lemmas.List.{take_rest, take-append-drop, drop_more, length-take-le, get_or-take, length-append}
use Rattle.std.proofs.lemmas.List.Quantifiers.{position-Some}
use Rattle.std.proofs.lemmas.List.Sums.{fails_before_first}
use Rattle.report_text.specs.declared.line.Line.{Line}
use Rattle.report_text.specs.Lines.{IsWellFormed, text_of}
use Rattle.report_text.specs.Pieces.{pieces_of}
use Rattle.report_text.proofs.PieceFacts.{first_piece, only_piece, piece_told}
use Rattle.report_lines.specs.Cutting.{HasNoLineFeed, CutsAt, IsBroken, BeginsWith}

-- at the place of the first line feed
pub cuts_at : (rest : List ℕ) (at : ℕ) → position (λ byte. byte == 10) rest ≡ Some at
    → CutsAt rest (take at rest) (take (length rest - (at + 1)) (drop (at + 1) rest))
cuts_at rest at e = record {
  exact = sym (take-append-drop at rest) ∙ ap (λ xs. take at rest ++ xs)
      (drop_more rest at 0 w.0 ∙ ap (λ b. b ∷ drop (at + 1) rest) (eqb-true (get_or rest at 0) 10 w.1) ∙ ap (λ xs. 10 ∷ xs) (sym (take_rest rest (at + 1))));
  first = λ (k, l, is). no k l is;
}
  where
    w : (at < length rest) × ((get_or rest at 0 == 10) ≡ true) × ((k : ℕ) → k < at → (get_or rest k 0 == 10) ≡ false)
    w = position-Some (λ byte. byte == 10) rest at 0 e

    v : (k : ℕ) → k < at → (get_or rest k 10 == 10) ≡ false
    v = (position-Some (λ byte. byte == 10) rest at 10 e).2

    no : (k : ℕ) → k < length (take at rest) → get_or (take at rest) k 10 ≡ 10 → ⊥
    no k l is =
        let below : k < at = subst (λ n. k < n) (length-take-le at rest (omega (arith, w.0))) l in
        true≢false (sym (eq-eqb (get_or rest k 10) 10 (sym (get_or-take at rest k 10 below) ∙ is)) ∙ v k below)

-- without a place there is none
pub none_at : (rest : List ℕ) → position (λ byte. byte == 10) rest ≡ None → HasNoLineFeed rest
none_at rest e (k, l, is) = by (ltb (position_or_len (λ byte. byte == 10) rest) (length rest)) refl e
  where
    by : (b : Bool) → ltb (position_or_len (λ byte. byte == 10) rest) (length rest) ≡ b → cond b (Some (position_or_len (λ byte. byte == 10) rest)) None ≡ None
        → ⊥
    by true t h = cc h
    by false t h =
        let past = ltb-false (position_or_len (λ byte. byte == 10) rest) (length rest) t in
        true≢false (sym (eq-eqb (get_or rest k 10) 10 is) ∙ fails_before_first (λ byte. byte == 10) rest k 10 (omega (arith, past, l)))

-- bytes with no line feed are one piece that is no line
pub none_broken : (rest : List ℕ) → 0 < length rest → HasNoLineFeed rest → IsBroken rest
none_broken [] l n = absurd (omega arith)
none_broken (b ∷ rest) l n = ([], only_piece b rest n)

-- so is a text of no line before the line feed
pub text_broken : (rest text more : List ℕ) → CutsAt rest text more → ((l : Line) → IsWellFormed l → ¬ (text ≡ text_of l)) → IsBroken rest
text_broken rest text more c none = (
  pieces_of more,
  ap pieces_of c.exact
      ∙ (first_piece text more c.first ∙ ap (λ (o : Option Line). o ∷ pieces_of more) ((piece_told text).1.1 none)),
)

-- and the text of a line before the line feed is the first piece
pub text_begins : (rest text more : List ℕ) (l : Line) → CutsAt rest text more → IsWellFormed l → text ≡ text_of l → BeginsWith rest l more
text_begins rest text more l c w e = record {
  exact = ap pieces_of c.exact ∙ (first_piece text more c.first ∙ ap (λ (o : Option Line). o ∷ pieces_of more) (((piece_told text).0 l).1 (w, e)));
  shorter = let size = ap length c.exact ∙ length-append text (10 ∷ more) in omega arith;
}
