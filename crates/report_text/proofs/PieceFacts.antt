-- The pieces of bytes.
use Rattle.std.proofs.Common.{◌≡◌, ◌==◌, ℕ, suc, Bool, true, false, true≢false, List, [], ◌∷◌, ◌++◌, map, Option, Some, None, All, refl, sym, subst, ap, ◌∙◌}
use Rattle.std.proofs.Common.{append_assoc, append-nil, arith}
use Rattle.std.specs.Prelude.{if◌then◌else◌}
use Rattle.std.proofs.lemmas.Bool.{eqb-true}
use Rattle.std.proofs.lemmas.Cmp.{nat_eq_equiv}
use Rattle.std.proofs.lemmas.List.Elements.{All-nil, All-cons, All-head, All-tail}
use Rattle.std.proofs.lemmas.Map.Views.{list_any-from_Contains}
use Rattle.report_text.specs.declared.line.Line.{Line}
use Rattle.report_text.specs.Lines.{IsWellFormed, text_of, line_of}
use Rattle.report_text.specs.LineBytes.{bytes_of}
use Rattle.report_text.specs.Pieces.{last_piece, pieces_behind, pieces_of, HasNoLineFeed, FirstPieceIsRead, LastPieceIsNone, PieceIsTold, PiecesAreLines}
use Rattle.report_text.specs.Pieces.{LinesComeFirst, BytesComeFirst, LawsOfPieces}
use Rattle.report_text.proofs.LineFacts.{none-text_of, line_of-text_of, line_of-sound}

-- the first byte of bytes with no line feed is none
first_other : (b : ℕ) (bs : List ℕ) → HasNoLineFeed (b ∷ bs) → (10 == b) ≡ false
first_other b bs h = by (10 == b) (eqb-true 10 b)
  where
    by : (x : Bool) → (x ≡ true → 10 ≡ b) → x ≡ false
    by true is = absurd (h (0, omega arith, sym (is refl)))
    by false is = refl

-- the bytes behind it have none
rest_other : (b : ℕ) (bs : List ℕ) → HasNoLineFeed (b ∷ bs) → HasNoLineFeed bs
rest_other b bs h (k, l, e) = h (suc k, omega arith, e)

-- a text and a line feed end a piece
behind_text : (piece text more : List ℕ) → HasNoLineFeed text → pieces_behind piece (text ++ (10 ∷ more)) ≡ line_of (piece ++ text) ∷ pieces_behind [] more
unfolding pieces_behind
behind_text piece [] more h = rw (append-nil piece) refl
behind_text piece (b ∷ text) more h =
    let shifted : (piece ++ b ∷ []) ++ text ≡ piece ++ (b ∷ text) = append_assoc piece (b ∷ []) text in
    rw (first_other b text h) (behind_text (piece ++ b ∷ []) text more (rest_other b text h) ∙ ap (λ t. line_of t ∷ pieces_behind [] more) shifted)

-- bytes with no line feed stay in the piece
behind_rest : (piece rest : List ℕ) → HasNoLineFeed rest → pieces_behind piece rest ≡ last_piece (piece ++ rest)
unfolding pieces_behind
behind_rest piece [] h = rw (append-nil piece) refl
behind_rest piece (b ∷ rest) h =
    let shifted : (piece ++ b ∷ []) ++ rest ≡ piece ++ (b ∷ rest) = append_assoc piece (b ∷ []) rest in
    rw (first_other b rest h) (behind_rest (piece ++ b ∷ []) rest (rest_other b rest h) ∙ ap last_piece shifted)

pub no_pieces : pieces_of [] ≡ []
unfolding pieces_of pieces_behind
no_pieces = refl

pub first_piece : FirstPieceIsRead
unfolding pieces_of
first_piece text more h = behind_text [] text more h

pub only_piece : LastPieceIsNone
unfolding pieces_of
only_piece b bs h = behind_rest [] (b ∷ bs) h

-- the text of a well-formed line has no line feed
no_feed : (l : Line) → IsWellFormed l → HasNoLineFeed (text_of l)
no_feed l w m = true≢false (sym (list_any-from_Contains nat_eq_equiv 10 (text_of l) m) ∙ none-text_of l w)

pub piece_told : PieceIsTold
piece_told text = (
  (λ l. ((λ e. line_of-sound text l e), (λ w. ap line_of w.1 ∙ line_of-text_of l w.0))),
  (
    (λ e l w same. let both : None ≡ Some l = sym e ∙ (ap line_of same ∙ line_of-text_of l w) in cc both),
    (λ none. by (line_of text) refl none),
  ),
)
  where
    by : (o : Option Line) → line_of text ≡ o → ((l : Line) → IsWellFormed l → ¬ (text ≡ text_of l)) → o ≡ None
    by None e none = refl
    by (Some l) e none = let w = line_of-sound text l e in absurd (none l w.0 w.1)

-- well-formed lines before other bytes
pub lines_first : LinesComeFirst
lines_first [] rest w = refl
lines_first (l ∷ lines) rest w =
    ap pieces_of (append_assoc (text_of l) (10 ∷ bytes_of lines) rest)
    ∙ first_piece (text_of l) (bytes_of lines ++ rest) (no_feed l (All-head IsWellFormed l lines w))
    ∙ ap (λ (o : Option Line). o ∷ pieces_of (bytes_of lines ++ rest)) (line_of-text_of l (All-head IsWellFormed l lines w))
    ∙ ap (λ (os : List (Option Line)). Some l ∷ os) (lines_first lines rest (All-tail IsWellFormed l lines w))

-- what a beginning of the pieces says of the bytes
abbrev Begins : List ℕ → List Line → List (Option Line) → Type 0
Begins bytes lines others = All IsWellFormed lines × ((rest : List ℕ) × (bytes ≡ bytes_of lines ++ rest) × (others ≡ pieces_behind [] rest))

-- one line more in front
begins_more : (text bytes : List ℕ) (l : Line) (lines : List Line) (others : List (Option Line)) → line_of text ≡ Some l → Begins bytes lines others
    → Begins (text ++ (10 ∷ bytes)) (l ∷ lines) others
begins_more text bytes l lines others is (w, (rest, e, same)) =
    let s = line_of-sound text l is in (
      All-cons IsWellFormed l lines s.0 w,
      (
        rest,
        ap (λ (t : List ℕ). t ++ (10 ∷ bytes)) s.1 ∙ ap (λ (bs : List ℕ). text_of l ++ (10 ∷ bs)) e ∙ sym (append_assoc (text_of l) (10 ∷ bytes_of lines) rest),
        same,
      ),
    )

begins : (piece bytes : List ℕ) (l : Line) (lines : List Line) (others : List (Option Line)) → pieces_behind piece bytes ≡ map Some (l ∷ lines) ++ others
    → Begins (piece ++ bytes) (l ∷ lines) others
unfolding pieces_behind
begins [] [] l lines others e = absurd (cc)
begins (b ∷ piece) [] l lines others e = absurd (cc)
begins piece (b ∷ bytes) l lines others e = by (10 == b) (eqb-true 10 b) (λ k ks. begins [] bytes k ks others) (begins (piece ++ b ∷ []) bytes l lines others) e
  where
    behind : (ls : List Line) → pieces_behind [] bytes ≡ map Some ls ++ others
        → ((k : Line) (ks : List Line) → pieces_behind [] bytes ≡ map Some (k ∷ ks) ++ others → Begins bytes (k ∷ ks) others) → Begins bytes ls others
    behind [] e again = (All-nil IsWellFormed, (bytes, refl, sym e))
    behind (k ∷ ks) e again = again k ks e

    by : (x : Bool) → (x ≡ true → 10 ≡ b) → ((k : Line) (ks : List Line) → pieces_behind [] bytes ≡ map Some (k ∷ ks) ++ others → Begins bytes (k ∷ ks) others)
        → (pieces_behind (piece ++ b ∷ []) bytes ≡ map Some (l ∷ lines) ++ others → Begins ((piece ++ b ∷ []) ++ bytes) (l ∷ lines) others)
        → (if x then line_of piece ∷ pieces_behind [] bytes else pieces_behind (piece ++ b ∷ []) bytes) ≡ map Some (l ∷ lines) ++ others
        → Begins (piece ++ b ∷ bytes) (l ∷ lines) others
    by true lf deeper later e =
        let is : line_of piece ≡ Some l = cc e in
        let more : pieces_behind [] bytes ≡ map Some lines ++ others = cc e in
        subst (λ (c : ℕ). Begins (piece ++ c ∷ bytes) (l ∷ lines) others) (lf refl) (begins_more piece bytes l lines others is (behind lines more deeper))
    by false lf deeper later e = subst (λ (bs : List ℕ). Begins bs (l ∷ lines) others) (append_assoc piece (b ∷ []) bytes) (later e)

pub bytes_first : BytesComeFirst
unfolding pieces_of
bytes_first bytes [] others e = (All-nil IsWellFormed, (bytes, refl, sym e))
bytes_first bytes (l ∷ lines) others e = begins [] bytes l lines others e

-- where there is no piece there are no bytes
some_piece : (piece bytes : List ℕ) → [] ≡ pieces_behind piece bytes → (piece ≡ []) × (bytes ≡ [])
unfolding pieces_behind
some_piece [] [] e = (refl, refl)
some_piece (b ∷ piece) [] e = absurd (cc)
some_piece piece (b ∷ bytes) e = by (10 == b) (λ h. some_piece (piece ++ b ∷ []) bytes h) e
  where
    never : (xs : List ℕ) → xs ++ b ∷ [] ≡ [] → ⊥
    never [] h = cc h
    never (x ∷ xs) h = cc h

    by : (x : Bool) → ([] ≡ pieces_behind (piece ++ b ∷ []) bytes → (piece ++ b ∷ [] ≡ []) × (bytes ≡ []))
        → [] ≡ (if x then line_of piece ∷ pieces_behind [] bytes else pieces_behind (piece ++ b ∷ []) bytes) → (piece ≡ []) × (b ∷ bytes ≡ [])
    by true again e = absurd (cc)
    by false again e = absurd (never piece (again e).0)

none_left : (rest : List ℕ) → [] ≡ pieces_of rest → rest ≡ []
unfolding pieces_of
none_left rest e = (some_piece [] rest e).1

pub pieces_are_lines : PiecesAreLines
pieces_are_lines bytes lines = (
  (λ e.
      let (w, (rest, same, others)) = bytes_first bytes lines [] (e ∙ sym (append-nil (map Some lines))) in
      (w, same ∙ ap (λ (r : List ℕ). bytes_of lines ++ r) (none_left rest others) ∙ append-nil (bytes_of lines))),
  (λ (w, e). ap pieces_of (e ∙ sym (append-nil (bytes_of lines))) ∙ lines_first lines [] w ∙ ap (λ (os : List (Option Line)). map Some lines ++ os) no_pieces
      ∙ append-nil (map Some lines)),
)

pub laws : LawsOfPieces
laws = record {
  no_bytes = no_pieces;
  first_read = first_piece;
  last_none = only_piece;
  told = piece_told;
  lines = pieces_are_lines;
  lines_first =
      lines_first;
  bytes_first = bytes_first;
}
