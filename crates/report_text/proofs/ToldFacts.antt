-- The bytes of lines, and the lines that bytes tell.
use Rattle.std.proofs.Common.{◌≡◌, ℕ, zero, suc, ◌+◌, ◌-◌, ◌<◌, Bool, true, false, ◌||◌, List, [], ◌∷◌, ◌++◌, length, take, Option, Some, None, option_map}
use Rattle.std.proofs.Common.{option_and_then, refl, sym, ap, ◌∙◌, arith, append_assoc, append-nil, All, IfSome, IsSomeAnd, ◌↔◌, String, Global, string_bytes}
use Rattle.std.specs.Prelude.{◌==◌, if◌then◌else◌, slice_index}
use Rattle.std.specs.Str.{bytes_eq}
use Rattle.std.proofs.lemmas.Bool.{eqb-true}
use Rattle.std.proofs.lemmas.Grind.{common_steps}
use Rattle.std.proofs.lemmas.List.{length-take, take_min, take-append-le, take_at, length-append}
use Rattle.std.proofs.lemmas.List.Elements.{All-nil, All-cons, All-head, All-tail, All-append}
use Rattle.std.proofs.lemmas.Option.{option_and_then_some}
use Rattle.std.proofs.lemmas.Slice.Eq.{bytes_eq-Decides}
use Rattle.cq_io.specs.Writing.{appended, AppendsPart}
use Rattle.report_text.specs.declared.line.Line.{Line}
use Rattle.report_text.specs.Lines.{IsWellFormed, text_of, line_of}
use Rattle.report_text.specs.Reports.{AddsLine, StayTold}
use Rattle.report_text.specs.LineBytes.{bytes_of, torn_text, AreBytesOf, lines_behind, lines_told, line_kept}
use Rattle.report_text.proofs.NoLineFeed.{has_line_feed, neither}
use Rattle.report_text.proofs.LineFacts.{bytes_eq-same, none-text_of, line_of-text_of, line_of-sound}

-- NO LINE FEED

-- the first byte of bytes with no line feed is none
first_of_none : (b : ℕ) (bs : List ℕ) → has_line_feed (b ∷ bs) ≡ false → (10 == b) ≡ false
first_of_none b bs h = by (10 == b) h
  where
    by : (x : Bool) → (x || has_line_feed bs) ≡ false → x ≡ false
    by true h = cc h
    by false h = refl

-- the bytes behind it have none
rest_of_none : (b : ℕ) (bs : List ℕ) → has_line_feed (b ∷ bs) ≡ false → has_line_feed bs ≡ false
rest_of_none b bs h = by (10 == b) h
  where
    by : (x : Bool) → (x || has_line_feed bs) ≡ false → has_line_feed bs ≡ false
    by true h = cc h
    by false h = h

-- a part of bytes with no line feed has none
none-take : (n : ℕ) (bs : List ℕ) → has_line_feed bs ≡ false → has_line_feed (take n bs) ≡ false
none-take zero bs h = refl
none-take (suc n) [] h = refl
none-take (suc n) (b ∷ bs) h = neither (10 == b) (has_line_feed (take n bs)) (first_of_none b bs h) (none-take n bs (rest_of_none b bs h))

-- FROM LINES TO BYTES AND BACK

-- the lines of more bytes, behind a first line
abbrev first_line : List ℕ → Option (List Line) → Option (List Line)
first_line piece more = option_and_then (λ line. option_map (λ lines. line ∷ lines) more) (line_of piece)

-- no bytes are left, and the piece is a part of the torn line's text
abbrev no_line : List ℕ → Option Line → Option (List Line)
no_line piece torn = if bytes_eq piece (take (length piece) (torn_text torn)) then Some [] else None

-- a text and a line feed end a piece
behind-text : (piece text more : List ℕ) (torn : Option Line) → has_line_feed text ≡ false
    → lines_behind piece (text ++ (10 ∷ more)) torn ≡ first_line (piece ++ text) (lines_behind [] more torn)
unfolding lines_behind
behind-text piece [] more torn h = rw (append-nil piece) refl
behind-text piece (b ∷ text) more torn h =
    let shifted : (piece ++ b ∷ []) ++ text ≡ piece ++ (b ∷ text) = append_assoc piece (b ∷ []) text in
    rw (first_of_none b text h) (behind-text (piece ++ b ∷ []) text more torn (rest_of_none b text h)
    ∙ ap (λ t. first_line t (lines_behind [] more torn)) shifted)

-- bytes with no line feed stay in the piece
behind-rest : (piece rest : List ℕ) (torn : Option Line) → has_line_feed rest ≡ false → lines_behind piece rest torn ≡ no_line (piece ++ rest) torn
unfolding lines_behind
behind-rest piece [] torn h = rw (append-nil piece) refl
behind-rest piece (b ∷ rest) torn h =
    let shifted : (piece ++ b ∷ []) ++ rest ≡ piece ++ (b ∷ rest) = append_assoc piece (b ∷ []) rest in
    rw (first_of_none b rest h) (behind-rest (piece ++ b ∷ []) rest torn (rest_of_none b rest h) ∙ ap (λ t. no_line t torn) shifted)

-- a part of a text is as much of it as the part is long
part-length : (n : ℕ) (text : List ℕ) → take (length (take n text)) text ≡ take n text
part-length n text = rw (length-take n text) (take_min n text)

-- a part of the torn line's text tells no line
no_line-part : (n : ℕ) (torn : Option Line) → no_line (take n (torn_text torn)) torn ≡ Some []
no_line-part n torn = rw (part-length n (torn_text torn), bytes_eq-same (take n (torn_text torn))) refl

-- the bytes of lines before a part of the torn line's text tell the lines
behind-bytes_of : (lines : List Line) (n : ℕ) (torn : Option Line) → All IsWellFormed lines → has_line_feed (torn_text torn) ≡ false
    → lines_behind [] (bytes_of lines ++ take n (torn_text torn)) torn ≡ Some lines
behind-bytes_of [] n torn right h = behind-rest [] (take n (torn_text torn)) torn (none-take n (torn_text torn) h) ∙ no_line-part n torn
behind-bytes_of (l ∷ lines) n torn right h =
    let rest = take n (torn_text torn) in
    let here : IsWellFormed l = All-head IsWellFormed l lines right in
    ap (λ bytes. lines_behind [] bytes torn) (append_assoc (text_of l) (10 ∷ bytes_of lines) rest)
    ∙ behind-text [] (text_of l) (bytes_of lines ++ rest) torn (none-text_of l here)
    ∙ ap (option_and_then (λ line. option_map (λ lines. line ∷ lines) (lines_behind [] (bytes_of lines ++ rest) torn))) (line_of-text_of l here)
    ∙ ap (option_map (λ lines. l ∷ lines)) (behind-bytes_of lines n torn (All-tail IsWellFormed l lines right) h)

-- the bytes behind the piece are those of the lines, before a part of the torn line's text
sound-behind : (piece bytes : List ℕ) (torn : Option Line) (lines : List Line) → lines_behind piece bytes torn ≡ Some lines
    → AreBytesOf lines torn (piece ++ bytes)
unfolding lines_behind
sound-behind piece [] torn lines e = by (bytes_eq piece (take (length piece) (torn_text torn))) refl e
  where
    by : (b : Bool) → bytes_eq piece (take (length piece) (torn_text torn)) ≡ b → (if b then Some [] else None) ≡ Some lines
        → AreBytesOf lines torn (piece ++ [])
    by true h e =
        let same : [] ≡ lines = cc e in
        rw (← same, append-nil piece) (record {
          well_formed = All-nil IsWellFormed;
          part = length piece;
          exact =
              (bytes_eq-Decides piece (take (length piece) (torn_text torn))).0 h;
        })
    by false h e = cc e
sound-behind piece (b ∷ bytes) torn lines e = by (10 == b) (eqb-true 10 b) (sound-behind [] bytes torn) (sound-behind (piece ++ b ∷ []) bytes torn lines) e
  where
    with_first : (l : Line) → IsWellFormed l → piece ≡ text_of l → 10 ≡ b → (found : Option (List Line))
        → ((more : List Line) → found ≡ Some more → AreBytesOf more torn bytes)
        → option_map (λ more. l ∷ more) found ≡ Some lines → AreBytesOf lines torn (piece ++ b ∷ bytes)
    with_first l right is lf None deeper e = cc e
    with_first l right is lf (Some more) deeper e =
        let same : l ∷ more ≡ lines = cc e in
        let inner = deeper more refl in
        rw (← same, ← lf, is) (record {
          well_formed = All-cons IsWellFormed l more right inner.well_formed;
          part = inner.part;
          exact = ap (λ bs. text_of l ++ (10 ∷ bs)) inner.exact ∙ sym (append_assoc (text_of l) (10 ∷ bytes_of more) (take inner.part (torn_text torn)));
        })

    by : (x : Bool) → (x ≡ true → 10 ≡ b) → ((more : List Line) → lines_behind [] bytes torn ≡ Some more → AreBytesOf more torn bytes)
        → (lines_behind (piece ++ b ∷ []) bytes torn ≡ Some lines → AreBytesOf lines torn ((piece ++ b ∷ []) ++ bytes))
        → (if x then first_line piece (lines_behind [] bytes torn) else lines_behind (piece ++ b ∷ []) bytes torn) ≡ Some lines
        → AreBytesOf lines torn (piece ++ b ∷ bytes)
    by true lf deeper later e =
        option_and_then_some (λ line. option_map (λ more. line ∷ more) (lines_behind [] bytes torn)) (line_of piece) lines e (λ l l_is e.
        let sound = line_of-sound piece l l_is in
        with_first l sound.0 sound.1 (lf refl) (lines_behind [] bytes torn) deeper e)
    by false lf deeper later e = rw append_assoc at (later e)

-- TOLD

-- the text of a well-formed torn line has no line feed
none-torn_text : (torn : Option Line) → IfSome torn IsWellFormed → has_line_feed (torn_text torn) ≡ false
none-torn_text None h = refl
none-torn_text (Some l) h = none-text_of l h

-- the bytes of lines tell the lines
pub told-bytes_of : (bytes : List ℕ) (torn : Option Line) (lines : List Line) → IfSome torn IsWellFormed → AreBytesOf lines torn bytes
    → lines_told (Some bytes) torn ≡ Some lines
unfolding lines_told
told-bytes_of bytes torn lines right h =
    ap (λ bs. lines_behind [] bs torn) h.exact ∙ behind-bytes_of lines h.part torn h.well_formed (none-torn_text torn right)

-- the lines that bytes tell have these bytes
pub bytes_of-told : (bytes : List ℕ) (torn : Option Line) (lines : List Line) → lines_told (Some bytes) torn ≡ Some lines → AreBytesOf lines torn bytes
unfolding lines_told
bytes_of-told bytes torn lines e = sound-behind [] bytes torn lines e

-- no bytes tell no lines
pub told-nothing : (written : Option (List ℕ)) → written ≡ Some [] → lines_told written None ≡ Some []
told-nothing written e = rw e (told-bytes_of [] None [] tt (record { well_formed = All-nil IsWellFormed; part = 0; exact = refl }))

-- both, also where the bytes are not told
pub told-exactly : (written : Option (List ℕ)) (torn : Option Line) (lines : List Line) → IfSome torn IsWellFormed
    → (lines_told written torn ≡ Some lines) ↔ IsSomeAnd written (AreBytesOf lines torn)
unfolding lines_told
told-exactly (Some bytes) torn lines form = (bytes_of-told bytes torn lines, told-bytes_of bytes torn lines form)
told-exactly None torn lines form = ((λ e. cc e), (λ h. absurd h))

-- A WRITE

-- the bytes of a further line come last
bytes_of-append : (lines : List Line) (l : Line) → bytes_of (lines ++ l ∷ []) ≡ bytes_of lines ++ (text_of l ++ 10 ∷ [])
bytes_of-append [] l = refl
bytes_of-append (k ∷ lines) l = ap (λ bs. text_of k ++ (10 ∷ bs)) (bytes_of-append lines l)
    ∙ sym (append_assoc (text_of k) (10 ∷ bytes_of lines) (text_of l ++ 10 ∷ []))

-- where no line is torn, no part of one is written
take-none : (n : ℕ) → take n (torn_text None) ≡ []
take-none zero = refl
take-none (suc n) = refl

-- all bytes of a line written
pub AddsLine-written : (old new : Option (List ℕ)) (l : Line) (bytes : List ℕ) → IsWellFormed l → bytes ≡ text_of l ++ 10 ∷ [] → new ≡ appended old bytes
    → AddsLine (lines_told old None) (lines_told new None) l
unfolding lines_told
AddsLine-written None new l bytes right is e = tt
AddsLine-written (Some before) new l bytes right is e = by (lines_told (Some before) None) refl
  where
    by : (told : Option (List Line)) → lines_told (Some before) None ≡ told → IfSome told (λ lines. lines_told new None ≡ Some (lines ++ l ∷ []))
    by None h = tt
    by (Some lines) h =
        let are = bytes_of-told before None lines h in
        let exact : before ≡ bytes_of lines = are.exact ∙ ap (λ bs. bytes_of lines ++ bs) (take-none are.part) ∙ append-nil (bytes_of lines) in
        let now : before ++ bytes ≡ bytes_of (lines ++ l ∷ []) = ap (λ bs. bs ++ bytes) exact ∙ ap (λ bs. bytes_of lines ++ bs) is
        ∙ sym (bytes_of-append lines l) in
        rw e (told-bytes_of (before ++ bytes) None (lines ++ l ∷ []) tt (record {
          well_formed = All-append IsWellFormed lines (l ∷ []) are.well_formed (All-cons IsWellFormed l [] right (All-nil IsWellFormed));
          part = 0;
          exact = now ∙ sym (append-nil (bytes_of (lines ++ l ∷ [])));
        }))

-- a part of the bytes of a line written
pub StayTold-part : (old new : Option (List ℕ)) (l : Line) (bytes : List ℕ) → IsWellFormed l → bytes ≡ text_of l ++ 10 ∷ [] → AppendsPart old new bytes
    → StayTold (lines_told old None) (lines_told new (Some l))
unfolding lines_told
StayTold-part None new l bytes right is h = tt
StayTold-part (Some before) new l bytes right is h = by (lines_told (Some before) None) refl
  where
    by : (told : Option (List Line)) → lines_told (Some before) None ≡ told → IfSome told (λ lines. lines_told new (Some l) ≡ Some lines)
    by None told = tt
    by (Some lines) told =
        let are = bytes_of-told before None lines told in
        let exact : before ≡ bytes_of lines = are.exact ∙ ap (λ bs. bytes_of lines ++ bs) (take-none are.part) ∙ append-nil (bytes_of lines) in
        let size : length bytes ≡ length (text_of l) + 1 = ap length is ∙ length-append (text_of l) (10 ∷ []) in
        let less : h.count < length bytes = h.not_all (omega arith) in
        let part : take h.count bytes ≡ take h.count (text_of l) = ap (take h.count) is ∙ take-append-le h.count (text_of l) (10 ∷ []) (omega arith) in
        rw h.part (told-bytes_of (before ++ take h.count bytes) (Some l) lines right (record {
          well_formed = are.well_formed;
          part = h.count;
          exact = ap (λ bs. bs ++ take h.count bytes) exact ∙ ap (λ bs. bytes_of lines ++ bs) part;
        }))

-- what is left of a text where its line feed was taken off
pub text_without : (old new text : List ℕ) (n : ℕ) → old ≡ text ++ 10 ∷ [] → n ≡ length old → (0 < n → slice_index old (n - 1) < 128 → new ≡ take (n - 1) old)
    → new ≡ text
text_without old new text n is len cut =
    let size : n ≡ length text + 1 = len ∙ ap length is ∙ length-append text (10 ∷ []) in
    let last : slice_index old (n - 1) ≡ 10 = rw (is, size) (grind (arith, common_steps)) in
    let front : take (n - 1) old ≡ text = ap (take (n - 1)) is ∙ take_at text (10 ∷ []) (n - 1) (omega arith) in
    cut (omega arith) (omega (arith, last)) ∙ front

-- the line of a text that was kept
pub line_kept-text : (s : String Global) (l : Line) → IsWellFormed l → string_bytes s ≡ text_of l → line_kept (Some s) ≡ Some l
unfolding line_kept
line_kept-text s l right e = ap line_of e ∙ line_of-text_of l right
