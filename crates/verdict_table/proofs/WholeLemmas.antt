-- How far a report has been read for its first bad line.
use Rattle.std.proofs.Common.{◌≡◌, ℕ, ◌+◌, ◌≤◌, ◌∙◌, refl, ap, arith, length, Bool, true, false, List, [], ◌∷◌, Option, Some, None}
use Rattle.report_text.specs.declared.line.Line.{Line}
use Rattle.report_text.specs.Pieces.{pieces_of}
use Rattle.report_text.proofs.PieceFacts.{no_pieces}
use Rattle.report_lines.specs.Cutting.{IsBroken, BeginsWith}
use Rattle.verdict_table.specs.Whole.{bad_from, bad_line, is_end}

-- the first bad line of the report is that of the rest, whose first line has this number
pub record ReadSo (report rest : List ℕ) (number : ℕ) (ended : Bool) : Type 0 where
  pub same : bad_line report ≡ bad_from number ended (pieces_of rest)
  pub few : number + length rest ≤ length report + 1

-- before the first line
pub none_read : (report : List ℕ) → ReadSo report report 1 false
none_read report = record { same = refl; few = omega arith }

-- behind one line more
pub one_more : (report rest more : List ℕ) (number : ℕ) (l : Line) → ReadSo report rest number false → BeginsWith rest l more
    → ReadSo report more (number + 1) (is_end l)
one_more report rest more number l r b = record {
  same = r.same ∙ ap (bad_from number false) b.exact;
  few = let f = r.few in let s = b.shorter in omega arith;
}

-- a piece that is no line is bad, whether an end came before or not
no_line : (number : ℕ) (ended : Bool) (others : List (Option Line)) → bad_from number ended (None ∷ others) ≡ Some number
no_line number true others = refl
no_line number false others = refl

pub broken_is_bad : (report rest : List ℕ) (number : ℕ) (ended : Bool) → ReadSo report rest number ended → IsBroken rest
    → Some number ≡ bad_line report
broken_is_bad report rest number ended r (others, e) =
    let whole : bad_line report ≡ Some number = r.same ∙ (ap (bad_from number ended) e ∙ no_line number ended others) in cc

-- a line behind an end is bad
pub later_is_bad : (report rest more : List ℕ) (number : ℕ) (l : Line) → ReadSo report rest number true → BeginsWith rest l more
    → Some number ≡ bad_line report
later_is_bad report rest more number l r b =
    let whole : bad_line report ≡ Some number = r.same ∙ ap (bad_from number true) b.exact in cc

-- a list of no length
pub empty_list : (xs : List ℕ) → length xs ≡ 0 → xs ≡ []
empty_list [] e = refl
empty_list (x ∷ xs) e = absurd (omega arith)

-- at the end of the bytes
pub at_end : (report rest : List ℕ) (number : ℕ) (ended : Bool) → ReadSo report rest number ended → rest ≡ []
    → bad_line report ≡ bad_from number ended []
at_end report rest number ended r e = r.same ∙ ap (bad_from number ended) (ap pieces_of e ∙ no_pieces)
