-- Whole reports: each piece is a line, and the last, and no other, is an end.
use Rattle.std.specs.Prelude.{◌≡◌, ◌↔◌, ℕ, ◌+◌, Bool, true, false, List, [], ◌∷◌, ◌++◌, map, Option, Some, None}
use Rattle.std.specs.List.{list_any}
use Rattle.report_text.specs.declared.line.Line.{Line}
use Rattle.report_text.specs.declared.line.Line.TheVariants as line
use Rattle.report_text.specs.Pieces.{pieces_of}

-- whether the line is an end
abbrev pub is_end : Line → Bool
is_end (line.End answers brave ar iar undecided) = true
is_end _ = false

-- the number of the first of these pieces that is no line or follows an end, or of the one after the last where there is no end; the
-- first piece has this number, and the flag says whether an end came before
abbrev pub bad_from : ℕ → Bool → List (Option Line) → Option ℕ
bad_from number true [] = None
bad_from number false [] = Some number
bad_from number true (piece ∷ pieces) = Some number
bad_from number false (None ∷ pieces) = Some number
bad_from number false (Some first ∷ pieces) = bad_from (number + 1) (is_end first) pieces

-- the number of the first bad line of a report, from 1, where it isn't whole
abbrev pub bad_line : List ℕ → Option ℕ
bad_line report = bad_from 1 false (pieces_of report)

-- the pieces are lines, of which the last, and no other, is an end
pub record AreWhole (pieces : List (Option Line)) : Type 0 where
  pub before : List Line
  pub last : Line
  pub are_lines : pieces ≡ map Some (before ++ last ∷ [])
  pub ends : is_end last ≡ true
  pub no_other : list_any is_end before ≡ false

-- exactly the whole reports have no bad line
abbrev pub WholeReportsAreTaken : Type 0
WholeReportsAreTaken = (report : List ℕ) → (bad_line report ≡ None) ↔ AreWhole (pieces_of report)
