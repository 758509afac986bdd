-- Exactly the whole reports have no bad line.
use Rattle.std.proofs.Common.{◌≡◌, ◌||◌, ◌+◌, ◌∙◌, ℕ, refl, ap, Bool, true, false, true≢false, List, [], ◌∷◌, ◌++◌, map, Option, Some, None}
use Rattle.std.specs.List.{list_any}
use Rattle.report_text.specs.declared.line.Line.{Line}
use Rattle.report_text.specs.Pieces.{pieces_of}
use Rattle.verdict_table.specs.Whole.{AreWhole, WholeReportsAreTaken, bad_from, is_end}

-- behind an end there is nothing
only_end : (number : ℕ) (l : Line) (pieces : List (Option Line)) → is_end l ≡ true → bad_from number true pieces ≡ None → AreWhole (Some l ∷ pieces)
only_end number l [] t e = record { before = []; last = l; are_lines = refl; ends = t; no_other = refl }
only_end number l (piece ∷ pieces) t e = absurd (cc e)

-- before one there are lines
more_lines : (l : Line) (pieces : List (Option Line)) → is_end l ≡ false → AreWhole pieces → AreWhole (Some l ∷ pieces)
more_lines l pieces f w = record {
  before = l ∷ w.before;
  last = w.last;
  are_lines = ap (λ (others : List (Option Line)). Some l ∷ others) w.are_lines;
  ends = w.ends;
  no_other = ap (λ b. b || list_any is_end w.before) f ∙ w.no_other;
}

by_end : (number : ℕ) (l : Line) (pieces : List (Option Line)) (ended : Bool) → is_end l ≡ ended
    → (bad_from number false pieces ≡ None → AreWhole pieces) → bad_from number ended pieces ≡ None
    → AreWhole (Some l ∷ pieces)
by_end number l pieces true t more e = only_end number l pieces t e
by_end number l pieces false f more e = more_lines l pieces f (more e)

taken : (number : ℕ) (pieces : List (Option Line)) → bad_from number false pieces ≡ None → AreWhole pieces
taken number [] e = absurd (cc e)
taken number (None ∷ pieces) e = absurd (cc e)
taken number (Some l ∷ pieces) e = by_end (number + 1) l pieces (is_end l) refl (λ h. taken (number + 1) pieces h) e

first_false : (a b : Bool) → (a || b) ≡ false → a ≡ false
first_false true b e = e
first_false false b e = refl

second_false : (a b : Bool) → (a || b) ≡ false → b ≡ false
second_false true b e = absurd (true≢false e)
second_false false b e = e

none_bad : (number : ℕ) (before : List Line) (last : Line) → is_end last ≡ true → list_any is_end before ≡ false
    → bad_from number false (map Some (before ++ last ∷ [])) ≡ None
none_bad number [] last t f = ap (λ ended. bad_from (number + 1) ended []) t
none_bad number (l ∷ before) last t f =
    ap (λ ended. bad_from (number + 1) ended (map Some (before ++ last ∷ []))) (first_false (is_end l) (list_any is_end before) f)
    ∙ none_bad (number + 1) before last t (second_false (is_end l) (list_any is_end before) f)

pub whole_reports : WholeReportsAreTaken
whole_reports report = (
  λ e. taken 1 (pieces_of report) e,
  λ w. ap (bad_from 1 false) w.are_lines ∙ none_bad 1 w.before w.last w.ends w.no_other,
)
