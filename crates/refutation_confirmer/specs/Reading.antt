-- How far a report has been read, and what that says of it.
use Rattle.std.specs.Prelude.{◌≡◌, ◌<◌, ◌≤◌, ◌+◌, ◌^◌, ◌++◌, ℕ, suc, List, [], ◌∷◌, length, map, reverse, Some}
use Rattle.cq_terms.specs.Knowledge.{Knowledge}
use Rattle.cq_terms.specs.Query.{Query}
use Rattle.report_text.specs.declared.line.Line.{Line}
use Rattle.report_text.specs.Pieces.{pieces_of}
use Rattle.report_rules.specs.declared.place.Place.TheVariants.{AtEnd}
use Rattle.report_rules.specs.declared.rule.Rule.{Rule}
use Rattle.report_rules.specs.declared.rule.Rule.TheVariants as rule
use Rattle.report_rules.specs.Inputs.{report_on}
use Rattle.report_rules.specs.Accepted.{Right}
use Rattle.report_rules.specs.Broken.{Breaks}
use Rattle.report_lines.specs.Cutting.{IsBroken, BeginsWith}
use Rattle.refutation_confirmer.specs.Room.{HasRoom}
use Rattle.refutation_confirmer.specs.Saying.{IsYes, IsNo, TellsRoundly}
use Rattle.refutation_confirmer.specs.State.{State, Fits, TellsNow}

-- right lines have been read, which the state fits, and the rest is left; the number is that of the next line
pub record ReadSo (kb : Knowledge) (names : List (List ℕ)) (q : Query) (report rest : List ℕ) (number : ℕ) (state : State) (before : List Line) : Type 0 where
  pub same : pieces_of report ≡ map Some (reverse before) ++ pieces_of rest
  pub numbered : number ≡ suc (length before)
  pub fits : Fits (report_on kb names q) before state
  pub few : number + length rest ≤ length report + 1

-- what it says at the beginning, behind one more right line, and at each way out
pub record Reads (kb : Knowledge) (names : List (List ℕ)) (q : Query) (report : List ℕ) : Type 0 where
  pub none : (state : State) → Fits (report_on kb names q) [] state → ReadSo kb names q report report 1 state []
  pub more : (rest more : List ℕ) (number : ℕ) (state last : State) (before : List Line) (l : Line)
      → ReadSo kb names q report rest number state before → BeginsWith rest l more → Fits (report_on kb names q) (l ∷ before) last
      → ReadSo kb names q report more (number + 1) last (l ∷ before)
  pub at_text : (rest : List ℕ) (number : ℕ) (state : State) (before : List Line) → ReadSo kb names q report rest number state before
      → IsBroken rest → IsNo kb names q report number rule.Text
  pub at_line : (rest more : List ℕ) (number : ℕ) (state : State) (before : List Line) (l : Line) (r : Rule)
      → ReadSo kb names q report rest number state before → BeginsWith rest l more → Breaks (report_on kb names q) before l r
      → IsNo kb names q report number r
  pub at_end : (number : ℕ) (state : State) (before : List Line) → ReadSo kb names q report [] number state before
      → ¬ (state.standing.place ≡ AtEnd) → IsNo kb names q report number rule.Missing
  pub ended : (number : ℕ) (state : State) (before : List Line) → ReadSo kb names q report [] number state before
      → state.standing.place ≡ AtEnd → IsYes kb names q report state.standing.total
  pub round : (rest more : List ℕ) (number : ℕ) (state : State) (before : List Line) (l : Line) (facts : List ℕ)
      → ReadSo kb names q report rest number state before → BeginsWith rest l more → Right (report_on kb names q) before l
      → TellsNow (report_on kb names q) before l facts → TellsRoundly kb names q report facts
  pub room : (rest : List ℕ) (number : ℕ) (state : State) (before : List Line) → ReadSo kb names q report rest number state before
      → 0 < length rest → length report < 2 ^ 63 → HasRoom state.standing

-- so it is for each report
abbrev pub ReadingTells : Type 0
ReadingTells = (kb : Knowledge) (names : List (List ℕ)) (q : Query) (report : List ℕ) → Reads kb names q report
