-- What a call that writes lines one after another does to a report, and when such lines are right.
use Rattle.std.specs.Prelude.{◌≡◌, List, [], ◌∷◌, ◌++◌, reverse, Option, Some, None, IfSome, Result, Ok, Err}
use Rattle.report_text.specs.declared.line.Line.{Line}
use Rattle.report_rules.specs.Inputs.{Input}
use Rattle.report_rules.specs.Accepted.{Right, AreRight}
use Rattle.answer_desk.specs.declared.plan.ClassifyFault.{ClassifyFault}

-- where the lines were told they are told, and have these at their end
abbrev pub AddsLines : Option (List Line) → Option (List Line) → List Line → Type 0
AddsLines old new lines = IfSome old (λ before. new ≡ Some (before ++ lines))

-- the torn line, where there is one, is the first of these
abbrev pub TearsFirst : Option Line → List Line → Type 0
TearsFirst None rest = Unit {0}
TearsFirst (Some torn) rest = (more : List Line) × (rest ≡ torn ∷ more)

-- the first of the lines were written, and the torn one is the next
pub record StopsAmong (old new : Option (List Line)) (torn : Option Line) (lines : List Line) : Type 0 where
  pub written : List Line
  pub rest : List Line
  pub parts : lines ≡ written ++ rest
  pub added : AddsLines old new written
  pub torn_next : TearsFirst torn rest

-- all of the lines were written, or after a fault the first of them
abbrev pub WritesAll : {T : Type 0} → Result T ClassifyFault → Option (List Line) → Option (List Line) → Option Line → List Line → Type 0
WritesAll (Ok v) old new torn lines = AddsLines old new lines × (torn ≡ None)
WritesAll (Err f) old new torn lines = StopsAmong old new torn lines

-- the lines before, newest first, with these behind them, which come oldest first
abbrev pub with_lines : List Line → List Line → List Line
with_lines before [] = before
with_lines before (line ∷ lines) = with_lines (line ∷ before) lines

-- each of the lines, oldest first, is right after those before it
abbrev pub AreRightInTurn : Input → List Line → List Line → Type 0
AreRightInTurn input before [] = Unit {0}
AreRightInTurn input before (line ∷ lines) = Right input before line × AreRightInTurn input (line ∷ before) lines

-- the report tells right lines, and its torn line, where there is one, is right after them
pub record IsRightSoFar (input : Input) (told : Option (List Line)) (torn : Option Line) : Type 0 where
  pub before : List Line
  pub lines : told ≡ Some (reverse before)
  pub right : AreRight input before
  pub torn_right : IfSome torn (Right input before)
