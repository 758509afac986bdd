-- What a call of a report answers, and what it does to the lines and the torn line.
use Rattle.std.specs.Prelude.{◌≡◌, List, [], ◌∷◌, ◌++◌, Bool, true, false, Option, Some, None, Result, Err, IfSome}
use Rattle.report_text.specs.declared.line.Line.{Line}
use Rattle.report_text.specs.declared.report.LineFault.{LineFault}
use Rattle.report_text.specs.declared.report.LineFault.TheVariants.{Failed}

-- the call answered that the report failed
abbrev pub has_failed : {T : Type 0} → Result T LineFault → Bool
has_failed (Err Failed) = true
has_failed _ = false

-- the torn line after a call: the line of the call where the report failed, and else none
abbrev pub torn_after : {T : Type 0} → Result T LineFault → Line → Option Line
torn_after (Err Failed) line = Some line
torn_after _ line = None

-- where the lines were told they are told, and have the line at their end
abbrev pub AddsLine : Option (List Line) → Option (List Line) → Line → Type 0
AddsLine old new line = IfSome old (λ lines. new ≡ Some (lines ++ line ∷ []))

-- where the lines were told they are told, and are the same
abbrev pub StayTold : Option (List Line) → Option (List Line) → Type 0
StayTold old new = IfSome old (λ lines. new ≡ Some lines)
