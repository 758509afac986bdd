-- Answers that leave a question open.
use Rattle.std.specs.Prelude.{◌≡◌, List, Contains, true}
use Rattle.report_text.specs.declared.line.Line.{Line}
use Rattle.report_text.specs.declared.line.Line.TheVariants as line
use Rattle.report_laws.specs.Summaries.{any_open}

-- the line is an answer with a question left open
abbrev pub IsOpenAnswer : Line → Type 0
IsOpenAnswer (line.Answer brave ar iar cores names tuple) = any_open brave ar iar ≡ true
IsOpenAnswer _ = ⊥

-- some answer has a question left open
abbrev pub LeaveOpen : List Line → Type 0
LeaveOpen lines = (line : Line) × Contains lines line × IsOpenAnswer line
