-- The lines of a report: when they are well formed, their texts, and the line of a text.
use Rattle.std.specs.Prelude.{ℕ, List, Option, Some, None, option_and_then, if◌then◌else◌, codes}
use Rattle.std.specs.Str.{bytes_eq}
use Rattle.serde_json.specs.Data.{Data}
use Rattle.serde_json.specs.Read.{read}
use Rattle.serde_json.specs.Written.{compact_text}
use Rattle.report_text.specs.declared.line.Line.{Line}
use Rattle.report_text.specs.declared.line.Line.TheVariants as line
use Rattle.report_fields.specs.Fields.{word_at}
use Rattle.report_text.specs.HeadLine.{IsWellFormedHead, head_data, head_at}
use Rattle.report_text.specs.CqLine.{IsWellFormedCq, cq_data, cq_at}
use Rattle.report_text.specs.ConflictLine.{IsWellFormedConflict, conflict_data, conflict_at}
use Rattle.report_text.specs.AskLine.{IsWellFormedAsk, ask_data, ask_at}
use Rattle.report_text.specs.TryLine.{IsWellFormedTry, try_data, try_at}
use Rattle.report_text.specs.LearnLine.{IsWellFormedLearn, learn_data, learn_at}
use Rattle.report_text.specs.CoreLine.{IsWellFormedCore, core_data, core_at}
use Rattle.report_text.specs.DoneLine.{IsWellFormedDone, done_data, done_at}
use Rattle.report_text.specs.ForgetLine.{IsWellFormedForget, forget_data, forget_at}
use Rattle.report_text.specs.AnswerLine.{IsWellFormedAnswer, answer_data, answer_at}
use Rattle.report_text.specs.EndLine.{IsWellFormedEnd, end_data, end_at}

-- the line is well formed
abbrev pub IsWellFormed : Line → Type 0
IsWellFormed (line.Head axioms budget facts keep repairs version) = IsWellFormedHead axioms budget facts keep version
IsWellFormed (line.Cq of query made_by) = IsWellFormedCq of query made_by
IsWellFormed (line.Conflict facts rule place) = IsWellFormedConflict facts rule place
IsWellFormed (line.Ask candidate tuple causes members) = IsWellFormedAsk candidate tuple causes members
IsWellFormed (line.Try question assume) = IsWellFormedTry assume
IsWellFormed (line.Learn number clause) = IsWellFormedLearn number clause
IsWellFormed (line.Core number kept dropped) = IsWellFormedCore number kept dropped
IsWellFormed (line.Done how core) = IsWellFormedDone how core
IsWellFormed (line.Forget clauses) = IsWellFormedForget clauses
IsWellFormed (line.Answer brave ar iar cores names tuple) = IsWellFormedAnswer cores names tuple
IsWellFormed (line.End answers brave ar iar undecided) = IsWellFormedEnd answers brave ar iar undecided

-- the line as JSON
abbrev pub data_of : Line → Data
data_of (line.Head axioms budget facts keep repairs version) = head_data axioms budget facts keep repairs version
data_of (line.Cq of query made_by) = cq_data of query made_by
data_of (line.Conflict facts rule place) = conflict_data facts rule place
data_of (line.Ask candidate tuple causes members) = ask_data candidate tuple causes members
data_of (line.Try question assume) = try_data question assume
data_of (line.Learn number clause) = learn_data number clause
data_of (line.Core number kept dropped) = core_data number kept dropped
data_of (line.Done how core) = done_data how core
data_of (line.Forget clauses) = forget_data clauses
data_of (line.Answer brave ar iar cores names tuple) = answer_data brave ar iar cores names tuple
data_of (line.End answers brave ar iar undecided) = end_data answers brave ar iar undecided

-- the text of a line, without the line feed: its compact JSON text
unfoldable pub text_of : Line → List ℕ
text_of line = compact_text (data_of line)

-- READ

-- the line of the kind that the word names
abbrev pub line_of_kind : List ℕ → Data → Option Line
line_of_kind word d =
    if bytes_eq word (codes "head") then head_at d
    else if bytes_eq word (codes "cq") then cq_at d
    else if bytes_eq word (codes "conflict") then conflict_at d
    else if bytes_eq word (codes "ask") then ask_at d
    else if bytes_eq word (codes "try") then try_at d
    else if bytes_eq word (codes "learn") then learn_at d
    else if bytes_eq word (codes "core") then core_at d
    else if bytes_eq word (codes "done") then done_at d
    else if bytes_eq word (codes "forget") then forget_at d
    else if bytes_eq word (codes "answer") then answer_at d
    else if bytes_eq word (codes "end") then end_at d
    else None

-- the line whose fields the value has
unfoldable pub line_at : Data → Option Line
line_at d = option_and_then (λ word. line_of_kind word d) (word_at (codes "k") d)

-- the well-formed line whose text the bytes are, where there is one
unfoldable pub line_of : List ℕ → Option Line
line_of bytes = option_and_then (λ line. if bytes_eq (text_of line) bytes then Some line else None) (option_and_then line_at (read bytes))
