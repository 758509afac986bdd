-- A worked report of 15 lines on the staff register, which is accepted, and reports of which one line is another.
use Rattle.std.specs.Prelude.{ℕ, List, [], ◌∷◌, ◌++◌, Option, Some, None, map, codes}
use Rattle.cq_terms.specs.declared.facts.Repairs.TheVariants as mode
use Rattle.cq_terms.specs.declared.query.Term.TheVariants.{Var}
use Rattle.cq_terms.specs.declared.query.QAtom.TheVariants as atom
use Rattle.cq_terms.specs.Query.{Query}
use Rattle.cq_meaning.specs.Examples.{staff_register, staff_query}
use Rattle.cq_steps.specs.declared.moves.Move.TheVariants as move
use Rattle.report_text.specs.declared.line.Line.{Line}
use Rattle.report_text.specs.declared.line.Line.TheVariants as line
use Rattle.report_text.specs.declared.line.Question.TheVariants as question
use Rattle.report_text.specs.declared.line.Verdict.{Verdict}
use Rattle.report_text.specs.declared.line.Verdict.TheVariants as verdict
use Rattle.report_text.specs.declared.line.How.TheVariants as how
use Rattle.report_text.specs.declared.line.Origin.TheVariants as origin
use Rattle.report_rules.specs.declared.rule.Rule.{Rule}
use Rattle.report_rules.specs.declared.rule.Rule.TheVariants as rule
use Rattle.report_rules.specs.Accepted.{Accepts}
use Rattle.report_rules.specs.Broken.{IsBrokenFirst}

-- the text of the one individual
abbrev pub names : List (List ℕ)
names = codes "ann" ∷ []

-- who is in Prof
abbrev pub prof_query : Query
prof_query = record { head = Var 0 ∷ []; body = atom.Concept 0 (Var 0) ∷ [] }

-- somebody is in Staff and in Student
abbrev pub staff_and_student : Query
staff_and_student = record { head = []; body = atom.Concept 1 (Var 0) ∷ atom.Concept 2 (Var 0) ∷ [] }

-- somebody is in Prof and in Student
abbrev pub prof_and_student : Query
prof_and_student = record { head = []; body = atom.Concept 0 (Var 0) ∷ atom.Concept 2 (Var 0) ∷ [] }

-- the head, the two blocks, the conflict and the candidate with its cause
abbrev pub first_lines : List Line
first_lines =
    line.Head 2 20000 2 20000 mode.Pareto 1
    ∷ line.Cq origin.Query staff_query None
    ∷ line.Cq origin.Query prof_query (Some (0, move.Axiom 0 0))
    ∷ line.Cq (origin.Negative 1) staff_and_student None
    ∷ line.Cq (origin.Negative 1) prof_and_student (Some (0, move.Axiom 0 0))
    ∷ line.Conflict (0 ∷ 1 ∷ []) 1 1
    ∷ line.Ask 0 (0 ∷ []) ((0 ∷ []) ∷ []) (1 ∷ [])
    ∷ []

-- the brave try with a core that keeps Prof(ann), and the IAR try with one that drops it
abbrev pub tries : List Line
tries =
    line.Try question.Brave (0 ∷ [])
    ∷ line.Core 0 (0 ∷ []) (1 ∷ [])
    ∷ line.Done how.Model (Some 0)
    ∷ line.Try question.Iar (1 ∷ [])
    ∷ line.Core 1 (1 ∷ []) (0 ∷ [])
    ∷ line.Done how.Model (Some 1)
    ∷ []

-- the answer: brave, neither AR nor IAR
abbrev pub answer_with : Verdict → Line
answer_with ar = line.Answer verdict.Yes ar verdict.No (0 ∷ 1 ∷ []) names (0 ∷ [])

-- the counts
abbrev pub last_line : Line
last_line = line.End 1 1 0 0 0

-- the whole report
abbrev pub staff_report : List Line
staff_report = first_lines ++ (tries ++ (answer_with verdict.No ∷ last_line ∷ []))

-- the pieces are broken first at the line by the rule
abbrev pub IsBrokenBy : ℕ → Rule → List (Option Line) → Type 0
IsBrokenBy n r pieces = IsBrokenFirst staff_register names staff_query pieces n r

-- the report is accepted; where a core drops nothing, the second query is left out, AR is said to be yes, or the last line is left
-- out or torn, the line and the rule are told, whatever follows
pub record StaffReports : Type 0 where
  pub accepted : Accepts staff_register names staff_query staff_report
  pub core : (rest : List (Option Line))
      → IsBrokenBy 9 rule.Core (map Some first_lines ++ (Some (line.Try question.Brave (0 ∷ [])) ∷ Some (line.Core 0 (0 ∷ []) []) ∷ rest))
  pub closed : (rest : List (Option Line))
      → IsBrokenBy 3 rule.Closed (Some (line.Head 2 20000 2 20000 mode.Pareto 1) ∷ Some (line.Cq origin.Query staff_query None)
      ∷ Some (line.Cq (origin.Negative 1) staff_and_student None) ∷ rest)
  pub answer : (rest : List (Option Line))
      → IsBrokenBy 14 rule.Answer (map Some (first_lines ++ tries) ++ (Some (answer_with verdict.Yes) ∷ rest))
  pub missing : IsBrokenBy 15 rule.Missing (map Some (first_lines ++ (tries ++ (answer_with verdict.No ∷ []))))
  pub torn : (rest : List (Option Line))
      → IsBrokenBy 15 rule.Text (map Some (first_lines ++ (tries ++ (answer_with verdict.No ∷ []))) ++ (None ∷ rest))
