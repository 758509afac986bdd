-- The lines of the worked report on the staff register, and those up to each, newest first.
use Rattle.std.proofs.Common.{List, [], ◌∷◌, Some, None}
use Rattle.cq_terms.specs.declared.facts.Repairs.TheVariants as mode
use Rattle.cq_meaning.specs.Examples.{staff_register, staff_query}
use Rattle.cq_steps.specs.declared.moves.Move.TheVariants as move
use Rattle.report_text.specs.declared.line.Line.{Line}
use Rattle.report_text.specs.declared.line.Line.TheVariants as line
use Rattle.report_text.specs.declared.line.Question.TheVariants as question
use Rattle.report_text.specs.declared.line.Verdict.TheVariants as verdict
use Rattle.report_text.specs.declared.line.How.TheVariants as how
use Rattle.report_text.specs.declared.line.Origin.TheVariants as origin
use Rattle.report_rules.specs.Inputs.{Input, report_on}
use Rattle.report_laws.specs.Examples.{names, prof_query, staff_and_student, prof_and_student, answer_with}

abbrev pub about : Input
about = report_on staff_register names staff_query

abbrev pub l1 : Line
l1 = line.Head 2 20000 2 20000 mode.Pareto 1

abbrev pub l2 : Line
l2 = line.Cq origin.Query staff_query None

abbrev pub l3 : Line
l3 = line.Cq origin.Query prof_query (Some (0, move.Axiom 0 0))

abbrev pub l4 : Line
l4 = line.Cq (origin.Negative 1) staff_and_student None

abbrev pub l5 : Line
l5 = line.Cq (origin.Negative 1) prof_and_student (Some (0, move.Axiom 0 0))

abbrev pub l6 : Line
l6 = line.Conflict (0 ∷ 1 ∷ []) 1 1

abbrev pub l7 : Line
l7 = line.Ask 0 (0 ∷ []) ((0 ∷ []) ∷ []) (1 ∷ [])

abbrev pub l8 : Line
l8 = line.Try question.Brave (0 ∷ [])

abbrev pub l9 : Line
l9 = line.Core 0 (0 ∷ []) (1 ∷ [])

abbrev pub l10 : Line
l10 = line.Done how.Model (Some 0)

abbrev pub l11 : Line
l11 = line.Try question.Iar (1 ∷ [])

abbrev pub l12 : Line
l12 = line.Core 1 (1 ∷ []) (0 ∷ [])

abbrev pub l13 : Line
l13 = line.Done how.Model (Some 1)

abbrev pub l14 : Line
l14 = answer_with verdict.No

abbrev pub b1 : List Line
b1 = l1 ∷ []

abbrev pub b2 : List Line
b2 = l2 ∷ b1

abbrev pub b3 : List Line
b3 = l3 ∷ b2

abbrev pub b4 : List Line
b4 = l4 ∷ b3

abbrev pub b5 : List Line
b5 = l5 ∷ b4

abbrev pub b6 : List Line
b6 = l6 ∷ b5

abbrev pub b7 : List Line
b7 = l7 ∷ b6

abbrev pub b8 : List Line
b8 = l8 ∷ b7

abbrev pub b9 : List Line
b9 = l9 ∷ b8

abbrev pub b10 : List Line
b10 = l10 ∷ b9

abbrev pub b11 : List Line
b11 = l11 ∷ b10

abbrev pub b12 : List Line
b12 = l12 ∷ b11

abbrev pub b13 : List Line
b13 = l13 ∷ b12

abbrev pub b14 : List Line
b14 = l14 ∷ b13
