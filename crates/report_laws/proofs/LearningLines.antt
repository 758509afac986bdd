-- The lines of the second worked report, and those up to each, newest first.
use Rattle.std.proofs.Common.{List, [], ◌∷◌, None}
use Rattle.std.specs.Prelude.{codes}
use Rattle.cq_terms.specs.declared.facts.Repairs.TheVariants as mode
use Rattle.report_text.specs.declared.line.Line.{Line}
use Rattle.report_text.specs.declared.line.Line.TheVariants as line
use Rattle.report_text.specs.declared.line.Question.TheVariants as question
use Rattle.report_text.specs.declared.line.Verdict.TheVariants as verdict
use Rattle.report_text.specs.declared.line.How.TheVariants as how
use Rattle.report_text.specs.declared.line.Origin.TheVariants as origin
use Rattle.report_rules.specs.Inputs.{Input, report_on}
use Rattle.report_laws.specs.LearningExample.{crowded_register, texts, who_in_a, block_line, learned_in_vain, first_answer}

abbrev pub about : Input
about = report_on crowded_register texts who_in_a

abbrev pub l1 : Line
l1 = line.Head 5 1 5 0 mode.Pareto 1

abbrev pub l2 : Line
l2 = line.Cq origin.Query who_in_a None

abbrev pub l3 : Line
l3 = block_line 0 0 1

abbrev pub l4 : Line
l4 = block_line 1 0 2

abbrev pub l5 : Line
l5 = block_line 2 1 2

abbrev pub l6 : Line
l6 = block_line 3 1 3

abbrev pub l7 : Line
l7 = block_line 4 2 3

abbrev pub l8 : Line
l8 = line.Conflict (0 ∷ 1 ∷ []) 0 0

abbrev pub l9 : Line
l9 = line.Conflict (0 ∷ 2 ∷ []) 1 0

abbrev pub l10 : Line
l10 = line.Conflict (1 ∷ 2 ∷ []) 2 0

abbrev pub l11 : Line
l11 = line.Conflict (1 ∷ 3 ∷ []) 3 0

abbrev pub l12 : Line
l12 = line.Conflict (2 ∷ 3 ∷ []) 4 0

abbrev pub l13 : Line
l13 = line.Ask 0 (0 ∷ []) ((0 ∷ []) ∷ []) (0 ∷ [])

abbrev pub l14 : Line
l14 = line.Try question.Iar (1 ∷ [])

abbrev pub l15 : Line
l15 = learned_in_vain

abbrev pub l16 : Line
l16 = line.Done how.Spent None

abbrev pub l17 : Line
l17 = line.Try question.Ar (10 ∷ [])

abbrev pub l18 : Line
l18 = line.Learn 1 (3 ∷ [])

abbrev pub l19 : Line
l19 = line.Done how.Refuted None

abbrev pub l20 : Line
l20 = first_answer verdict.Undecided

abbrev pub l21 : Line
l21 = line.Forget (0 ∷ 1 ∷ [])

abbrev pub l22 : Line
l22 = line.Ask 1 (1 ∷ []) ((4 ∷ []) ∷ []) (0 ∷ [])

abbrev pub l23 : Line
l23 = line.Try question.Iar (9 ∷ [])

abbrev pub l24 : Line
l24 = line.Done how.Refuted None

abbrev pub l25 : Line
l25 = line.Answer verdict.Yes verdict.Yes verdict.Yes [] (codes "b" ∷ []) (1 ∷ [])

abbrev pub l26 : Line
l26 = line.End 2 2 2 1 1

abbrev pub b1 : List Line
b1 = l1 ∷ []

abbrev pub b2 : List Line
b2 = l2 ∷ b1

abbrev pub b3 : List Line
b3 = l3 ∷ b2

abbrev pub b4 : List Line
b4 = l4 ∷ b3

abbrev pub b5 : List Line
b5 = l5 ∷ b4

abbrev pub b6 : List Line
b6 = l6 ∷ b5

abbrev pub b7 : List Line
b7 = l7 ∷ b6

abbrev pub b8 : List Line
b8 = l8 ∷ b7

abbrev pub b9 : List Line
b9 = l9 ∷ b8

abbrev pub b10 : List Line
b10 = l10 ∷ b9

abbrev pub b11 : List Line
b11 = l11 ∷ b10

abbrev pub b12 : List Line
b12 = l12 ∷ b11

abbrev pub b13 : List Line
b13 = l13 ∷ b12

abbrev pub b14 : List Line
b14 = l14 ∷ b13

abbrev pub b15 : List Line
b15 = l15 ∷ b14

abbrev pub b16 : List Line
b16 = l16 ∷ b15

abbrev pub b17 : List Line
b17 = l17 ∷ b16

abbrev pub b18 : List Line
b18 = l18 ∷ b17

abbrev pub b19 : List Line
b19 = l19 ∷ b18

abbrev pub b20 : List Line
b20 = l20 ∷ b19

abbrev pub b21 : List Line
b21 = l21 ∷ b20

abbrev pub b22 : List Line
b22 = l22 ∷ b21

abbrev pub b23 : List Line
b23 = l23 ∷ b22

abbrev pub b24 : List Line
b24 = l24 ∷ b23

abbrev pub b25 : List Line
b25 = l25 ∷ b24
