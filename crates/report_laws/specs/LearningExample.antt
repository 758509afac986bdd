-- A second worked report, of 26 lines, with learned clauses, a try that is spent, tries that end refuted and a `forget` line; and
-- reports of which one line is another.
use Rattle.std.specs.Prelude.{ℕ, List, [], ◌∷◌, ◌++◌, Option, Some, None, map, codes}
use Rattle.cq_terms.specs.declared.axioms.Basic.TheVariants as basic
use Rattle.cq_terms.specs.declared.axioms.Axiom.{Axiom}
use Rattle.cq_terms.specs.declared.axioms.Axiom.TheVariants.{Disjoint}
use Rattle.cq_terms.specs.declared.facts.Fact.TheVariants as fact
use Rattle.cq_terms.specs.declared.facts.Repairs.TheVariants as mode
use Rattle.cq_terms.specs.declared.query.Term.TheVariants.{Var}
use Rattle.cq_terms.specs.declared.query.QAtom.TheVariants as atom
use Rattle.cq_terms.specs.Knowledge.{Knowledge}
use Rattle.cq_terms.specs.Query.{Query}
use Rattle.cq_meaning.specs.Candidates.{concept_query}
use Rattle.report_text.specs.declared.line.Line.{Line}
use Rattle.report_text.specs.declared.line.Line.TheVariants as line
use Rattle.report_text.specs.declared.line.Question.TheVariants as question
use Rattle.report_text.specs.declared.line.Verdict.{Verdict}
use Rattle.report_text.specs.declared.line.Verdict.TheVariants as verdict
use Rattle.report_text.specs.declared.line.How.TheVariants as how
use Rattle.report_text.specs.declared.line.Origin.TheVariants as origin
use Rattle.report_rules.specs.declared.rule.Rule.{Rule}
use Rattle.report_rules.specs.declared.rule.Rule.TheVariants as rule
use Rattle.report_rules.specs.Accepted.{Accepts}
use Rattle.report_rules.specs.Broken.{IsBrokenFirst}

-- nothing is in both concept names
abbrev pub apart : ℕ → ℕ → Axiom
apart i j = Disjoint (basic.Concept i) (basic.Concept j)

-- A, B, C, D and a, b are 0, 1, 2, 3 and 0, 1. A and B, A and C, B and C, B and D, C and D are disjoint; the facts are A(a), B(a),
-- C(a), D(a) and A(b); B(a) is preferred to C(a), and D(a) to B(a). So A(a), D(a), A(b) is the one chosen repair
abbrev pub crowded_register : Knowledge
crowded_register = record {
  axioms = apart 0 1 ∷ apart 0 2 ∷ apart 1 2 ∷ apart 1 3 ∷ apart 2 3 ∷ [];
  facts = fact.Concept 0 0 ∷ fact.Concept 1 0 ∷ fact.Concept 2 0 ∷ fact.Concept 3 0 ∷ fact.Concept 0 1 ∷ [];
  pairs = record { upper = 1; lower = 2 } ∷ record { upper = 3; lower = 1 } ∷ [];
}

-- the texts of the two individuals
abbrev pub texts : List (List ℕ)
texts = codes "a" ∷ codes "b" ∷ []

-- who is in A
abbrev pub who_in_a : Query
who_in_a = concept_query 0

-- somebody is in both concept names
abbrev pub both_names : ℕ → ℕ → Query
both_names i j = record { head = []; body = atom.Concept i (Var 0) ∷ atom.Concept j (Var 0) ∷ [] }

-- the only query of the block of a disjointness
abbrev pub block_line : ℕ → ℕ → ℕ → Line
block_line n i j = line.Cq (origin.Negative n) (both_names i j) None

-- the head, which lets one clause be learned in a question and none be kept; the blocks and the conflicts
abbrev pub opening : List Line
opening =
    line.Head 5 1 5 0 mode.Pareto 1
    ∷ line.Cq origin.Query who_in_a None
    ∷ block_line 0 0 1
    ∷ block_line 1 0 2
    ∷ block_line 2 1 2
    ∷ block_line 3 1 3
    ∷ block_line 4 2 3
    ∷ line.Conflict (0 ∷ 1 ∷ []) 0 0
    ∷ line.Conflict (0 ∷ 2 ∷ []) 1 0
    ∷ line.Conflict (1 ∷ 2 ∷ []) 2 0
    ∷ line.Conflict (1 ∷ 3 ∷ []) 3 0
    ∷ line.Conflict (2 ∷ 3 ∷ []) 4 0
    ∷ []

-- the first candidate, whose selector is 5, and the try that A(a) is absent
abbrev pub first_try : List Line
first_try = line.Ask 0 (0 ∷ []) ((0 ∷ []) ∷ []) (0 ∷ []) ∷ line.Try question.Iar (1 ∷ []) ∷ []

-- it learns that C(a) is absent or D(a) present, which doesn't help, and is spent
abbrev pub learned_in_vain : Line
learned_in_vain = line.Learn 0 (5 ∷ 6 ∷ [])

-- the try that A(a) isn't entailed learns that B(a) is absent, by which it is refuted
abbrev pub second_try : List Line
second_try = line.Done how.Spent None ∷ line.Try question.Ar (10 ∷ []) ∷ line.Learn 1 (3 ∷ []) ∷ line.Done how.Refuted None ∷ []

-- the first answer: brave and AR, and whether IAR is left open
abbrev pub first_answer : Verdict → Line
first_answer iar = line.Answer verdict.Yes verdict.Yes iar [] (codes "a" ∷ []) (0 ∷ [])

-- both clauses are forgotten; the try that A(b) is absent is refuted by a base clause
abbrev pub second_candidate : List Line
second_candidate =
    line.Forget (0 ∷ 1 ∷ [])
    ∷ line.Ask 1 (1 ∷ []) ((4 ∷ []) ∷ []) (0 ∷ [])
    ∷ line.Try question.Iar (9 ∷ [])
    ∷ line.Done how.Refuted None
    ∷ line.Answer verdict.Yes verdict.Yes verdict.Yes [] (codes "b" ∷ []) (1 ∷ [])
    ∷ line.End 2 2 2 1 1
    ∷ []

-- up to the first answer
abbrev pub up_to_answer : List Line
up_to_answer = opening ++ (first_try ++ (learned_in_vain ∷ second_try))

-- the whole report
abbrev pub learning_report : List Line
learning_report = up_to_answer ++ (first_answer verdict.Undecided ∷ second_candidate)

-- the pieces are broken first at the line by the rule
abbrev pub IsBrokenBy : ℕ → Rule → List (Option Line) → Type 0
IsBrokenBy n r pieces = IsBrokenFirst crowded_register texts who_in_a pieces n r

-- the pieces behind the `try` line of the first try
abbrev pub in_first_try : List (Option Line) → List (Option Line)
in_first_try rest = map Some (opening ++ first_try) ++ rest

-- the report is accepted. Where a clause is learned that doesn't follow, or has the next number but one, or is more than the budget
-- allows, where the try is said to be refuted or spent at once, where the open verdict is said to be yes, where no clause lives that
-- could be forgotten, or one is forgotten that doesn't live, the line and the rule are told, whatever follows
pub record LearningReports : Type 0 where
  pub accepted : Accepts crowded_register texts who_in_a learning_report
  pub unfounded : (rest : List (Option Line)) → IsBrokenBy 15 rule.Learn (in_first_try (Some (line.Learn 0 (0 ∷ [])) ∷ rest))
  pub misnumbered : (rest : List (Option Line)) → IsBrokenBy 15 rule.Learn (in_first_try (Some (line.Learn 1 (5 ∷ 6 ∷ [])) ∷ rest))
  pub over_budget : (rest : List (Option Line))
      → IsBrokenBy 16 rule.Learn (in_first_try (Some learned_in_vain ∷ Some (line.Learn 1 (3 ∷ [])) ∷ rest))
  pub refuted_at_once : (rest : List (Option Line)) → IsBrokenBy 15 rule.Done (in_first_try (Some (line.Done how.Refuted None) ∷ rest))
  pub spent_at_once : (rest : List (Option Line)) → IsBrokenBy 15 rule.Done (in_first_try (Some (line.Done how.Spent None) ∷ rest))
  pub settled : (rest : List (Option Line))
      → IsBrokenBy 20 rule.Answer (map Some up_to_answer ++ (Some (first_answer verdict.Yes) ∷ rest))
  pub nothing_lives : (rest : List (Option Line)) → IsBrokenBy 13 rule.Forget (map Some opening ++ (Some (line.Forget []) ∷ rest))
  pub not_live : (rest : List (Option Line))
      → IsBrokenBy 21 rule.Forget (map Some (up_to_answer ++ (first_answer verdict.Undecided ∷ [])) ++ (Some (line.Forget (2 ∷ [])) ∷ rest))
