-- What the counts of verdicts tell: of how many candidates a question holds, and how many are left open.
use Rattle.std.specs.Prelude.{◌<◌, ◌≤◌, ◌+◌, ◌^◌, ◌↔◌, ◌||◌, ℕ, suc, List, length, map, filter, All, Bool, IsTrue}
use Rattle.cq_terms.specs.declared.facts.Repairs.{Repairs}
use Rattle.cq_terms.specs.Knowledge.{Knowledge}
use Rattle.cq_terms.specs.Query.{Query}
use Rattle.cq_meaning.specs.Candidates.{AreCauses}
use Rattle.cq_meaning.specs.Repairs.{IsAcyclic}
use Rattle.report_text.specs.declared.line.Line.{Line}
use Rattle.report_text.specs.declared.line.Question.{Question}
use Rattle.report_text.specs.declared.line.Question.TheVariants as question
use Rattle.report_text.specs.declared.line.Verdict.{Verdict}
use Rattle.report_rules.specs.Inputs.{Input}
use Rattle.report_rules.specs.ConflictLists.{AreConflictFacts}
use Rattle.report_rules.specs.Told.{mode_of, query_of, budget_of, answered, count_answers}
use Rattle.report_rules.specs.Rules.{is_yes, is_undecided}
use Rattle.report_rules.specs.Accepted.{AreRight}
use Rattle.report_laws.specs.Readings.{Holds, IsTrueVerdict}

-- whether the verdict on the question is yes
abbrev pub yes_to : Question → Verdict → Verdict → Verdict → Bool
yes_to question.Brave brave ar iar = is_yes brave
yes_to question.Ar brave ar iar = is_yes ar
yes_to question.Iar brave ar iar = is_yes iar

-- whether some verdict is left open
abbrev pub any_open : Verdict → Verdict → Verdict → Bool
any_open brave ar iar = is_undecided brave || (is_undecided ar || is_undecided iar)

-- how many of the tuples pass
abbrev pub count_passing : (List ℕ → Bool) → List (List ℕ) → ℕ
count_passing test tuples = length (filter test tuples)

-- the test tells of which tuples the question holds
abbrev pub TellsHolding : Input → List Line → Question → (List ℕ → Bool) → Type 0
TellsHolding input before q test = (tuple : List ℕ) → IsTrue (test tuple) ↔ Holds input.kb (mode_of before) (query_of input before) tuple q

-- the answers with yes are at most those for which the question holds, and these at most the ones with yes and the ones left open
pub record CountsTell (before : List Line) (q : Question) (test : List ℕ → Bool) : Type 0 where
  pub least : count_answers (yes_to q) before ≤ count_passing test (answered before)
  pub most : count_passing test (answered before) ≤ count_answers (yes_to q) before + count_answers any_open before

-- after right lines the counts of the answers to this query tell so, under an acyclic priority
abbrev pub AnswersAreCounted : Type 0
AnswersAreCounted = (input : Input) (before : List Line) → AreRight input before → IsAcyclic input.kb (mode_of before) → (q : Question)
    → (test : List ℕ → Bool) → TellsHolding input before q test → CountsTell before q test

-- the test passes the tuples whose bound is above the budget
abbrev pub PassesAboveBudget : Input → List Line → (List ℕ → Bool) → Type 0
PassesAboveBudget input before test = (tuple : List ℕ) (causes : List (List ℕ)) (facts : List ℕ)
    → AreCauses input.kb (query_of input before) tuple causes → AreConflictFacts input.kb causes facts
    → budget_of before < 3 ^ suc (length facts) → IsTrue (test tuple)

-- the answers with an open verdict are at most the candidates whose bound is above the budget
abbrev pub OpenAnswersAreCounted : Type 0
OpenAnswersAreCounted = (input : Input) (before : List Line) → AreRight input before → (test : List ℕ → Bool)
    → PassesAboveBudget input before test → count_answers any_open before ≤ count_passing test (answered before)

-- a tuple with what was answered of it
pub record Said : Type 0 where
  pub tuple : List ℕ
  pub brave : Verdict
  pub ar : Verdict
  pub iar : Verdict

-- the answer to the question
abbrev pub said_to : Question → Said → Verdict
said_to question.Brave s = s.brave
said_to question.Ar s = s.ar
said_to question.Iar s = s.iar

-- how many of the answers have verdicts that pass the test
abbrev pub count_said : (Verdict → Verdict → Verdict → Bool) → List Said → ℕ
count_said test said = length (filter (λ (s : Said). test s.brave s.ar s.iar) said)

-- the tuples that were answered
abbrev pub tuples_said : List Said → List (List ℕ)
tuples_said said = map (λ (s : Said). s.tuple) said

-- the same of answers that no report tells: each yes and each no of them is true
abbrev pub SaidAreCounted : Type 0
SaidAreCounted = (kb : Knowledge) (mode : Repairs) (query : Query) (q : Question) (said : List Said)
    → All (λ s. IsTrueVerdict (Holds kb mode query s.tuple q) (said_to q s)) said
    → (test : List ℕ → Bool) → ((tuple : List ℕ) → IsTrue (test tuple) ↔ Holds kb mode query tuple q)
    → (count_said (yes_to q) said ≤ count_passing test (tuples_said said))
    × (count_passing test (tuples_said said) ≤ count_said (yes_to q) said + count_said any_open said)

-- and where each answer with an open verdict is of a tuple that passes
abbrev pub OpenSaidAreCounted : Type 0
OpenSaidAreCounted = (said : List Said) (test : List ℕ → Bool)
    → All (λ s. IsTrue (any_open s.brave s.ar s.iar) → IsTrue (test s.tuple)) said
    → count_said any_open said ≤ count_passing test (tuples_said said)
