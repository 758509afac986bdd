-- The learned clauses and the live ones after the lines so far. The lines stand newest first.
use Rattle.std.specs.Prelude.{◌≡◌, ◌==◌, ◌+◌, ℕ, suc, ◌⊎◌, List, [], ◌∷◌, ◌++◌, Contains, Bool, true, false, not, filter, if◌then◌else◌, length}
use Rattle.std.specs.List.{list_any}
use Rattle.cq_terms.specs.Knowledge.{Knowledge}
use Rattle.clause_meaning.specs.Literals.{variable_of}
use Rattle.priority_graph.specs.Split.{has}
use Rattle.report_text.specs.declared.line.Line.{Line}
use Rattle.report_text.specs.declared.line.Line.TheVariants as line
use Rattle.report_text.specs.declared.line.Question.{Question}
use Rattle.report_text.specs.declared.line.Question.TheVariants as question
use Rattle.report_rules.specs.Inputs.{selector_of}
use Rattle.report_rules.specs.Clauses.{IsBaseClause, IsCauseClause}
use Rattle.report_rules.specs.Order.{is_open}
use Rattle.report_rules.specs.Told.{mode_of}
use Rattle.report_rules.specs.Tries.{asked, question_of}

-- how many `learn` lines there are
abbrev pub count_learned : List Line → ℕ
count_learned [] = 0
count_learned (line.Learn number clause ∷ before) = suc (count_learned before)
count_learned (_ ∷ before) = count_learned before

-- whether the two questions are one
abbrev pub same_question : Question → Question → Bool
same_question question.Brave question.Brave = true
same_question question.Iar question.Iar = true
same_question question.Ar question.Ar = true
same_question _ _ = false

-- how many `learn` lines stand in this answer, in tries of the question
abbrev pub learned_for : Question → List Line → ℕ
learned_for q [] = 0
learned_for q (line.Ask candidate tuple causes members ∷ before) = 0
learned_for q (line.Learn number clause ∷ before) =
    if same_question q (question_of before) then suc (learned_for q before) else learned_for q before
learned_for q (_ ∷ before) = learned_for q before

-- a learned clause and its number
pub record Learned : Type 0 where
  pub number : ℕ
  pub clause : List ℕ

-- whether the clause has the variable
abbrev pub has_variable : ℕ → List ℕ → Bool
has_variable v clause = list_any (λ l. variable_of l == v) clause

-- the learned clauses that live, oldest first: not forgotten, and without the selector of an answer that is over, where there are so
-- many facts
abbrev pub learned : ℕ → List Line → List Learned
learned facts [] = []
learned facts (line.Learn number clause ∷ before) = learned facts before ++ record { number = number; clause = clause } ∷ []
learned facts (line.Forget numbers ∷ before) = filter (λ c. not (has numbers c.number)) (learned facts before)
learned facts (line.Answer brave ar iar cores names tuple ∷ before) =
    filter (λ c. not (has_variable (facts + (asked before).candidate) c.clause)) (learned facts before)
learned facts (_ ∷ before) = learned facts before

-- the clause of a cause of the candidate whose answer is open
abbrev pub IsOpenCauseClause : Knowledge → List Line → List ℕ → Type 0
IsOpenCauseClause kb before clause =
    (is_open before ≡ true) × IsCauseClause (selector_of kb (asked before).candidate) (asked before).causes clause

-- a learned clause that lives
abbrev pub IsLearned : Knowledge → List Line → List ℕ → Type 0
IsLearned kb before clause = (number : ℕ) × Contains (learned (length kb.facts) before) (record { number = number; clause = clause })

-- a clause that lives after the lines: a base clause, a cause clause of the open answer, or a learned one
abbrev pub Live : Knowledge → List Line → List ℕ → Type 0
Live kb before clause = IsBaseClause kb (mode_of before) clause ⊎ (IsOpenCauseClause kb before clause ⊎ IsLearned kb before clause)
