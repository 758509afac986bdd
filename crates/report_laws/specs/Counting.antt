-- The laws of an answer's length: how many tries, learned clauses and cores it has.
use Rattle.std.specs.Prelude.{◌≡◌, ◌≤◌, ◌+◌, ◌*◌, ℕ, suc, length, List, [], ◌∷◌, Contains, true}
use Rattle.report_text.specs.declared.line.Line.{Line}
use Rattle.report_text.specs.declared.line.Line.TheVariants as line
use Rattle.report_rules.specs.Inputs.{Input}
use Rattle.report_rules.specs.Order.{is_open}
use Rattle.report_rules.specs.Told.{budget_of}
use Rattle.report_rules.specs.Tries.{asked}
use Rattle.report_rules.specs.Accepted.{AreRight}

-- how many tries this answer has
abbrev pub count_tries : List Line → ℕ
count_tries [] = 0
count_tries (line.Ask candidate tuple causes members ∷ before) = 0
count_tries (line.Try q assume ∷ before) = suc (count_tries before)
count_tries (_ ∷ before) = count_tries before

-- how many clauses this answer has learned
abbrev pub count_clauses : List Line → ℕ
count_clauses [] = 0
count_clauses (line.Ask candidate tuple causes members ∷ before) = 0
count_clauses (line.Learn number clause ∷ before) = suc (count_clauses before)
count_clauses (_ ∷ before) = count_clauses before

-- the list has each fact of each cause
abbrev pub HasFactsOf : List (List ℕ) → List ℕ → Type 0
HasFactsOf causes facts = (cause : List ℕ) (i : ℕ) → Contains causes cause → Contains cause i → Contains facts i

-- an answer has at most one try for each cause, one for each fact of a cause, and one more
abbrev pub TriesAreFew : Type 0
TriesAreFew = (input : Input) (before : List Line) → AreRight input before → is_open before ≡ true → (facts : List ℕ)
    → HasFactsOf (asked before).causes facts
    → count_tries before ≤ length (asked before).causes + length facts + 1

-- an answer learns at most the budget in each of its three questions
abbrev pub ClausesAreFew : Type 0
ClausesAreFew = (input : Input) (before : List Line) → AreRight input before → is_open before ≡ true
    → count_clauses before ≤ 3 * budget_of before

-- how many core lines the last try of this answer has
abbrev pub count_try_cores : List Line → ℕ
count_try_cores [] = 0
count_try_cores (line.Ask candidate tuple causes members ∷ before) = 0
count_try_cores (line.Try q assume ∷ before) = 0
count_try_cores (line.Core number kept dropped ∷ before) = suc (count_try_cores before)
count_try_cores (_ ∷ before) = count_try_cores before

-- a try has at most one core line
abbrev pub CoresAreFew : Type 0
CoresAreFew = (input : Input) (before : List Line) → AreRight input before → is_open before ≡ true → count_try_cores before ≤ 1
