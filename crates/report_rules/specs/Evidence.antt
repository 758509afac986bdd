-- When the lines of an answer settle a question.
use Rattle.std.specs.Prelude.{ℕ, ◌⊎◌, List, [], ◌∷◌, map, Contains}
use Rattle.cq_terms.specs.Knowledge.{Knowledge}
use Rattle.clause_meaning.specs.Refutation.{IsWithin}
use Rattle.repair_clauses.specs.BaseClauses.{present, absent}
use Rattle.report_text.specs.declared.line.Line.{Line}
use Rattle.report_text.specs.declared.line.Line.TheVariants as line
use Rattle.report_text.specs.declared.line.Question.{Question}
use Rattle.report_text.specs.declared.line.Question.TheVariants as question
use Rattle.report_text.specs.declared.line.Verdict.{Verdict}
use Rattle.report_text.specs.declared.line.Verdict.TheVariants as verdict
use Rattle.report_text.specs.declared.line.How.TheVariants as how
use Rattle.report_rules.specs.Inputs.{selector_of}
use Rattle.report_rules.specs.Tries.{asked, Ended, NamesCore}

-- some core of the answer is so: one that its `done` lines name, or one of the list
abbrev pub SomeCore : List Line → List ℕ → (List ℕ → List ℕ → Type 0) → Type 0
SomeCore before cores P = (n : ℕ) × (kept : List ℕ) × (dropped : List ℕ)
    × (NamesCore before n ⊎ Contains cores n) × Contains before (line.Core n kept dropped) × P kept dropped

-- the facts have one of the cause
abbrev pub Meets : List ℕ → List ℕ → Type 0
Meets cause facts = (i : ℕ) × Contains cause i × Contains facts i

-- what shows a verdict by itself. Brave yes: a core keeps a whole cause. Brave no: each cause was refuted. AR yes: the selector
-- was refuted. AR no: a core drops a fact of every cause. IAR yes: that each fact of some cause is absent was refuted. IAR no:
-- every cause has a fact that some core drops
abbrev pub IsShown : Knowledge → List Line → List ℕ → Question → Verdict → Type 0
IsShown kb before cores question.Brave verdict.Yes =
    SomeCore before cores (λ kept dropped. (cause : List ℕ) × Contains (asked before).causes cause × IsWithin cause kept)
IsShown kb before cores question.Brave verdict.No = (cause : List ℕ) → Contains (asked before).causes cause
    → Ended question.Brave (map present cause) how.Refuted before
IsShown kb before cores question.Ar verdict.Yes =
    Ended question.Ar (present (selector_of kb (asked before).candidate) ∷ []) how.Refuted before
IsShown kb before cores question.Ar verdict.No =
    SomeCore before cores (λ kept dropped. (cause : List ℕ) → Contains (asked before).causes cause → Meets cause dropped)
IsShown kb before cores question.Iar verdict.Yes = (cause : List ℕ) × Contains (asked before).causes cause
    × ((i : ℕ) → Contains cause i → Ended question.Iar (absent i ∷ []) how.Refuted before)
IsShown kb before cores question.Iar verdict.No = (cause : List ℕ) → Contains (asked before).causes cause
    → SomeCore before cores (λ kept dropped. Meets cause dropped)
IsShown kb before cores _ verdict.Undecided = ⊥

-- shown, or by what gives it: IAR yes gives AR yes, and AR yes brave yes; brave no gives AR no, and AR no IAR no
abbrev pub IsSettledAs : Knowledge → List Line → List ℕ → Question → Verdict → Type 0
IsSettledAs kb before cores question.Iar verdict.Yes = IsShown kb before cores question.Iar verdict.Yes
IsSettledAs kb before cores question.Ar verdict.Yes = IsShown kb before cores question.Ar verdict.Yes
    ⊎ IsShown kb before cores question.Iar verdict.Yes
IsSettledAs kb before cores question.Brave verdict.Yes = IsShown kb before cores question.Brave verdict.Yes
    ⊎ (IsShown kb before cores question.Ar verdict.Yes ⊎ IsShown kb before cores question.Iar verdict.Yes)
IsSettledAs kb before cores question.Brave verdict.No = IsShown kb before cores question.Brave verdict.No
IsSettledAs kb before cores question.Ar verdict.No = IsShown kb before cores question.Ar verdict.No
    ⊎ IsShown kb before cores question.Brave verdict.No
IsSettledAs kb before cores question.Iar verdict.No = IsShown kb before cores question.Iar verdict.No
    ⊎ (IsShown kb before cores question.Ar verdict.No ⊎ IsShown kb before cores question.Brave verdict.No)
IsSettledAs kb before cores _ verdict.Undecided = ⊥

-- the question is settled one way or the other
abbrev pub IsSettled : Knowledge → List Line → List ℕ → Question → Type 0
IsSettled kb before cores q = IsSettledAs kb before cores q verdict.Yes ⊎ IsSettledAs kb before cores q verdict.No

-- the tries that an undecided question has had. Brave: each cause was refuted or spent, and one spent. AR: the selector was spent.
-- IAR: every cause has a fact that some core drops or whose try was spent, and one try was spent
abbrev pub IsSpent : Knowledge → List Line → List ℕ → Question → Type 0
IsSpent kb before cores question.Brave =
    ((cause : List ℕ) → Contains (asked before).causes cause
    → Ended question.Brave (map present cause) how.Refuted before ⊎ Ended question.Brave (map present cause) how.Spent before)
    × ((cause : List ℕ) × Contains (asked before).causes cause × Ended question.Brave (map present cause) how.Spent before)
IsSpent kb before cores question.Ar = Ended question.Ar (present (selector_of kb (asked before).candidate) ∷ []) how.Spent before
IsSpent kb before cores question.Iar =
    ((cause : List ℕ) → Contains (asked before).causes cause → SomeCore before cores (λ kept dropped. Meets cause dropped)
    ⊎ ((i : ℕ) × Contains cause i × Ended question.Iar (absent i ∷ []) how.Spent before))
    × ((i : ℕ) × Ended question.Iar (absent i ∷ []) how.Spent before)

-- the verdict that an answer has to have: the settled one, and undecided only after the spent tries
abbrev pub IsVerdict : Knowledge → List Line → List ℕ → Question → Verdict → Type 0
IsVerdict kb before cores q verdict.Yes = IsSettledAs kb before cores q verdict.Yes
IsVerdict kb before cores q verdict.No = IsSettledAs kb before cores q verdict.No
IsVerdict kb before cores q verdict.Undecided = ¬ IsSettled kb before cores q × IsSpent kb before cores q
