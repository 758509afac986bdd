-- What the lines so far tell of the open answer: its candidate, its tries and their cores. The lines stand newest first.
use Rattle.std.specs.Prelude.{◌≡◌, ℕ, suc, ◌⊎◌, List, [], ◌∷◌, Some}
use Rattle.report_text.specs.declared.line.Line.{Line}
use Rattle.report_text.specs.declared.line.Line.TheVariants as line
use Rattle.report_text.specs.declared.line.Question.{Question}
use Rattle.report_text.specs.declared.line.Question.TheVariants as question
use Rattle.report_text.specs.declared.line.How.{How}

-- a candidate as an `ask` line gives it
pub record Asked : Type 0 where
  pub candidate : ℕ
  pub tuple : List ℕ
  pub causes : List (List ℕ)

-- the candidate that was asked last
abbrev pub asked : List Line → Asked
asked [] = record { candidate = 0; tuple = []; causes = [] }
asked (line.Ask candidate tuple causes members ∷ before) = record { candidate = candidate; tuple = tuple; causes = causes }
asked (_ ∷ before) = asked before

-- the question of the last try
abbrev pub question_of : List Line → Question
question_of [] = question.Brave
question_of (line.Try q assume ∷ before) = q
question_of (_ ∷ before) = question_of before

-- the assumptions of the last try
abbrev pub assumed : List Line → List ℕ
assumed [] = []
assumed (line.Try q assume ∷ before) = assume
assumed (_ ∷ before) = assumed before

-- a try of this answer asked the question under the assumptions
abbrev pub Tried : Question → List ℕ → List Line → Type 0
Tried q assume [] = ⊥
Tried q assume (line.Ask candidate tuple causes members ∷ before) = ⊥
Tried q assume (line.Try q' assume' ∷ before) = ((q' ≡ q) × (assume' ≡ assume)) ⊎ Tried q assume before
Tried q assume (_ ∷ before) = Tried q assume before

-- such a try of this answer ended so
abbrev pub Ended : Question → List ℕ → How → List Line → Type 0
Ended q assume how [] = ⊥
Ended q assume how (line.Ask candidate tuple causes members ∷ before) = ⊥
Ended q assume how (line.Done how' core ∷ before) = ((question_of before ≡ q) × (assumed before ≡ assume) × (how' ≡ how))
    ⊎ Ended q assume how before
Ended q assume how (_ ∷ before) = Ended q assume how before

-- a `done` line of this answer names the core
abbrev pub NamesCore : List Line → ℕ → Type 0
NamesCore [] n = ⊥
NamesCore (line.Ask candidate tuple causes members ∷ before) n = ⊥
NamesCore (line.Done how core ∷ before) n = (core ≡ Some n) ⊎ NamesCore before n
NamesCore (_ ∷ before) n = NamesCore before n

-- how many `core` lines there are
abbrev pub count_cores : List Line → ℕ
count_cores [] = 0
count_cores (line.Core number kept dropped ∷ before) = suc (count_cores before)
count_cores (_ ∷ before) = count_cores before
