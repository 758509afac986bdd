-- What the lines that aren't of a try have to be, after the lines before them.
use Rattle.std.specs.Prelude.{◌≡◌, ℕ, ◌<◌, ◌≤◌, ◌/◌, ◌++◌, ◌||◌, List, [], ◌∷◌, length, All, Contains, Some, slice_get, Bool, true, false}
use Rattle.std.specs.List.{AllZip}
use Rattle.cq_terms.specs.declared.facts.Fact.{Fact}
use Rattle.cq_terms.specs.Query.{Query}
use Rattle.cq_meaning.specs.Candidates.{AreCandidates, AreCauses}
use Rattle.cq_meaning.specs.Entailment.{HasImage}
use Rattle.cq_terms.specs.Lists.{IsAscending}
use Rattle.report_text.specs.declared.line.Line.{Line}
use Rattle.report_text.specs.declared.line.Line.TheVariants as line
use Rattle.report_text.specs.declared.line.Question.TheVariants as question
use Rattle.report_text.specs.declared.line.Verdict.{Verdict}
use Rattle.report_text.specs.declared.line.Verdict.TheVariants as verdict
use Rattle.report_text.specs.declared.line.Origin.TheVariants as origin
use Rattle.report_rules.specs.Inputs.{Input, Session}
use Rattle.report_rules.specs.ConflictLists.{AreConflictLists}
use Rattle.report_rules.specs.Told.{query_of, keep_of, block_of, conflicts_of, answered, count_answers}
use Rattle.report_rules.specs.Tries.{asked, NamesCore}
use Rattle.report_rules.specs.Live.{learned}
use Rattle.report_rules.specs.Evidence.{IsVerdict}

-- the sizes of the input, and the version
pub record HeadIsRight (input : Input) (axioms facts version : ℕ) : Type 0 where
  pub axioms_are : axioms ≡ length input.kb.axioms
  pub facts_are : facts ≡ length input.kb.facts
  pub version_is : version ≡ 1

-- the member at the place matches in the table with the tuple and exactly these ascending facts
abbrev pub MemberMatches : List Fact → List Query → ℕ → List ℕ → List ℕ → Type 0
MemberMatches facts members place tuple numbers = (q : Query) × (slice_get members place ≡ Some q) × HasImage facts q tuple numbers

-- the next of all conflicts, with a member of the block of a disjointness that matches with exactly its facts
pub record ConflictIsRight (input : Input) (before : List Line) (facts : List ℕ) (rule member : ℕ) : Type 0 where
  pub next : (rest : List (List ℕ)) × AreConflictLists input.kb (conflicts_of before ++ facts ∷ rest)
  pub found : MemberMatches input.kb.facts (block_of (origin.Negative rule) before) member [] facts

-- where the conflict lines are over, none is missing
abbrev pub LeavesNoneOut : Input → List Line → Line → Type 0
LeavesNoneOut input before (line.Cq origin.Query query step) = input.form ≡ Session → AreConflictLists input.kb (conflicts_of before)
LeavesNoneOut input before (line.Forget _) = AreConflictLists input.kb (conflicts_of before)
LeavesNoneOut input before (line.Ask _ _ _ _) = AreConflictLists input.kb (conflicts_of before)
LeavesNoneOut input before (line.End _ _ _ _ _) = AreConflictLists input.kb (conflicts_of before)
LeavesNoneOut input before _ = Unit {0}

-- the next candidate, with exactly its causes, each with a member of the query's block that matches with exactly it
pub record AskIsRight (input : Input) (before : List Line) (candidate : ℕ) (tuple : List ℕ)
    (causes : List (List ℕ)) (members : List ℕ) : Type 0 where
  pub number : candidate ≡ length (answered before)
  pub next : (rest : List (List ℕ)) × AreCandidates input.kb (query_of input before) (answered before ++ tuple ∷ rest)
  pub causes_are : AreCauses input.kb (query_of input before) tuple causes
  pub found : AllZip (λ cause place. MemberMatches input.kb.facts (block_of origin.Query before) place tuple cause) causes members

-- many learned clauses live, and of these at least half as many as may live stay
pub record ForgetIsRight (input : Input) (before : List Line) (numbers : List ℕ) : Type 0 where
  pub many : keep_of before < length (learned (length input.kb.facts) before)
  pub ascending : IsAscending numbers
  pub live : All (λ n. (c : List ℕ) × Contains (learned (length input.kb.facts) before) (record { number = n; clause = c })) numbers
  pub stay : keep_of before / 2 ≤ length (learned (length input.kb.facts) (line.Forget numbers ∷ before))

-- the candidate that was asked, with its texts, the cores of its tries and earlier ones, and the verdicts that it has to have
pub record AnswerIsRight (input : Input) (before : List Line) (brave ar iar : Verdict) (cores : List ℕ)
    (names : List (List ℕ)) (tuple : List ℕ) : Type 0 where
  pub same_tuple : tuple ≡ (asked before).tuple
  pub texts : AllZip (λ c text. slice_get input.names c ≡ Some text) tuple names
  pub ascending : IsAscending cores
  pub earlier : All (λ n. (kept : List ℕ) × (dropped : List ℕ) × Contains before (line.Core n kept dropped)) cores
  pub complete : (n : ℕ) → NamesCore before n → Contains cores n
  pub brave_is : IsVerdict input.kb before cores question.Brave brave
  pub ar_is : IsVerdict input.kb before cores question.Ar ar
  pub iar_is : IsVerdict input.kb before cores question.Iar iar

-- whether the verdict is yes
abbrev pub is_yes : Verdict → Bool
is_yes verdict.Yes = true
is_yes _ = false

-- whether the verdict is left open
abbrev pub is_undecided : Verdict → Bool
is_undecided verdict.Undecided = true
is_undecided _ = false

-- no candidate of the query is left, and its answers are counted
pub record EndIsRight (input : Input) (before : List Line) (answers brave ar iar undecided : ℕ) : Type 0 where
  pub none_left : AreCandidates input.kb (query_of input before) (answered before)
  pub answers_count : answers ≡ count_answers (λ b a i. true) before
  pub brave_count : brave ≡ count_answers (λ b a i. is_yes b) before
  pub ar_count : ar ≡ count_answers (λ b a i. is_yes a) before
  pub iar_count : iar ≡ count_answers (λ b a i. is_yes i) before
  pub undecided_count : undecided ≡ count_answers (λ b a i. is_undecided b || (is_undecided a || is_undecided i)) before
