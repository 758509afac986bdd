-- Whether a question is settled, by loops over the lists of an open answer.
use Rattle.std.specs.Prelude.{◌↔◌, ◌&&◌, ◌||◌, ◌++◌, ◌∷◌, [], ℕ, List, map, filter_map, Bool, true, false, not, IsTrue, slice_get}
use Rattle.std.specs.List.{list_any, list_all}
use Rattle.std.specs.Str.{bytes_eq}
use Rattle.cq_terms.specs.Knowledge.{Knowledge}
use Rattle.priority_graph.specs.Split.{has}
use Rattle.repair_clauses.specs.BaseClauses.{present, absent}
use Rattle.report_text.specs.declared.line.Line.{Line}
use Rattle.report_text.specs.declared.line.Question.{Question}
use Rattle.report_text.specs.declared.line.Question.TheVariants as question
use Rattle.report_text.specs.declared.line.Verdict.{Verdict}
use Rattle.report_text.specs.declared.line.Verdict.TheVariants as verdict
use Rattle.report_text.specs.declared.line.How.{How}
use Rattle.report_text.specs.declared.line.How.TheVariants as how
use Rattle.report_rules.specs.Inputs.{Input, selector_of}
use Rattle.report_rules.specs.Tries.{asked}
use Rattle.report_rules.specs.Live.{same_question}
use Rattle.report_rules.specs.Evidence.{IsShown, IsSettledAs, IsSettled, IsSpent, IsVerdict}
use Rattle.report_rules.specs.Accepted.{AreRight}
use Rattle.report_laws.specs.Standing.{Core, cores_of, EndedTry, ended_of, named_of}

-- what settles questions: the selector and the causes of the candidate, the tries that have ended, and the cores of the answer
pub record Evidence : Type 0 where
  pub selector : ℕ
  pub causes : List (List ℕ)
  pub ended : List EndedTry
  pub cores : List Core

-- the cores of the numbers
abbrev pub cores_at : List Core → List ℕ → List Core
cores_at cores numbers = filter_map (slice_get cores) numbers

-- the evidence of the lines so far, where the answer names cores of these numbers besides those of its `done` lines
abbrev pub evidence_of : Knowledge → List Line → List ℕ → Evidence
evidence_of kb before numbers = record {
  selector = selector_of kb (asked before).candidate;
  causes = (asked before).causes;
  ended = ended_of before;
  cores = cores_at (cores_of before) (named_of before ++ numbers);
}

-- whether two tries ended alike
abbrev pub same_how : How → How → Bool
same_how how.Model how.Model = true
same_how how.Refuted how.Refuted = true
same_how how.Spent how.Spent = true
same_how _ _ = false

-- whether some try asked the question under the assumptions and ended so
abbrev pub is_ended : List EndedTry → Question → List ℕ → How → Bool
is_ended ended q assume how = list_any (λ t. same_question t.question q && (bytes_eq t.assume assume && same_how t.how how)) ended

-- whether some try of the question ended so
abbrev pub has_ended : List EndedTry → Question → How → Bool
has_ended ended q how = list_any (λ t. same_question t.question q && same_how t.how how) ended

-- whether the core keeps the whole cause
abbrev pub keeps : Core → List ℕ → Bool
keeps core cause = list_all (has core.kept) cause

-- whether the core drops a fact of the cause
abbrev pub drops : Core → List ℕ → Bool
drops core cause = list_any (has core.dropped) cause

-- whether the evidence shows the verdict by itself
abbrev pub is_shown : Evidence → Question → Verdict → Bool
is_shown e question.Brave verdict.Yes = list_any (λ core. list_any (keeps core) e.causes) e.cores
is_shown e question.Brave verdict.No = list_all (λ cause. is_ended e.ended question.Brave (map present cause) how.Refuted) e.causes
is_shown e question.Ar verdict.Yes = is_ended e.ended question.Ar (present e.selector ∷ []) how.Refuted
is_shown e question.Ar verdict.No = list_any (λ core. list_all (drops core) e.causes) e.cores
is_shown e question.Iar verdict.Yes =
    list_any (λ cause. list_all (λ i. is_ended e.ended question.Iar (absent i ∷ []) how.Refuted) cause) e.causes
is_shown e question.Iar verdict.No = list_all (λ cause. list_any (λ core. drops core cause) e.cores) e.causes
is_shown e _ verdict.Undecided = false

-- whether it is shown, or by what gives it
abbrev pub is_settled_as : Evidence → Question → Verdict → Bool
is_settled_as e question.Iar verdict.Yes = is_shown e question.Iar verdict.Yes
is_settled_as e question.Ar verdict.Yes = is_shown e question.Ar verdict.Yes || is_shown e question.Iar verdict.Yes
is_settled_as e question.Brave verdict.Yes =
    is_shown e question.Brave verdict.Yes || (is_shown e question.Ar verdict.Yes || is_shown e question.Iar verdict.Yes)
is_settled_as e question.Brave verdict.No = is_shown e question.Brave verdict.No
is_settled_as e question.Ar verdict.No = is_shown e question.Ar verdict.No || is_shown e question.Brave verdict.No
is_settled_as e question.Iar verdict.No =
    is_shown e question.Iar verdict.No || (is_shown e question.Ar verdict.No || is_shown e question.Brave verdict.No)
is_settled_as e _ verdict.Undecided = false

-- whether the question is settled one way or the other
abbrev pub is_settled : Evidence → Question → Bool
is_settled e q = is_settled_as e q verdict.Yes || is_settled_as e q verdict.No

-- whether the question has had the tries that leave it undecided
abbrev pub is_spent : Evidence → Question → Bool
is_spent e question.Brave = list_all (λ cause. is_ended e.ended question.Brave (map present cause) how.Refuted
    || is_ended e.ended question.Brave (map present cause) how.Spent) e.causes
    && list_any (λ cause. is_ended e.ended question.Brave (map present cause) how.Spent) e.causes
is_spent e question.Ar = is_ended e.ended question.Ar (present e.selector ∷ []) how.Spent
is_spent e question.Iar = list_all (λ cause. list_any (λ core. drops core cause) e.cores
    || list_any (λ i. is_ended e.ended question.Iar (absent i ∷ []) how.Spent) cause) e.causes
    && has_ended e.ended question.Iar how.Spent

-- whether an answer has to have the verdict
abbrev pub is_verdict : Evidence → Question → Verdict → Bool
is_verdict e q verdict.Yes = is_settled_as e q verdict.Yes
is_verdict e q verdict.No = is_settled_as e q verdict.No
is_verdict e q verdict.Undecided = not (is_settled e q) && is_spent e q

-- the tests tell what the lines show
pub record TestsTell (kb : Knowledge) (before : List Line) (numbers : List ℕ) : Type 0 where
  pub shown : (q : Question) (said : Verdict) → IsTrue (is_shown (evidence_of kb before numbers) q said) ↔ IsShown kb before numbers q said
  pub settled_as : (q : Question) (said : Verdict)
      → IsTrue (is_settled_as (evidence_of kb before numbers) q said) ↔ IsSettledAs kb before numbers q said
  pub settled : (q : Question) → IsTrue (is_settled (evidence_of kb before numbers) q) ↔ IsSettled kb before numbers q
  pub spent : (q : Question) → IsTrue (is_spent (evidence_of kb before numbers) q) ↔ IsSpent kb before numbers q
  pub verdict : (q : Question) (said : Verdict)
      → IsTrue (is_verdict (evidence_of kb before numbers) q said) ↔ IsVerdict kb before numbers q said

-- in an open answer after right lines the tests tell what the lines show
abbrev pub TestsTellEvidence : Type 0
TestsTellEvidence = (input : Input) (before : List Line) → AreRight input before → (numbers : List ℕ)
    → TestsTell input.kb before numbers
