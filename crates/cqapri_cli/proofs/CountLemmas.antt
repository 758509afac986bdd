-- The counts of a classification are those of right verdicts.
use Rattle.std.proofs.Common.{◌≡◌, ◌≤◌, ◌+◌, ℕ, List, [], ◌∷◌, Option, Result, Ok, Err, IfErr, false, refl, sym, ap, ◌∙◌, subst, arith}
use Rattle.std.specs.List.{AllByRecursion, AllZip}
use Rattle.std.proofs.lemmas.List.Elements.{All-from_recursion, recursion_from_All}
use Rattle.cq_io.specs.Failing.{Failing}
use Rattle.cq_io.specs.Faults.{TellsFault}
use Rattle.cq_terms.specs.Conflicts.{ConflictGraph}
use Rattle.cq_terms.specs.Knowledge.{Knowledge, kb_of}
use Rattle.cq_terms.specs.Query.{Query}
use Rattle.cq_meaning.specs.Candidates.{Every, AreCandidates, AreCauses}
use Rattle.cq_meaning.specs.ConflictGraphs.{AreConflictsOf}
use Rattle.cq_meaning.specs.Conflicts.{FactsEntail}
use Rattle.priority_graph.specs.Inputs.{IsPriorityOf}
use Rattle.priority_graph.specs.Priority.{Priority}
use Rattle.cause_finder.specs.declared.candidate.Candidate.{Candidate}
use Rattle.report_text.specs.declared.line.Question.{Question}
use Rattle.report_text.specs.declared.line.Question.TheVariants as question
use Rattle.report_rules.specs.ConflictLists.{AreConflictFacts}
use Rattle.report_laws.specs.Bounds.{ConflictsTellBounds}
use Rattle.report_laws.specs.ListLaws.{LawsOfLists}
use Rattle.report_laws.specs.Readings.{Holds, IsDecided, IsTrueVerdict}
use Rattle.report_laws.specs.Summaries.{Said, count_passing, said_to, tuples_said}
use Rattle.answer_desk.specs.Answering.{AreTrueVerdicts}
use Rattle.classifier.specs.WholeReports.{IsSaidOf, tuples_of, verdicts_of, yes_count}
use Rattle.classifier.specs.declared.summary.Summary.{Summary}
use Rattle.cqapri_words.specs.Words.{FileNames, Settings}
use Rattle.cqapri_words.specs.declared.refusal.Refusal.{Refusal}
use Rattle.cqapri_words.specs.declared.refusal.Refusal.TheVariants as refusal
use Rattle.input_files.specs.declared.input.Input.{Input}
use Rattle.input_files.specs.Fetching.{Held, is_fault, is_read_fault}
use Rattle.input_files.specs.Meaning.{FilesSay}
use Rattle.cqapri_cli.specs.Counts.{AreCounts, CountsAnswers, IsRightlySaid, SummaryIsRight, plan_with}
use Rattle.cqapri_cli.specs.Ends.{is_write_fault}
use Rattle.cqapri_cli.specs.Leaving.{IsOfWriting}
use Rattle.cqapri_cli.specs.Limits.{IsWithinLimits}
use Rattle.cqapri_cli.specs.Reading.{AreFetched}

-- pairs play no part in candidates and causes
candidates_are : (kb : Knowledge) (q : Query) (tuples : List (List ℕ)) → AreCandidates (kb_of kb.axioms kb.facts) q tuples → AreCandidates kb q tuples
candidates_are kb q tuples w = record { entailed = w.entailed; complete = w.complete; ascending = w.ascending }

causes_are : (kb : Knowledge) (q : Query) (tuple : List ℕ) (causes : List (List ℕ)) → AreCauses (kb_of kb.axioms kb.facts) q tuple causes
    → AreCauses kb q tuple causes
causes_are kb q tuple causes w = record {
  each = λ k d l. let h = w.each k d l in (h.0, record { consistent = h.1.consistent; entails = h.1.entails; least = h.1.least });
  complete = λ c a h. w.complete c a (record { consistent = h.consistent; entails = h.entails; least = h.least });
  ascending = w.ascending;
}

true_to : (kb : Knowledge) (q : Query) (settings : Settings) (s : Said) → AreTrueVerdicts kb settings.repairs q s.tuple (verdicts_of s)
    → (asked : Question) → IsTrueVerdict (Holds kb settings.repairs q s.tuple asked) (said_to asked s)
true_to kb q settings s w question.Brave = w.brave
true_to kb q settings s w question.Ar = w.ar
true_to kb q settings s w question.Iar = w.iar

decided_to : (s : Said) → IsDecided s.brave × IsDecided s.ar × IsDecided s.iar → (asked : Question) → IsDecided (said_to asked s)
decided_to s w question.Brave = w.0
decided_to s w question.Ar = w.1
decided_to s w question.Iar = w.2

module _ (bounds : ConflictsTellBounds) (lists : LawsOfLists) (kb : Knowledge) (q : Query) (settings : Settings) (g : ConflictGraph) (p : Priority)
    (conflicts : AreConflictsOf kb g) (priority : IsPriorityOf kb settings.repairs p) where
  -- what is said of a candidate in place
  one : (c : Candidate) (s : Said) → FactsEntail kb Every q c.tuple → AreCauses kb q c.tuple c.causes → IsSaidOf g p (plan_with settings) c s
      → IsRightlySaid kb q settings s
  one c s entailed causes w = record {
    truth = true_to kb q settings s
        (subst (λ (t : List ℕ). AreTrueVerdicts kb settings.repairs q t (verdicts_of s)) (sym w.tuple) (w.truth kb q priority entailed causes));
    decided = λ others facts given bound enough.
        let same : others ≡ c.causes = lists.causes kb q c.tuple others c.causes (subst (λ (t : List ℕ). AreCauses kb q t others) w.tuple given) causes in
        let here : AreConflictFacts kb c.causes facts = subst (λ (cs : List (List ℕ)). AreConflictFacts kb cs facts) same bound in
        decided_to s (w.by_budget (facts, ((bounds kb g conflicts).bound c.causes facts).1 here, enough));
  }

  each : (candidates : List Candidate) (said : List Said) → AllByRecursion (FactsEntail kb Every q) (tuples_of candidates)
      → AllByRecursion (λ (c : Candidate). AreCauses (kb_of kb.axioms kb.facts) q c.tuple c.causes) candidates
      → AllZip (IsSaidOf g p (plan_with settings)) candidates said → AllByRecursion (IsRightlySaid kb q settings) said
  each [] [] entailed causes zip = tt
  each [] (s ∷ said) entailed causes zip = absurd zip
  each (c ∷ candidates) [] entailed causes zip = absurd zip
  each (c ∷ candidates) (s ∷ said) entailed causes zip =
      (one c s entailed.0 (causes_are kb q c.tuple c.causes causes.0) zip.0, each candidates said entailed.1 causes.1 zip.1)

  tuples_are : (candidates : List Candidate) (said : List Said) → AllZip (IsSaidOf g p (plan_with settings)) candidates said
      → tuples_said said ≡ tuples_of candidates
  tuples_are [] [] zip = refl
  tuples_are [] (s ∷ said) zip = absurd zip
  tuples_are (c ∷ candidates) [] zip = absurd zip
  tuples_are (c ∷ candidates) (s ∷ said) zip =
      ap (λ (t : List ℕ). t ∷ tuples_said said) zip.0.tuple ∙ ap (λ (ts : List (List ℕ)). c.tuple ∷ ts) (tuples_are candidates said zip.1)

pub summary_is_right : ConflictsTellBounds → LawsOfLists → SummaryIsRight
summary_is_right bounds lists kb q settings p counts prepared (said, zip, counted) holding =
    let candidates = p.candidates.items in
    let same = tuples_are bounds lists kb q settings p.found.conflicts p.better prepared.conflicts prepared.priority candidates said zip in
    let are = candidates_are kb q (tuples_of candidates) prepared.answers.candidates in
    record {
      said = said;
      candidates = subst (AreCandidates kb q) (sym same) are;
      right = All-from_recursion (IsRightlySaid kb q settings) said (
          each bounds lists kb q settings p.found.conflicts p.better prepared.conflicts prepared.priority candidates said
          (recursion_from_All (FactsEntail kb Every q) (tuples_of candidates) are.entailed)
          (recursion_from_All (λ (c : Candidate). AreCauses (kb_of kb.axioms kb.facts) q c.tuple c.causes) candidates prepared.answers.causes) zip
          );
      counted = counted;
      holding = λ asked test tells. subst (λ (ts : List (List ℕ)). (yes_count asked counts ≤ count_passing test ts)
          × (count_passing test ts ≤ yes_count asked counts + counts.undecided)) (sym same) (holding asked test tells);
    }

-- ---- counts of what files say

-- what is said of an input that was handed on
pub counts_of : (holds : Option Held) (failing : Option Failing) (names : FileNames) (settings : Settings) (first made : Input) → made ≡ first
    → FilesSay holds names first.kb first.query first.vocab → AreFetched failing names → IsWithinLimits first.kb first.query settings
    → (counts : Summary) → AreCounts made.kb made.query settings counts → CountsAnswers holds failing names settings counts
counts_of holds failing names settings first made same says fetched within counts right = (
  first.kb,
  first.query,
  first.vocab,
  says,
  fetched,
  (within, subst (λ (i : Input). AreCounts i.kb i.query settings counts) same right),
)

-- a sink that counts no fault gives no refusal of the output
pub never_failed : {T : Type 0} (r : Result T Refusal) → IfErr r IsOfWriting → TellsFault 0 0 (is_write_fault r) → IfErr r (λ e. e ≡ refusal.NoMemory)
never_failed (Ok x) o w = tt
never_failed (Err refusal.WriteFault) o w = absurd (omega (arith, w.rose))
never_failed (Err refusal.NoMemory) o w = refl
never_failed (Err refusal.Words) o w = absurd o
never_failed (Err (refusal.NotThere f)) o w = absurd o
never_failed (Err (refusal.Faulty wrong)) o w = absurd o
never_failed (Err (refusal.Limit beyond)) o w = absurd o
never_failed (Err (refusal.Cycle cycle)) o w = absurd o
never_failed (Err (refusal.ReadFault f)) o w = absurd o

-- want of memory is no fault of the shelf
pub memory_reads_none : {T : Type 0} (r : Result T Refusal) → IfErr r (λ e. e ≡ refusal.NoMemory) → is_read_fault r ≡ false
memory_reads_none (Ok x) e = refl
memory_reads_none (Err d) e = ap is_fault e
