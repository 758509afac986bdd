-- The generated input as files, the line of its counts, and why there is none.
use Rattle.std.specs.Prelude.{◌≡◌, ℕ, List, [], ◌∷◌, ◌++◌, Option, Some, None, false, codes, decimal, if◌then◌else◌}
use Rattle.std.specs.Str.{bytes_eq}
use Rattle.cq_io.specs.Failing.{Failing}
use Rattle.cq_io.specs.Writing.{appended}
use Rattle.bench_texts.specs.Texts.{facts_text, ontology_text, priority_text, query_text}
use Rattle.classifier.specs.declared.summary.Summary.{Summary}
use Rattle.cqapri_words.specs.Pieces.{AppendsFirst}
use Rattle.cqapri_words.specs.Words.{FileNames, default_settings}
use Rattle.cqapri_words.specs.declared.refusal.Refusal.{Refusal}
use Rattle.cqapri_words.specs.declared.refusal.Refusal.TheVariants as refusal
use Rattle.input_files.specs.Fetching.{Held}
use Rattle.cqapri_cli.specs.Counts.{CountsAnswers}
use Rattle.cqapri_cli.specs.Ends.{StopsClassify}

-- the names under which the generated texts stand
abbrev pub bench_names : FileNames
bench_names = record {
  ontology = codes "ontology";
  facts = codes "facts";
  priority = Some (codes "priority");
  query = codes "query";
}

-- four texts under these names, and no other file
abbrev pub held_of : List ℕ → List ℕ → List ℕ → List ℕ → Held
held_of ontology facts priority query name =
    if bytes_eq (codes "ontology") name then Some ontology
    else if bytes_eq (codes "facts") name then Some facts
    else if bytes_eq (codes "priority") name then Some priority
    else if bytes_eq (codes "query") name then Some query
    else None

-- the generated texts of this size under these names
unfoldable pub bench_held : ℕ → Held
bench_held size = held_of ontology_text (facts_text size) (priority_text size) query_text

-- no fetch fails
abbrev pub never_failing : Failing
never_failing = record { next = 0; fails = λ number. false }

-- the counts are those of the verdicts on what the generated texts say
abbrev pub CountsBench : ℕ → Summary → Type 0
CountsBench size counts = CountsAnswers (Some (bench_held size)) (Some never_failing) bench_names default_settings counts

-- the line of the counts
abbrev pub counts_text : Summary → List ℕ
counts_text counts = codes "answers " ++ (decimal counts.answers ++ (codes " brave " ++ (decimal counts.brave
    ++ (codes " ar " ++ (decimal counts.ar ++ (codes " iar " ++ (decimal counts.iar
    ++ (codes " undecided " ++ (decimal counts.undecided ++ 10 ∷ [])))))))))

-- the line of right counts was written
abbrev pub PrintsCounts : ℕ → Option (List ℕ) → Option (List ℕ) → Type 0
PrintsCounts size old new = (counts : Summary) × CountsBench size counts × (new ≡ appended old (counts_text counts))

-- the first bytes of the line of right counts were written
abbrev pub PrintsFirstOfCounts : ℕ → Option (List ℕ) → Option (List ℕ) → Type 0
PrintsFirstOfCounts size old new = (counts : Summary) × CountsBench size counts × AppendsFirst old new (counts_text counts)

-- why the refusal comes: want of memory; a generated text that is refused; a limit or a cycle behind the texts; or a failed write behind
-- both. No fetch fails
abbrev pub StopsBench : ℕ → Refusal → Type 0
StopsBench size r = StopsClassify (Some (bench_held size)) (Some never_failing) bench_names default_settings r

-- what a refusal leaves in the output: nothing but after a write fault, and then the first bytes of the line
abbrev pub LeavesBench : ℕ → Option (List ℕ) → Option (List ℕ) → Refusal → Type 0
LeavesBench size old new refusal.WriteFault = PrintsFirstOfCounts size old new
LeavesBench size old new r = new ≡ old
