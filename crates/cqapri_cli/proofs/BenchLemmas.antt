-- The generated texts on a shelf, and what stops a run over them.
use Rattle.std.proofs.Common.{◌≡◌, inl, inr, ℕ, zero, suc, List, [], Option, Some, Result, Ok, Err, Bool, false, refl, ap, ◌∙◌, subst}
use Rattle.std.specs.Prelude.{codes, string_bytes, if◌then◌else◌}
use Rattle.std.specs.Result.{IsErrAnd}
use Rattle.std.specs.Str.{bytes_eq}
use Rattle.std.proofs.Math.Path.{fun_ext}
use Rattle.bench_texts.specs.Texts.{AreBenchTexts, facts_text, ontology_text, priority_text}
use Rattle.bench_texts.specs.declared.texts.Texts.{Texts}
use Rattle.cq_io.specs.Failing.{Failing}
use Rattle.cq_io.specs.Faults.{one_more}
use Rattle.cq_io.specs.MemShelf.{Puts, ShelfState, bytes_under, failing_of}
use Rattle.cq_terms.specs.declared.facts.Fact.{Fact}
use Rattle.cq_terms.specs.declared.names.Vocab.{Vocab}
use Rattle.preparation.specs.declared.refusal.PrepareRefusal.{PrepareRefusal}
use Rattle.preparation.specs.declared.refusal.PrepareRefusal.TheVariants as prepare
use Rattle.classifier.specs.declared.summary.Summary.{Summary}
use Rattle.cqapri_words.specs.Words.{FileNames, Settings, default_settings}
use Rattle.cqapri_words.specs.declared.refusal.Refusal.{Refusal}
use Rattle.cqapri_words.specs.declared.refusal.Refusal.TheVariants as refusal
use Rattle.input_files.specs.Ends.{place_of}
use Rattle.input_files.specs.Fetching.{Held, TellsNext, after_fetches, is_fault, is_read_fault}
use Rattle.cqapri_cli.specs.Bench.{CountsBench, LeavesBench, StopsBench, bench_held, bench_names, held_of, never_failing}
use Rattle.cqapri_cli.specs.Ends.{is_of_output}
use Rattle.cqapri_cli.specs.Limits.{refusal_of_preparing}

-- ---- the shelf

-- four texts are put on an empty shelf, the last one first
pub all_put : (start first second third all : List (List ℕ × List ℕ)) (ontology facts priority query : List ℕ) → start ≡ []
    → Puts start first (codes "query") query → Puts first second (codes "priority") priority → Puts second third (codes "facts") facts
    → Puts third all (codes "ontology") ontology → bytes_under all ≡ held_of ontology facts priority query
all_put start first second third all ontology facts priority query empty q p f o = fun_ext (λ name.
    o name ∙ ap (λ (t : Option (List ℕ)). if bytes_eq (codes "ontology") name then Some ontology else t) (
    f name ∙ ap (λ (t : Option (List ℕ)). if bytes_eq (codes "facts") name then Some facts else t) (
    p name ∙ ap (λ (t : Option (List ℕ)). if bytes_eq (codes "priority") name then Some priority else t) (
    q name ∙ ap (λ (t : Option (List ℕ)). if bytes_eq (codes "query") name then Some query else t)
    (ap (λ (files : List (List ℕ × List ℕ)). bytes_under files name) empty)))))

-- the generated ones
pub held_is : (size : ℕ) (texts : Texts) → AreBenchTexts size texts
    → held_of (string_bytes texts.ontology) (string_bytes texts.facts) (string_bytes texts.priority) (string_bytes texts.query) ≡ bench_held size
unfolding bench_held
held_is size texts w =
    ap (λ (t : List ℕ). held_of t (string_bytes texts.facts) (string_bytes texts.priority) (string_bytes texts.query)) w.ontology
    ∙ (ap (λ (t : List ℕ). held_of ontology_text t (string_bytes texts.priority) (string_bytes texts.query)) w.facts
    ∙ (ap (λ (t : List ℕ). held_of ontology_text (facts_text size) t (string_bytes texts.query)) w.priority
    ∙ ap (λ (t : List ℕ). held_of ontology_text (facts_text size) (priority_text size) t) w.query))

-- a shelf that nothing else was done to has no fetch that fails
pub never_of : (new filled : ShelfState) → new ≡ record { files = []; failing = []; next_call = 0; faults = 0 }
    → filled ≡ record new { files = filled.files } → failing_of filled ≡ never_failing
never_of new filled empty only = ap failing_of (only ∙ ap (λ (s : ShelfState). record s { files = filled.files }) empty)

pub only_files : (a b c : ShelfState) → b ≡ record a { files = b.files } → c ≡ record b { files = c.files } → c ≡ record a { files = c.files }
only_files a b c first second = second ∙ ap (λ (s : ShelfState). record s { files = c.files }) first

-- what is said of files that are these is said of the generated ones
pub of_bench : (P : Option Held → Option Failing → FileNames → Settings → Type 0) (size : ℕ) (held : Held) (failing : Failing) (names : FileNames)
    (settings : Settings) → held ≡ bench_held size → failing ≡ never_failing → names ≡ bench_names → settings ≡ default_settings
    → P (Some held) (Some failing) names settings → P (Some (bench_held size)) (Some never_failing) bench_names default_settings
of_bench P size held failing names settings h f n s w =
    subst (λ (x : Held). P (Some x) (Some never_failing) bench_names default_settings) h
    (subst (λ (x : Failing). P (Some held) (Some x) bench_names default_settings) f
    (subst (λ (x : FileNames). P (Some held) (Some failing) x default_settings) n
    (subst (λ (x : Settings). P (Some held) (Some failing) names x) s w)))

-- ---- refusals

none_fails : (count next : ℕ) (failed : Bool) → TellsNext (after_fetches count (Some (record { next = next; fails = λ number. false }))) failed
    → failed ≡ false
none_fails zero next failed w = w
none_fails (suc count) next failed w = none_fails count (one_more next) failed w

preparing_reads_none : (facts : List Fact) (vocab : Vocab) (why : PrepareRefusal) → is_fault (refusal_of_preparing facts vocab why) ≡ false
preparing_reads_none facts vocab prepare.Members = refl
preparing_reads_none facts vocab prepare.Conflicts = refl
preparing_reads_none facts vocab (prepare.Cycle numbers) = refl
preparing_reads_none facts vocab prepare.Supports = refl
preparing_reads_none facts vocab prepare.NoMemory = refl

-- none is a fault of the shelf
pub bench_reads_none : (size : ℕ) (r : Refusal) → StopsBench size r → is_fault r ≡ false
bench_reads_none size r (inl m) = ap is_fault m
bench_reads_none size r (inr (inl w)) = none_fails (place_of bench_names w.ends.0) 0 (is_fault r) w.ends.1.own
bench_reads_none size r (inr (inr (inl w))) = ap is_fault w.5.2 ∙ preparing_reads_none w.0.facts w.2 w.5.0
bench_reads_none size r (inr (inr (inr w))) = ap is_fault w.0

-- at the output
pub bench_stops_writing : (size : ℕ) (counts : Summary) → CountsBench size counts → StopsBench size refusal.WriteFault
bench_stops_writing size counts w = inr (inr (inr (refl, (w.0, w.1, w.2, w.3, w.4, w.5.0))))

-- what is none of the output leaves it as it was
pub bench_leaves : (size : ℕ) (old new : Option (List ℕ)) (r : Refusal) → is_of_output r ≡ false → new ≡ old → LeavesBench size old new r
bench_leaves size old new refusal.WriteFault o e = absurd (let both = o in cc)
bench_leaves size old new refusal.NoMemory o e = e
bench_leaves size old new refusal.Words o e = e
bench_leaves size old new (refusal.NotThere f) o e = e
bench_leaves size old new (refusal.Faulty wrong) o e = e
bench_leaves size old new (refusal.Limit beyond) o e = e
bench_leaves size old new (refusal.Cycle cycle) o e = e
bench_leaves size old new (refusal.ReadFault f) o e = e

-- what a `?` passes on is none where its error is none
pub reads_none : {T : Type 0} (r : Result T Refusal) (e : Refusal) → IsErrAnd r (λ d. d ≡ e) → is_fault e ≡ false → is_read_fault r ≡ false
reads_none (Ok x) e h o = refl
reads_none (Err d) e h o = ap is_fault h ∙ o
