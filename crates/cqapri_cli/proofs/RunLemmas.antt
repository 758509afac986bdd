-- How the run ends: its status, its text and what it has written.
use Rattle.std.proofs.Common.{◌≡◌, ◌⊎◌, inl, inr, ℕ, List, Option, Some, None, IfSome, Bool, true, false, true≢false, refl, sym, ap, ◌∙◌, subst}
use Rattle.std.specs.Prelude.{◌≢◌}
use Rattle.cq_io.specs.Failing.{Failing}
use Rattle.cq_io.specs.Faults.{Rose, TellsFault}
use Rattle.cq_terms.specs.declared.facts.Fact.{Fact}
use Rattle.cq_terms.specs.declared.names.Vocab.{Vocab}
use Rattle.preparation.specs.declared.refusal.PrepareRefusal.{PrepareRefusal}
use Rattle.preparation.specs.declared.refusal.PrepareRefusal.TheVariants as prepare
use Rattle.classifier.specs.declared.summary.Summary.{Summary}
use Rattle.cqapri_words.specs.Refusals.{status_of}
use Rattle.cqapri_words.specs.Requests as request
use Rattle.cqapri_words.specs.Requests.{AskFor, HaveOneMeaning, NameNothing, Request}
use Rattle.cqapri_words.specs.Words.{FileNames, Settings, default_settings}
use Rattle.cqapri_words.specs.declared.files.File.{File}
use Rattle.cqapri_words.specs.declared.files.File.TheVariants as file
use Rattle.cqapri_words.specs.declared.refusal.Refusal.{Refusal}
use Rattle.cqapri_words.specs.declared.refusal.Refusal.TheVariants as refusal
use Rattle.cqapri_words.specs.declared.status.Status.{Status}
use Rattle.cqapri_words.specs.declared.status.Status.TheVariants as status
use Rattle.input_files.specs.Ends.{IsOf}
use Rattle.input_files.specs.Fetching.{Held, is_fault}
use Rattle.cqapri_cli.specs.Bench.{CountsBench, LeavesBench, bench_held, bench_names, never_failing}
use Rattle.cqapri_cli.specs.Complete.{IsComplete, IsExact}
use Rattle.cqapri_cli.specs.EndLaws.{AreOneEnd, EachEndIsOne, NamesCycle, SaysOfFiles}
use Rattle.cqapri_cli.specs.Ends.{IsEnd, StopsClassify, StopsConfirm, WritesNothing, is_of_output, is_read_status, is_write_status}
use Rattle.cqapri_cli.specs.Jobs.{Achieves, Explains, IsAchieved, IsRefused, Leaves, LeavesFirst, LeavesNoneOrFirst, Stops}
use Rattle.cqapri_cli.specs.Leaving.{LeavesClassify, LeavesConfirm}
use Rattle.cqapri_cli.specs.Limits.{IsWithinLimits, refusal_of_preparing}
use Rattle.cqapri_cli.specs.Reading.{SaySome}
use Rattle.cqapri_cli.specs.TableLaws.{EachTableEndIsOne}
use Rattle.cqapri_cli.specs.Tables.{LeavesTable, StopsTable}
use Rattle.cqapri_cli.specs.Verdicts.{verdict_status}
use Rattle.cqapri_cli.proofs.JobLemmas.{of_request}

-- ---- statuses

-- a refusal ends with no status of an end
pub never_end : (r : Refusal) → IsEnd (status_of r) → ⊥
never_end refusal.Words (inl e) = absurd (let both = e in cc)
never_end refusal.Words (inr e) = absurd (let both = e in cc)
never_end (refusal.NotThere f) (inl e) = absurd (let both = e in cc)
never_end (refusal.NotThere f) (inr e) = absurd (let both = e in cc)
never_end (refusal.Faulty wrong) (inl e) = absurd (let both = e in cc)
never_end (refusal.Faulty wrong) (inr e) = absurd (let both = e in cc)
never_end (refusal.Limit beyond) (inl e) = absurd (let both = e in cc)
never_end (refusal.Limit beyond) (inr e) = absurd (let both = e in cc)
never_end (refusal.Cycle cycle) (inl e) = absurd (let both = e in cc)
never_end (refusal.Cycle cycle) (inr e) = absurd (let both = e in cc)
never_end (refusal.ReadFault f) (inl e) = absurd (let both = e in cc)
never_end (refusal.ReadFault f) (inr e) = absurd (let both = e in cc)
never_end refusal.WriteFault (inl e) = absurd (let both = e in cc)
never_end refusal.WriteFault (inr e) = absurd (let both = e in cc)
never_end refusal.NoMemory (inl e) = absurd (let both = e in cc)
never_end refusal.NoMemory (inr e) = absurd (let both = e in cc)

-- an end is none of these
pub end_not : (s t : Status) → IsEnd s → t ≢ status.Done → t ≢ status.Open → s ≡ t → ⊥
end_not s t (inl e) d o same = d (sym same ∙ e)
end_not s t (inr e) d o same = o (sym same ∙ e)

-- and counts no fault
pub end_no_fault : (s : Status) → IsEnd s → (is_read_status s ≡ false) × (is_write_status s ≡ false)
end_no_fault s (inl e) = (ap is_read_status e, ap is_write_status e)
end_no_fault s (inr e) = (ap is_read_status e, ap is_write_status e)

pub end_writes : {P : Type 0} (s : Status) → IsEnd s → WritesNothing s → P
end_writes s (inl e) n = absurd (n.0 e)
end_writes s (inr e) n = absurd (n.1 e)

-- the statuses of faults are those of the refusals that are faults
pub read_status : (r : Refusal) → is_read_status (status_of r) ≡ is_fault r
read_status refusal.Words = refl
read_status (refusal.NotThere f) = refl
read_status (refusal.Faulty wrong) = refl
read_status (refusal.Limit beyond) = refl
read_status (refusal.Cycle cycle) = refl
read_status (refusal.ReadFault f) = refl
read_status refusal.WriteFault = refl
read_status refusal.NoMemory = refl

pub write_status : (r : Refusal) → is_write_status (status_of r) ≡ is_of_output r
write_status refusal.Words = refl
write_status (refusal.NotThere f) = refl
write_status (refusal.Faulty wrong) = refl
write_status (refusal.Limit beyond) = refl
write_status (refusal.Cycle cycle) = refl
write_status (refusal.ReadFault f) = refl
write_status refusal.WriteFault = refl
write_status refusal.NoMemory = refl

-- only the words end with their status
words_of_status : (r : Refusal) → status_of r ≡ status.Words → r ≡ refusal.Words
words_of_status refusal.Words e = refl
words_of_status (refusal.NotThere f) e = absurd (let both = e in cc)
words_of_status (refusal.Faulty wrong) e = absurd (let both = e in cc)
words_of_status (refusal.Limit beyond) e = absurd (let both = e in cc)
words_of_status (refusal.Cycle cycle) e = absurd (let both = e in cc)
words_of_status (refusal.ReadFault f) e = absurd (let both = e in cc)
words_of_status refusal.WriteFault e = absurd (let both = e in cc)
words_of_status refusal.NoMemory e = absurd (let both = e in cc)

cycle_status : (r : Refusal) → NamesCycle r → status_of r ≡ status.Refused
cycle_status (refusal.Cycle cycle) n = refl
cycle_status refusal.Words n = absurd n
cycle_status (refusal.NotThere f) n = absurd n
cycle_status (refusal.Faulty wrong) n = absurd n
cycle_status (refusal.Limit beyond) n = absurd n
cycle_status (refusal.ReadFault f) n = absurd n
cycle_status refusal.WriteFault n = absurd n
cycle_status refusal.NoMemory n = absurd n

same_status : (r s : Refusal) → AreOneEnd r s → status_of r ≡ status_of s
same_status r s (inl e) = ap status_of e
same_status r s (inr (a, b)) = cycle_status r a ∙ sym (cycle_status s b)

-- ---- no job ends by its words

file_not_words : (f : File) (r : Refusal) → IsOf f r → r ≡ refusal.Words → ⊥
file_not_words f r o e = subst (IsOf f) e o

preparing_not_words : (facts : List Fact) (vocab : Vocab) (why : PrepareRefusal) → refusal_of_preparing facts vocab why ≡ refusal.Words → ⊥
preparing_not_words facts vocab prepare.Members e = absurd (let both = e in cc)
preparing_not_words facts vocab prepare.Conflicts e = absurd (let both = e in cc)
preparing_not_words facts vocab (prepare.Cycle numbers) e = absurd (let both = e in cc)
preparing_not_words facts vocab prepare.Supports e = absurd (let both = e in cc)
preparing_not_words facts vocab prepare.NoMemory e = absurd (let both = e in cc)

classify_not_words : (holds : Option Held) (failing : Option Failing) (names : FileNames) (settings : Settings) (r : Refusal)
    → StopsClassify holds failing names settings r → r ≡ refusal.Words → ⊥
classify_not_words holds failing names settings r (inl m) e = let both = sym m ∙ e in absurd (cc)
classify_not_words holds failing names settings r (inr (inl w)) e = file_not_words w.ends.0 r w.ends.1.of_file e
classify_not_words holds failing names settings r (inr (inr (inl (kb, q, vocab, says, fetched, (why, w, is))))) e =
    preparing_not_words kb.facts vocab why (sym is ∙ e)
classify_not_words holds failing names settings r (inr (inr (inr (m, w)))) e = let both = sym m ∙ e in absurd (cc)

confirm_not_words : (holds : Option Held) (failing : Option Failing) (names : FileNames) (name : List ℕ) (r : Refusal)
    → StopsConfirm holds failing names name r → r ≡ refusal.Words → ⊥
confirm_not_words holds failing names name r (inl m) e = let both = sym m ∙ e in absurd (cc)
confirm_not_words holds failing names name r (inr (inl w)) e = file_not_words w.ends.0 r w.ends.1.of_file e
confirm_not_words holds failing names name r (inr (inr (inl (w, x)))) e = subst (IsOf _) e w.of_report
confirm_not_words holds failing names name r (inr (inr (inr (inl w)))) e = let both = sym w.is_cycle ∙ e in absurd (cc)
confirm_not_words holds failing names name r (inr (inr (inr (inr (m, verdict, x))))) e = let both = sym m ∙ e in absurd (cc)

table_not_words : (holds : Option Held) (failing : Option Failing) (name : List ℕ) (r : Refusal) → StopsTable holds failing name r → r ≡ refusal.Words → ⊥
table_not_words holds failing name r (inl m) e = let both = sym m ∙ e in absurd (cc)
table_not_words holds failing name r (inr (inl w)) e = file_not_words file.Report r w.of_report e
table_not_words holds failing name r (inr (inr (inl w))) e = let both = sym w.is ∙ e in absurd (cc)
table_not_words holds failing name r (inr (inr (inr (m, report, w)))) e = let both = sym m ∙ e in absurd (cc)

stops_not_words : (holds : Option Held) (failing : Option Failing) (r : Refusal) (q : Request) → Stops holds failing r q → r ≡ refusal.Words → ⊥
stops_not_words holds failing r (request.classify names settings) w e = classify_not_words holds failing names settings r w e
stops_not_words holds failing r (request.confirm names name) w e = confirm_not_words holds failing names name r w e
stops_not_words holds failing r (request.table name) w e = table_not_words holds failing name r w e
stops_not_words holds failing r (request.bench size) w e =
    classify_not_words (Some (bench_held size)) (Some never_failing) bench_names default_settings r w e

-- a refusal has the status of the words only where they ask for nothing, and where they do, that or memory ran out
pub words_refused : (holds : Option Held) (failing : Option Failing) (words : List (List ℕ)) (r : Refusal) → Explains holds failing words r
    → status_of r ≡ status.Words → NameNothing words
words_refused holds failing words r (inl (e, nothing)) s = nothing
words_refused holds failing words r (inr (inl e)) s = absurd (let both = sym e ∙ words_of_status r s in cc)
words_refused holds failing words r (inr (inr (q, w, stops))) s = absurd (stops_not_words holds failing r q stops (words_of_status r s))

pub no_job_refused : (holds : Option Held) (failing : Option Failing) (words : List (List ℕ)) (r : Refusal) → Explains holds failing words r
    → NameNothing words → (status_of r ≡ status.Words) ⊎ (status_of r ≡ status.NoMemory)
no_job_refused holds failing words r (inl (e, nothing)) n = inl (ap status_of e)
no_job_refused holds failing words r (inr (inl e)) n = inr (ap status_of e)
no_job_refused holds failing words r (inr (inr (q, w, stops))) n = absurd (n q w)

-- the same of the status of a run
pub by_status : (r : Refusal) (s : Status) → s ≡ status_of r → (status_of r ≡ status.Words) ⊎ (status_of r ≡ status.NoMemory)
    → (s ≡ status.Words) ⊎ (s ≡ status.NoMemory)
by_status r s e (inl d) = inl (e ∙ d)
by_status r s e (inr d) = inr (e ∙ d)

-- ---- what is written

write_refusal : (r : Refusal) → status_of r ≡ status.WriteFault → r ≡ refusal.WriteFault
write_refusal refusal.Words e = absurd (let both = e in cc)
write_refusal (refusal.NotThere f) e = absurd (let both = e in cc)
write_refusal (refusal.Faulty wrong) e = absurd (let both = e in cc)
write_refusal (refusal.Limit beyond) e = absurd (let both = e in cc)
write_refusal (refusal.Cycle cycle) e = absurd (let both = e in cc)
write_refusal (refusal.ReadFault f) e = absurd (let both = e in cc)
write_refusal refusal.WriteFault e = refl
write_refusal refusal.NoMemory e = absurd (let both = e in cc)

memory_refusal : (r : Refusal) → status_of r ≡ status.NoMemory → r ≡ refusal.NoMemory
memory_refusal refusal.Words e = absurd (let both = e in cc)
memory_refusal (refusal.NotThere f) e = absurd (let both = e in cc)
memory_refusal (refusal.Faulty wrong) e = absurd (let both = e in cc)
memory_refusal (refusal.Limit beyond) e = absurd (let both = e in cc)
memory_refusal (refusal.Cycle cycle) e = absurd (let both = e in cc)
memory_refusal (refusal.ReadFault f) e = absurd (let both = e in cc)
memory_refusal refusal.WriteFault e = absurd (let both = e in cc)
memory_refusal refusal.NoMemory e = refl

module _ (holds : Option Held) (failing : Option Failing) (old new : Option (List ℕ)) where
  -- what is left after a write fault, and where memory ran out
  first_of : (q : Request) → Leaves holds failing old new refusal.WriteFault q → LeavesFirst holds failing old new q
  first_of (request.classify names settings) w = w
  first_of (request.confirm names name) w = w
  first_of (request.table name) w = w
  first_of (request.bench size) w = w

  none_or_first_of : (q : Request) → Leaves holds failing old new refusal.NoMemory q → LeavesNoneOrFirst holds failing old new q
  none_or_first_of (request.classify names settings) w = w
  none_or_first_of (request.confirm names name) w = w
  none_or_first_of (request.table name) w = w
  none_or_first_of (request.bench size) w = w

  none_of : (q : Request) → new ≡ old → LeavesNoneOrFirst holds failing old new q
  none_of (request.classify names settings) e = inl e
  none_of (request.confirm names name) e = e
  none_of (request.table name) e = inl e
  none_of (request.bench size) e = e

  -- nothing is left where the status says so
  classify_unwritten : (names : FileNames) (settings : Settings) → (r : Refusal) → WritesNothing (status_of r)
      → LeavesClassify holds failing names settings old new r → new ≡ old
  classify_unwritten names settings refusal.Words n w = w
  classify_unwritten names settings (refusal.NotThere f) n w = w
  classify_unwritten names settings (refusal.Faulty wrong) n w = w
  classify_unwritten names settings (refusal.Limit beyond) n w = w
  classify_unwritten names settings (refusal.Cycle cycle) n w = w
  classify_unwritten names settings (refusal.ReadFault f) n w = w
  classify_unwritten names settings refusal.WriteFault n w = absurd (n.2 refl)
  classify_unwritten names settings refusal.NoMemory n w = absurd (n.3 refl)

  confirm_unwritten : (names : FileNames) (name : List ℕ) → (r : Refusal) → WritesNothing (status_of r)
      → LeavesConfirm holds failing names name old new r → new ≡ old
  confirm_unwritten names name refusal.Words n w = w
  confirm_unwritten names name (refusal.NotThere f) n w = w
  confirm_unwritten names name (refusal.Faulty wrong) n w = w
  confirm_unwritten names name (refusal.Limit beyond) n w = w
  confirm_unwritten names name (refusal.Cycle cycle) n w = w
  confirm_unwritten names name (refusal.ReadFault f) n w = w
  confirm_unwritten names name refusal.WriteFault n w = absurd (n.2 refl)
  confirm_unwritten names name refusal.NoMemory n w = w

  table_unwritten : (name : List ℕ) → (r : Refusal) → WritesNothing (status_of r) → LeavesTable holds failing name old new r → new ≡ old
  table_unwritten name refusal.Words n w = w
  table_unwritten name (refusal.NotThere f) n w = w
  table_unwritten name (refusal.Faulty wrong) n w = w
  table_unwritten name (refusal.Limit beyond) n w = w
  table_unwritten name (refusal.Cycle cycle) n w = w
  table_unwritten name (refusal.ReadFault f) n w = w
  table_unwritten name refusal.WriteFault n w = absurd (n.2 refl)
  table_unwritten name refusal.NoMemory n w = absurd (n.3 refl)

  bench_unwritten : (size : ℕ) → (r : Refusal) → WritesNothing (status_of r) → LeavesBench size old new r → new ≡ old
  bench_unwritten size refusal.Words n w = w
  bench_unwritten size (refusal.NotThere f) n w = w
  bench_unwritten size (refusal.Faulty wrong) n w = w
  bench_unwritten size (refusal.Limit beyond) n w = w
  bench_unwritten size (refusal.Cycle cycle) n w = w
  bench_unwritten size (refusal.ReadFault f) n w = w
  bench_unwritten size refusal.WriteFault n w = absurd (n.2 refl)
  bench_unwritten size refusal.NoMemory n w = w

  left_unwritten : (q : Request) (r : Refusal) → WritesNothing (status_of r) → Leaves holds failing old new r q → new ≡ old
  left_unwritten (request.classify names settings) r n w = classify_unwritten names settings r n w
  left_unwritten (request.confirm names name) r n w = confirm_unwritten names name r n w
  left_unwritten (request.table name) r n w = table_unwritten name r n w
  left_unwritten (request.bench size) r n w = bench_unwritten size r n w

  module _ (words : List (List ℕ)) where
    pub unwritten : (r : Refusal) → WritesNothing (status_of r) → IsRefused holds failing words old new r → new ≡ old
    unwritten r n (inl (e, nothing, same)) = same
    unwritten r n (inr (inl (e, same))) = same
    unwritten r n (inr (inr (q, w, stops, left))) = left_unwritten q r n left

    -- why it ends
    pub explained : (r : Refusal) → IsRefused holds failing words old new r → Explains holds failing words r
    explained r (inl (e, nothing, same)) = inl (e, nothing)
    explained r (inr (inl (e, same))) = inr (inl e)
    explained r (inr (inr (q, w, stops, left))) = inr (inr (q, w, stops))

    module _ (meaning : HaveOneMeaning) where
      -- what the job of the words has done or left, that of all that they mean has
      pub achieved : (s : Status) → IsAchieved holds failing words old new s → (other : Request) → AskFor words other
          → Achieves holds failing old new s other
      achieved s (q, w, a) other v = of_request meaning words q other w v (Achieves holds failing old new s) a

      pub part : (r : Refusal) → status_of r ≡ status.WriteFault → IsRefused holds failing words old new r → (other : Request) → AskFor words other
          → LeavesFirst holds failing old new other
      part r e (inl (is, nothing, same)) other v = absurd (nothing other v)
      part r e (inr (inl (m, same))) other v = absurd (let both = sym m ∙ write_refusal r e in cc)
      part r e (inr (inr (q, w, stops, left))) other v =
          of_request meaning words q other w v (LeavesFirst holds failing old new)
          (first_of q (subst (λ (x : Refusal). Leaves holds failing old new x q) (write_refusal r e) left))

      pub none_or_part : (r : Refusal) → status_of r ≡ status.NoMemory → IsRefused holds failing words old new r → (other : Request)
          → AskFor words other → LeavesNoneOrFirst holds failing old new other
      none_or_part r e (inl (is, nothing, same)) other v = absurd (nothing other v)
      none_or_part r e (inr (inl (m, same))) other v = none_of other same
      none_or_part r e (inr (inr (q, w, stops, left))) other v =
          of_request meaning words q other w v (LeavesNoneOrFirst holds failing old new)
          (none_or_first_of q (subst (λ (x : Refusal). Leaves holds failing old new x q) (memory_refusal r e) left))

-- ---- completeness

-- no fault was counted, so the call didn't fail
not_failed : (old new : ℕ) (failed : Bool) → TellsFault old new failed → ¬ Rose old new → failed ≡ false
not_failed old new true w n = absurd (n w.rose)
not_failed old new false w n = refl

-- without faults a refusal says something of the files, or memory ran out, or it is that of the words
kind_of : (r : Refusal) → is_fault r ≡ false → is_of_output r ≡ false → SaysOfFiles r ⊎ ((r ≡ refusal.NoMemory) ⊎ (r ≡ refusal.Words))
kind_of refusal.Words f o = inr (inr refl)
kind_of refusal.NoMemory f o = inr (inl refl)
kind_of (refusal.NotThere g) f o = inl tt
kind_of (refusal.Faulty wrong) f o = inl tt
kind_of (refusal.Limit beyond) f o = inl tt
kind_of (refusal.Cycle cycle) f o = inl tt
kind_of (refusal.ReadFault g) f o = absurd (true≢false f)
kind_of refusal.WriteFault f o = absurd (true≢false o)

-- right counts are of texts that no limit refuses
served_texts : (size : ℕ) (counts : Summary) → CountsBench size counts
    → SaySome (Some (bench_held size)) (Some never_failing) bench_names (λ kb q vocab. IsWithinLimits kb q default_settings)
served_texts size counts (kb, q, vocab, say, fetched, both) = (kb, q, vocab, say, fetched, both.0)

module _ (laws : EachEndIsOne) (tables : EachTableEndIsOne) (failing : Option Failing) (words : List (List ℕ)) (meaning : HaveOneMeaning) where
  -- at an end
  exact_end : (held : Held) (old new : Option (List ℕ)) (s : Status) → IsEnd s → (q : Request) → Achieves (Some held) failing old new s q → IsExact held s q
  exact_end held old new s end (request.classify names settings) a = record {
    served = λ some. end;
    refused = λ r says stops. absurd ((laws.classify held names settings).none None failing r says stops (a.kb, a.q, a.vocab, a.say, a.fetched, a.within));
  }
  exact_end held old new s end (request.confirm names name) a = record {
    judged = λ verdict right. a.ends_so ∙ ap verdict_status ((laws.confirm held names name).verdict failing None a.verdict verdict a.judges right);
    refused = λ r says stops. absurd ((laws.confirm held names name).none None failing r a.verdict says stops a.judges);
  }
  exact_end held old new s end (request.table name) a = record {
    whole = λ report w. a.ends_so;
    refused = λ r says stops. absurd ((tables held name).none None failing r a.report says stops a.is_whole);
  }
  exact_end held old new s end (request.bench size) (done, printed) = record {
    served = λ some. done;
    refused = λ r says stops. absurd ((laws.classify (bench_held size) bench_names default_settings).none (Some never_failing) (Some never_failing) r says stops
        (served_texts size printed.0 printed.1));
  }

  pub complete_end : (A B : Type 0) (holds : Option Held) (old new : Option (List ℕ)) (s : Status) → IsEnd s
      → IsAchieved holds failing words old new s → IfSome holds (λ held. A → B → IsComplete held words s)
  complete_end A B None old new s end a = tt
  complete_end A B (Some held) old new s end a = λ m n other w. inr
      (exact_end held old new s end other (achieved (Some held) failing old new words meaning s a other w))

  -- by a refusal that says something of the files
  exact_refused : (held : Held) (r : Refusal) → SaysOfFiles r → (q : Request) → Stops (Some held) failing r q → IsExact held (status_of r) q
  exact_refused held r says (request.classify names settings) stops = record {
    served = λ some. absurd ((laws.classify held names settings).none failing None r says stops some);
    refused = λ t d w. same_status r t ((laws.classify held names settings).one failing None r t says d stops w);
  }
  exact_refused held r says (request.confirm names name) stops = record {
    judged = λ verdict right. absurd ((laws.confirm held names name).none failing None r verdict says stops right);
    refused = λ t d w. same_status r t ((laws.confirm held names name).one failing None r t says d stops w);
  }
  exact_refused held r says (request.table name) stops = record {
    whole = λ report w. absurd ((tables held name).none failing None r report says stops w);
    refused = λ t d w. ap status_of ((tables held name).one failing None r t says d stops w);
  }
  exact_refused held r says (request.bench size) stops = record {
    served = λ some. absurd ((laws.classify (bench_held size) bench_names default_settings).none (Some never_failing) (Some never_failing) r says stops some);
    refused = λ t d w. same_status r t
        ((laws.classify (bench_held size) bench_names default_settings).one (Some never_failing) (Some never_failing) r t says d stops w);
  }

  -- by any that is no fault
  exact_or_memory : (held : Held) (r : Refusal) → SaysOfFiles r ⊎ ((r ≡ refusal.NoMemory) ⊎ (r ≡ refusal.Words)) → (q : Request)
      → Stops (Some held) failing r q → (status_of r ≡ status.NoMemory) ⊎ IsExact held (status_of r) q
  exact_or_memory held r (inl says) q stops = inr (exact_refused held r says q stops)
  exact_or_memory held r (inr (inl e)) q stops = inl (ap status_of e)
  exact_or_memory held r (inr (inr e)) q stops = absurd (stops_not_words (Some held) failing r q stops e)

  explained_complete : (held : Held) (r : Refusal) → SaysOfFiles r ⊎ ((r ≡ refusal.NoMemory) ⊎ (r ≡ refusal.Words))
      → Explains (Some held) failing words r → IsComplete held words (status_of r)
  explained_complete held r kind (inl (e, nothing)) other w = absurd (nothing other w)
  explained_complete held r kind (inr (inl e)) other w = inl (ap status_of e)
  explained_complete held r kind (inr (inr (q, v, stops))) other w =
      of_request meaning words q other v w (λ (x : Request). (status_of r ≡ status.NoMemory) ⊎ IsExact held (status_of r) x)
      (exact_or_memory held r kind q stops)

  -- at a refusal, where no fault was counted
  pub complete_refused : (holds : Option Held) (s : Status) (r : Refusal) → s ≡ status_of r → Explains holds failing words r
      → (read reads wrote writes : ℕ) → TellsFault read reads (is_fault r) → TellsFault wrote writes (is_of_output r)
      → IfSome holds (λ held. ¬ Rose read reads → ¬ Rose wrote writes → IsComplete held words s)
  complete_refused None s r e w read reads wrote writes f g = tt
  complete_refused (Some held) s r e w read reads wrote writes f g = λ m n.
      subst (IsComplete held words) (sym e) (explained_complete held r (kind_of r (not_failed read reads (is_fault r) f m)
      (not_failed wrote writes (is_of_output r) g n)) w)
