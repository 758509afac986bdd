-- How a job stops: what it tells of the files, and what it leaves in the output.
use Rattle.std.proofs.Common.{◌≡◌, inl, inr, ℕ, zero, suc, List, [], length, Option, Some, IfSome, Result, Ok, Err, IfErr, false, refl, sym, ap, ◌∙◌}
use Rattle.std.proofs.Common.{subst, arith}
use Rattle.std.specs.Prelude.{OnErr}
use Rattle.std.specs.Result.{IsErrAnd}
use Rattle.std.proofs.lemmas.List.{take_all}
use Rattle.std.proofs.lemmas.Result.{err_from_is_err_and}
use Rattle.cq_io.specs.Failing.{Failing, after_fetch}
use Rattle.cq_io.specs.Faults.{TellsFault}
use Rattle.cq_io.specs.Writing.{appended}
use Rattle.cq_terms.specs.Knowledge.{Knowledge}
use Rattle.cq_terms.specs.Query.{Query}
use Rattle.cq_terms.specs.declared.names.Vocab.{Vocab}
use Rattle.refutation_confirmer.specs.Saying.{Says}
use Rattle.refutation_confirmer.specs.declared.confirmed.Confirmed.{Confirmed}
use Rattle.cqapri_words.specs.Pieces.{AppendsFirst}
use Rattle.cqapri_words.specs.Words.{FileNames, Settings}
use Rattle.cqapri_words.specs.declared.files.File.{File}
use Rattle.cqapri_words.specs.declared.files.File.TheVariants as file
use Rattle.cqapri_words.specs.declared.refusal.Refusal.{Refusal}
use Rattle.cqapri_words.specs.declared.refusal.Refusal.TheVariants as refusal
use Rattle.cqapri_words.specs.declared.status.Status.{Status}
use Rattle.input_files.specs.declared.input.Input.{Input}
use Rattle.input_files.specs.Ends.{EndsBy, IsOf, place_of}
use Rattle.input_files.specs.Fetching.{Held, Succeed, TellsNext, after_fetches, is_fault, is_read_fault}
use Rattle.input_files.specs.Inputs.{StopsFiles, StopsReport}
use Rattle.input_files.specs.Meaning.{FilesSay, IsFetchedReport}
use Rattle.cqapri_cli.specs.Ends.{StopsClassify, StopsConfirm, is_of_output, is_write_fault}
use Rattle.cqapri_cli.specs.Headline.{Answers, TellsRightReport}
use Rattle.cqapri_cli.specs.Leaving.{IsOfPreparing, IsOfWriting, LeavesClassify, LeavesConfirm}
use Rattle.cqapri_cli.specs.Limits.{IsWithinLimits, StopsPreparing}
use Rattle.cqapri_cli.specs.Parts.{TellsRightLines, WritesPart}
use Rattle.cqapri_cli.specs.Reading.{AreFetched}
use Rattle.cqapri_cli.specs.Verdicts.{IsToConfirm, Judges, StopsJudging}

-- the error that a `?` passes on
pub IfErr-of : {T E : Type 0} (P Q : E → Type 0) (r : Result T E) → IsErrAnd r Q → ((e : E) → Q e → P e) → IfErr r P
IfErr-of P Q (Ok x) h weaker = tt
IfErr-of P Q (Err e) h weaker = weaker e h

pub OnErr-of : {T E P : Type 0} (r : Result T E) → P → OnErr r P
OnErr-of (Ok x) p = tt
OnErr-of (Err e) p = p

-- all bytes are first ones of them
pub all_first : (old mid new : Option (List ℕ)) (bytes : List ℕ) → mid ≡ appended old bytes → new ≡ mid → AppendsFirst old new bytes
all_first old mid new bytes e d = (length bytes, d ∙ e ∙ ap (appended old) (sym (take_all (length bytes) bytes (omega arith))))

-- ---- a classification

module _ (holds : Option Held) (failing : Option Failing) (names : FileNames) (settings : Settings) where
  -- by a file
  pub stops_reading : (r : Refusal) → IfSome holds (λ held. StopsFiles held names r) → (after : Option Failing) → EndsBy names r failing after
      → StopsClassify holds failing names settings r
  stops_reading r files after ends = inr (inl (record { files = files; after = after; ends = ends }))

  -- behind the files
  pub stops_preparing : (kb : Knowledge) (q : Query) (vocab : Vocab) → FilesSay holds names kb q vocab → AreFetched failing names → (r : Refusal)
      → StopsPreparing kb q vocab settings r → StopsClassify holds failing names settings r
  stops_preparing kb q vocab says fetched r w = inr (inr (inl (kb, q, vocab, says, fetched, w)))

  -- at the output
  pub stops_writing : (kb : Knowledge) (q : Query) (vocab : Vocab) → FilesSay holds names kb q vocab → AreFetched failing names
      → IsWithinLimits kb q settings → (r : Refusal) → IsOfWriting r → StopsClassify holds failing names settings r
  stops_writing kb q vocab says fetched within refusal.WriteFault o = inr (inr (inr (refl, (kb, q, vocab, says, fetched, within))))
  stops_writing kb q vocab says fetched within refusal.NoMemory o = inl refl
  stops_writing kb q vocab says fetched within refusal.Words o = absurd o
  stops_writing kb q vocab says fetched within (refusal.NotThere f) o = absurd o
  stops_writing kb q vocab says fetched within (refusal.Faulty wrong) o = absurd o
  stops_writing kb q vocab says fetched within (refusal.Limit beyond) o = absurd o
  stops_writing kb q vocab says fetched within (refusal.Cycle cycle) o = absurd o
  stops_writing kb q vocab says fetched within (refusal.ReadFault f) o = absurd o

  module _ (old new : Option (List ℕ)) where
    -- a file leaves the output as it was
    pub leaves_file : (f : File) (r : Refusal) → IsOf f r → new ≡ old → LeavesClassify holds failing names settings old new r
    leaves_file f refusal.WriteFault o e = absurd o
    leaves_file f refusal.NoMemory o e = inl e
    leaves_file f refusal.Words o e = e
    leaves_file f (refusal.NotThere g) o e = e
    leaves_file f (refusal.Faulty wrong) o e = e
    leaves_file f (refusal.Limit beyond) o e = e
    leaves_file f (refusal.Cycle cycle) o e = e
    leaves_file f (refusal.ReadFault g) o e = e

    -- and so does what comes before the first line
    pub leaves_preparing : (r : Refusal) → IsOfPreparing r → new ≡ old → LeavesClassify holds failing names settings old new r
    leaves_preparing refusal.WriteFault o e = absurd o
    leaves_preparing refusal.NoMemory o e = inl e
    leaves_preparing refusal.Words o e = e
    leaves_preparing (refusal.NotThere g) o e = e
    leaves_preparing (refusal.Faulty wrong) o e = e
    leaves_preparing (refusal.Limit beyond) o e = e
    leaves_preparing (refusal.Cycle cycle) o e = e
    leaves_preparing (refusal.ReadFault g) o e = e

    -- what comes behind it leaves a part
    pub leaves_writing : (r : Refusal) → IsOfWriting r → WritesPart holds failing names settings old new → LeavesClassify holds failing names settings old new r
    leaves_writing refusal.WriteFault o w = w
    leaves_writing refusal.NoMemory o w = inr w
    leaves_writing refusal.Words o w = absurd o
    leaves_writing (refusal.NotThere g) o w = absurd o
    leaves_writing (refusal.Faulty wrong) o w = absurd o
    leaves_writing (refusal.Limit beyond) o w = absurd o
    leaves_writing (refusal.Cycle cycle) o w = absurd o
    leaves_writing (refusal.ReadFault g) o w = absurd o

-- a refusal that comes before the first line is none of the shelf and none of the output
pub preparing_no_fault : (r : Refusal) → IsOfPreparing r → (is_fault r ≡ false) × (is_of_output r ≡ false)
preparing_no_fault refusal.WriteFault o = absurd o
preparing_no_fault refusal.NoMemory o = (refl, refl)
preparing_no_fault refusal.Words o = absurd o
preparing_no_fault (refusal.NotThere g) o = absurd o
preparing_no_fault (refusal.Faulty wrong) o = absurd o
preparing_no_fault (refusal.Limit beyond) o = (refl, refl)
preparing_no_fault (refusal.Cycle cycle) o = (refl, refl)
preparing_no_fault (refusal.ReadFault g) o = absurd o

-- one of writing is none of the shelf
pub writing_no_fault : (r : Refusal) → IsOfWriting r → is_fault r ≡ false
writing_no_fault refusal.WriteFault o = refl
writing_no_fault refusal.NoMemory o = refl
writing_no_fault refusal.Words o = absurd o
writing_no_fault (refusal.NotThere g) o = absurd o
writing_no_fault (refusal.Faulty wrong) o = absurd o
writing_no_fault (refusal.Limit beyond) o = absurd o
writing_no_fault (refusal.Cycle cycle) o = absurd o
writing_no_fault (refusal.ReadFault g) o = absurd o

-- one of a file is none of the output
pub file_no_output : (f : File) (r : Refusal) → IsOf f r → is_of_output r ≡ false
file_no_output f refusal.WriteFault o = absurd o
file_no_output f refusal.NoMemory o = refl
file_no_output f refusal.Words o = refl
file_no_output f (refusal.NotThere g) o = refl
file_no_output f (refusal.Faulty wrong) o = refl
file_no_output f (refusal.Limit beyond) o = refl
file_no_output f (refusal.Cycle cycle) o = refl
file_no_output f (refusal.ReadFault g) o = refl

-- ---- a confirmation

-- one fetch more
pub one_more_succeeds : (count : ℕ) (failing : Option Failing) → Succeed count failing → TellsNext (after_fetches count failing) false
    → Succeed (suc count) failing
one_more_succeeds zero failing w next = (next, tt)
one_more_succeeds (suc count) failing w next = (w.0, one_more_succeeds count (after_fetch failing) w.1 next)

module _ (holds : Option Held) (failing : Option Failing) (names : FileNames) (name : List ℕ) where
  pub confirm_stops_reading : (r : Refusal) → IfSome holds (λ held. StopsFiles held names r) → (after : Option Failing) → EndsBy names r failing after
      → StopsConfirm holds failing names name r
  confirm_stops_reading r files after ends = inr (inl (record { files = files; after = after; ends = ends }))

  -- by the report
  pub stops_fetching : (kb : Knowledge) (q : Query) (vocab : Vocab) → FilesSay holds names kb q vocab → AreFetched failing names
      → (r : Refusal) → IfSome holds (λ held. StopsReport held name r) → IsOf file.Report r
      → TellsNext (after_fetches (place_of names file.Report) failing) (is_fault r) → StopsConfirm holds failing names name r
  stops_fetching kb q vocab says fetched r report of_report own =
      inr (inr (inl (record { report = report; of_report = of_report; own = own }, (kb, q, vocab, says, fetched, tt))))

  module _ (kb : Knowledge) (q : Query) (vocab : Vocab) (report : List ℕ) (read : IsToConfirm holds failing names name kb q vocab report) where
    -- by a cycle
    pub stops_judging : (r : Refusal) → StopsJudging kb q vocab report r → StopsConfirm holds failing names name r
    stops_judging r (inl m) = inl m
    stops_judging r (inr (numbers, tells, is)) = inr (inr (inr (inl (record {
      kb = kb;
      q = q;
      vocab = vocab;
      report = report;
      read = read;
      numbers = numbers;
      tells = tells;
      is_cycle = is;
    }))))

    pub judges : (verdict : Confirmed) → Says kb vocab.inds q report verdict → Judges holds failing names name verdict
    judges verdict says = record { kb = kb; q = q; vocab = vocab; report = report; read = read; right = says }

  -- at the output
  pub confirm_stops_writing : (verdict : Confirmed) → Judges holds failing names name verdict → StopsConfirm holds failing names name refusal.WriteFault
  confirm_stops_writing verdict w = inr (inr (inr (inr (refl, verdict, w))))

  -- a refusal that is none of the output leaves it as it was
  pub confirm_leaves : (old new : Option (List ℕ)) (r : Refusal) → is_of_output r ≡ false → new ≡ old → LeavesConfirm holds failing names name old new r
  confirm_leaves old new refusal.WriteFault o e = absurd (let both = o in cc)
  confirm_leaves old new refusal.NoMemory o e = e
  confirm_leaves old new refusal.Words o e = e
  confirm_leaves old new (refusal.NotThere g) o e = e
  confirm_leaves old new (refusal.Faulty wrong) o e = e
  confirm_leaves old new (refusal.Limit beyond) o e = e
  confirm_leaves old new (refusal.Cycle cycle) o e = e
  confirm_leaves old new (refusal.ReadFault g) o e = e

-- a refusal of judging is none of the shelf and none of the output
pub judging_no_fault : (kb : Knowledge) (q : Query) (vocab : Vocab) (report : List ℕ) (r : Refusal) → StopsJudging kb q vocab report r
    → (is_fault r ≡ false) × (is_of_output r ≡ false)
judging_no_fault kb q vocab report r (inl m) = (ap is_fault m, ap is_of_output m)
judging_no_fault kb q vocab report r (inr (numbers, tells, is)) = (ap is_fault is, ap is_of_output is)

-- ---- what a `?` passes on counts no fault where its error is none

pub read_unfailed : {T : Type 0} (r : Result T Refusal) (e : Refusal) → IsErrAnd r (λ d. d ≡ e) → is_fault e ≡ false → (old new : ℕ) → new ≡ old
    → TellsFault old new (is_read_fault r)
read_unfailed (Ok x) e h o old new same = same
read_unfailed (Err d) e h o old new same = subst (TellsFault old new) (sym (ap is_fault h ∙ o)) same

pub write_unfailed : {T : Type 0} (r : Result T Refusal) (e : Refusal) → IsErrAnd r (λ d. d ≡ e) → is_of_output e ≡ false → (old new : ℕ) → new ≡ old
    → TellsFault old new (is_write_fault r)
write_unfailed (Ok x) e h o old new same = same
write_unfailed (Err d) e h o old new same = subst (TellsFault old new) (sym (ap is_of_output h ∙ o)) same

-- ---- what is fetched after the files

module _ (holds mid_holds : Option Held) (same : mid_holds ≡ holds) (failing mid : Option Failing) (names : FileNames) (name : List ℕ)
    (after : mid ≡ after_fetches (place_of names file.Report) failing) (kb : Knowledge) (q : Query) (vocab : Vocab)
    (says : FilesSay holds names kb q vocab) (fetched : AreFetched failing names) where
  -- the files and the report
  pub to_confirm : (report : List ℕ) → IsFetchedReport mid_holds name report → TellsNext mid false → IsToConfirm holds failing names name kb q vocab report
  to_confirm report there next = record {
    say = says;
    fetched = subst (λ h. IsFetchedReport h name report) same there;
    all_fetched = one_more_succeeds (place_of names file.Report) failing fetched (subst (λ (f : Option Failing). TellsNext f false) after next);
  }

  -- a report that isn't fetched
  pub stops_at_report : (r : Refusal) → IfSome mid_holds (λ held. StopsReport held name r) → IsOf file.Report r → TellsNext mid (is_fault r)
      → StopsConfirm holds failing names name r
  stops_at_report r report of_report own =
      stops_fetching holds failing names name kb q vocab says fetched r (subst (λ h. IfSome h (λ held. StopsReport held name r)) same report) of_report
      (subst (λ (f : Option Failing). TellsNext f (is_fault r)) after own)

-- and its own where it is one
pub read_failed : {T : Type 0} (r : Result T Refusal) (e : Refusal) → IsErrAnd r (λ d. d ≡ e) → (old mid new : ℕ) → mid ≡ old
    → TellsFault mid new (is_fault e) → TellsFault old new (is_read_fault r)
read_failed {T} r e h old mid new same w = of_error (err_from_is_err_and r h)
  where
    of_error : (d : Refusal) × (r ≡ Err d) × (d ≡ e) → TellsFault old new (is_read_fault r)
    of_error (d, is, one) =
        subst (TellsFault old new) (sym (ap (λ (x : Result T Refusal). is_read_fault x) is ∙ ap is_fault one))
        (subst (λ n. TellsFault n new (is_fault e)) same w)

-- writing counts no fault of the shelf
pub writing_reads_none : {T : Type 0} (r : Result T Refusal) → IfErr r IsOfWriting → is_read_fault r ≡ false
writing_reads_none (Ok x) o = refl
writing_reads_none (Err e) o = writing_no_fault e o

-- two facts of one error
pub if_err_both : {T : Type 0} (P Q R : Refusal → Type 0) (r : Result T Refusal) → ((x : Refusal) → P x → Q x → R x) → IfErr r P → IfErr r Q → IfErr r R
if_err_both P Q R (Ok x) f p q = tt
if_err_both P Q R (Err e) f p q = f e p q

-- what is said of an input that was handed on
module _ (holds : Option Held) (failing : Option Failing) (names : FileNames) (settings : Settings) (first made : Input) (same : made ≡ first)
    (says : FilesSay holds names first.kb first.query first.vocab) (fetched : AreFetched failing names)
    (within : IsWithinLimits first.kb first.query settings) (old new : Option (List ℕ)) where
  pub answers_of : (ends : Status) → (old ≡ Some [] → TellsRightReport made.kb made.vocab.inds made.query settings new ends)
      → Answers holds failing names settings old new ends
  answers_of ends tells = record {
    kb = first.kb;
    q = first.query;
    vocab = first.vocab;
    say = says;
    fetched = fetched;
    within = within;
    tells = subst (λ (i : Input). old ≡ Some [] → TellsRightReport i.kb i.vocab.inds i.query settings new ends) same tells;
  }

  pub leaves_part : (r : Refusal) → IsOfWriting r → (old ≡ Some [] → TellsRightLines made.kb made.vocab.inds made.query new)
      → LeavesClassify holds failing names settings old new r
  leaves_part r o part = leaves_writing holds failing names settings old new r o (
    first.kb,
    first.query,
    first.vocab,
    says,
    fetched,
    (within, subst (λ (i : Input). old ≡ Some [] → TellsRightLines i.kb i.vocab.inds i.query new) same part),
  )
