-- How `table` stops, what it leaves in the output, and that the same report asks for one end.
use Rattle.std.proofs.Common.{◌≡◌, ◌⊎◌, inl, inr, ℕ, List, Option, Some, None, IfSome, Result, Ok, Err, false, refl, sym, ap, ◌∙◌, subst}
use Rattle.std.specs.Result.{IsErrAnd}
use Rattle.cq_io.specs.Failing.{Failing}
use Rattle.cq_io.specs.Faults.{TellsFault}
use Rattle.cqapri_words.specs.Pieces.{AppendsFirst}
use Rattle.cqapri_words.specs.declared.fault.Fault.TheVariants as fault
use Rattle.cqapri_words.specs.declared.files.File.TheVariants as file
use Rattle.cqapri_words.specs.declared.refusal.Refusal.{Refusal}
use Rattle.cqapri_words.specs.declared.refusal.Refusal.TheVariants as refusal
use Rattle.input_files.specs.Ends.{IsOf}
use Rattle.input_files.specs.Fetching.{Held, TellsNext, is_fault}
use Rattle.input_files.specs.Inputs.{StopsReport}
use Rattle.input_files.specs.Laws.{EachReportEndIsOne}
use Rattle.input_files.specs.Meaning.{IsFetchedReport}
use Rattle.verdict_table.specs.Faults.{has_failed}
use Rattle.verdict_table.specs.Tables.{table_text}
use Rattle.verdict_table.specs.Whole.{bad_line}
use Rattle.verdict_table.specs.declared.fault.TableFault.{TableFault}
use Rattle.verdict_table.specs.declared.fault.TableFault.TheVariants as table_fault
use Rattle.cqapri_cli.specs.EndLaws.{SaysOfFiles}
use Rattle.cqapri_cli.specs.Ends.{is_of_output, is_write_fault}
use Rattle.cqapri_cli.specs.TableLaws.{EachTableEndIsOne}
use Rattle.cqapri_cli.specs.Tables.{IsToTabulate, IsWholeReport, LeavesPrinting, LeavesTable, PrintsFirst, StopsFirstFetch, StopsPrinting, StopsTable}
use Rattle.cqapri_cli.specs.Tables.{WritesFirstOfTable, refusal_of_table}
use Rattle.cqapri_cli.proofs.EndLemmas.{of_content}

-- ---- a report that was fetched

module _ (report : List ℕ) where
  -- what a fault of its table says of it
  pub stops_printing : (f : TableFault) → ((line : ℕ) → f ≡ table_fault.BadLine line → bad_line report ≡ Some line)
      → (f ≡ table_fault.Failed → bad_line report ≡ None) → StopsPrinting report (refusal_of_table f)
  stops_printing (table_fault.BadLine line) refused behind = inr (inl (line, refused line refl, refl))
  stops_printing table_fault.Failed refused behind = inr (inr (refl, behind refl))
  stops_printing table_fault.NoMemory refused behind = inl refl

  module _ (old new : Option (List ℕ)) where
    -- where memory ran out nothing was written of a report that isn't whole
    none_or_first : (found : Option ℕ) → bad_line report ≡ found → ((line : ℕ) → bad_line report ≡ Some line → new ≡ old)
        → AppendsFirst old new (table_text report) → (new ≡ old) ⊎ PrintsFirst report old new
    none_or_first None e untouched part = inr (e, part)
    none_or_first (Some line) e untouched part = inl (untouched line e)

    -- what such a fault leaves in the output
    pub leaves_printing : (f : TableFault) → ((line : ℕ) → f ≡ table_fault.BadLine line → bad_line report ≡ Some line)
        → (f ≡ table_fault.Failed → bad_line report ≡ None) → ((line : ℕ) → bad_line report ≡ Some line → new ≡ old)
        → AppendsFirst old new (table_text report) → LeavesPrinting report old new (refusal_of_table f)
    leaves_printing (table_fault.BadLine line) refused behind untouched part = untouched line (refused line refl)
    leaves_printing table_fault.Failed refused behind untouched part = (behind refl, part)
    leaves_printing table_fault.NoMemory refused behind untouched part = none_or_first (bad_line report) refl untouched part

-- the refusal is one of the output exactly where the sink failed
pub output_failed : (f : TableFault) → has_failed {T = Unit {0}} (Err f) ≡ is_of_output (refusal_of_table f)
output_failed (table_fault.BadLine line) = refl
output_failed table_fault.Failed = refl
output_failed table_fault.NoMemory = refl

-- a refusal of printing is none of the shelf
pub printing_no_read_fault : (report : List ℕ) (r : Refusal) → StopsPrinting report r → is_fault r ≡ false
printing_no_read_fault report r (inl e) = ap is_fault e
printing_no_read_fault report r (inr (inl (line, found, e))) = ap is_fault e
printing_no_read_fault report r (inr (inr (e, whole))) = ap is_fault e

-- what is counted where such a refusal is passed on
pub write_failed : {T : Type 0} (r : Result T Refusal) (e : Refusal) → IsErrAnd r (λ d. d ≡ e) → (old new : ℕ) → TellsFault old new (is_of_output e)
    → TellsFault old new (is_write_fault r)
write_failed (Ok x) e h old new w = absurd h
write_failed (Err d) e h old new w = subst (TellsFault old new) (sym (ap is_of_output h)) w

-- ---- the job

module _ (holds : Option Held) (failing : Option Failing) (name : List ℕ) where
  -- by the fetch
  pub stops_first_fetch : (r : Refusal) → IfSome holds (λ held. StopsReport held name r) → IsOf file.Report r → TellsNext failing (is_fault r)
      → StopsTable holds failing name r
  stops_first_fetch r report of_report own = inr (inl (record { report = report; of_report = of_report; own = own }))

  module _ (report : List ℕ) (read : IsToTabulate holds failing name report) where
    pub whole_report : bad_line report ≡ None → IsWholeReport holds failing name report
    whole_report whole = record { read = read; whole = whole }

    -- behind it
    pub stops_table : (r : Refusal) → StopsPrinting report r → StopsTable holds failing name r
    stops_table r (inl e) = inl e
    stops_table r (inr (inl (line, found, e))) = inr (inr (inl (record { report = report; read = read; line = line; first_bad = found; is = e })))
    stops_table r (inr (inr (e, whole))) = inr (inr (inr (e, report, whole_report whole)))

    first_of_table : (old new : Option (List ℕ)) → PrintsFirst report old new → WritesFirstOfTable holds failing name old new
    first_of_table old new (whole, part) = record { report = report; is_whole = whole_report whole; written = part }

    -- what it leaves in the output then
    pub leaves_table : (old new : Option (List ℕ)) (r : Refusal) → LeavesPrinting report old new r → LeavesTable holds failing name old new r
    leaves_table old new refusal.WriteFault w = first_of_table old new w
    leaves_table old new refusal.NoMemory (inl e) = inl e
    leaves_table old new refusal.NoMemory (inr w) = inr (first_of_table old new w)
    leaves_table old new refusal.Words w = w
    leaves_table old new (refusal.NotThere f) w = w
    leaves_table old new (refusal.Faulty wrong) w = w
    leaves_table old new (refusal.Limit beyond) w = w
    leaves_table old new (refusal.Cycle cycle) w = w
    leaves_table old new (refusal.ReadFault f) w = w

  -- a fetch leaves it as it was
  pub leaves_fetch : (old new : Option (List ℕ)) (r : Refusal) → IsOf file.Report r → new ≡ old → LeavesTable holds failing name old new r
  leaves_fetch old new refusal.WriteFault o e = absurd o
  leaves_fetch old new refusal.NoMemory o e = inl e
  leaves_fetch old new refusal.Words o e = e
  leaves_fetch old new (refusal.NotThere f) o e = e
  leaves_fetch old new (refusal.Faulty wrong) o e = e
  leaves_fetch old new (refusal.Limit beyond) o e = e
  leaves_fetch old new (refusal.Cycle cycle) o e = e
  leaves_fetch old new (refusal.ReadFault f) o e = e

-- ---- one end

module _ (law : EachReportEndIsOne) (held : Held) (name : List ℕ) where
  -- there is one report
  same_report : (one other : List ℕ) → IsFetchedReport (Some held) name one → IsFetchedReport (Some held) name other → one ≡ other
  same_report one other w v = let both : Some one ≡ Some other = sym w.held ∙ v.held in cc

  -- a report that is fetched asks for no refusal of its fetch
  fetch_refuses : (failing : Option Failing) (r : Refusal) → SaysOfFiles r → StopsFirstFetch (Some held) failing name r
      → (report : List ℕ) → IsFetchedReport (Some held) name report → ⊥
  fetch_refuses failing r s w report there =
      law.none held name r (of_content file.Report r w.of_report s) w.report (record { bytes = report; there = there.held; short = there.short; has = tt })

  -- it has one first bad line
  same_line : (one other : List ℕ) (line number : ℕ) → one ≡ other → bad_line one ≡ Some line → bad_line other ≡ Some number → line ≡ number
  same_line one other line number same e d = let both : Some line ≡ Some number = sym e ∙ (ap bad_line same ∙ d) in cc

  -- and no such line where it is whole
  not_whole : (one other : List ℕ) (line : ℕ) → one ≡ other → bad_line one ≡ Some line → bad_line other ≡ None → ⊥
  not_whole one other line same e d = let both : Some line ≡ None = sym e ∙ (ap bad_line same ∙ d) in cc

  one_end : (failing others : Option Failing) (r t : Refusal) → SaysOfFiles r → SaysOfFiles t → StopsTable (Some held) failing name r
      → StopsTable (Some held) others name t → r ≡ t
  one_end failing others r t s u (inl e) w = absurd (subst SaysOfFiles e s)
  one_end failing others r t s u (inr (inr (inr (e, x, whole)))) w = absurd (subst SaysOfFiles e s)
  one_end failing others r t s u (inr (inl v)) (inl e) = absurd (subst SaysOfFiles e u)
  one_end failing others r t s u (inr (inr (inl v))) (inl e) = absurd (subst SaysOfFiles e u)
  one_end failing others r t s u (inr (inl v)) (inr (inr (inr (e, x, whole)))) = absurd (subst SaysOfFiles e u)
  one_end failing others r t s u (inr (inr (inl v))) (inr (inr (inr (e, x, whole)))) = absurd (subst SaysOfFiles e u)
  one_end failing others r t s u (inr (inl v)) (inr (inl w)) =
      law.one held name r t (of_content file.Report r v.of_report s) (of_content file.Report t w.of_report u) v.report w.report
  one_end failing others r t s u (inr (inl v)) (inr (inr (inl w))) = absurd (fetch_refuses failing r s v w.report w.read.fetched)
  one_end failing others r t s u (inr (inr (inl v))) (inr (inl w)) = absurd (fetch_refuses others t u w v.report v.read.fetched)
  one_end failing others r t s u (inr (inr (inl v))) (inr (inr (inl w))) =
      let same = same_report v.report w.report v.read.fetched w.read.fetched in
      v.is ∙ (ap (λ (n : ℕ). refusal.Faulty (fault.ReportLine n)) (same_line v.report w.report v.line w.line same v.first_bad w.first_bad) ∙ sym w.is)

  no_end : (failing others : Option Failing) (r : Refusal) (report : List ℕ) → SaysOfFiles r → StopsTable (Some held) failing name r
      → IsWholeReport (Some held) others name report → ⊥
  no_end failing others r report s (inl e) w = subst SaysOfFiles e s
  no_end failing others r report s (inr (inr (inr (e, x, whole)))) w = subst SaysOfFiles e s
  no_end failing others r report s (inr (inl v)) w = fetch_refuses failing r s v report w.read.fetched
  no_end failing others r report s (inr (inr (inl v))) w =
      not_whole v.report report v.line (same_report v.report report v.read.fetched w.read.fetched) v.first_bad w.whole

pub each_table_end_is_one : EachReportEndIsOne → EachTableEndIsOne
each_table_end_is_one law held name = record {
  one = one_end law held name;
  none = no_end law held name;
  report = λ failing others one other w v. same_report law held name one other w.read.fetched v.read.fetched;
}
