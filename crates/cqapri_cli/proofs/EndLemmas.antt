-- The same words and files ask for one end.
use Rattle.std.proofs.Common.{◌≡◌, ◌⊎◌, inl, inr, ℕ, List, [], ◌∷◌, length, Option, Some, refl, sym, ap, ◌∙◌, subst}
use Rattle.cq_io.specs.Failing.{Failing}
use Rattle.cq_terms.specs.Knowledge.{Knowledge}
use Rattle.cq_terms.specs.Query.{Query}
use Rattle.cq_terms.specs.declared.facts.Fact.{Fact}
use Rattle.cq_terms.specs.declared.facts.Repairs.{Repairs}
use Rattle.cq_terms.specs.declared.names.Vocab.{Vocab}
use Rattle.cq_meaning.specs.Repairs.{IsAcyclic, IsBetter, LeadsTo}
use Rattle.priority_graph.specs.Relations.{Chain, IsCycle}
use Rattle.preparation.specs.Refusals.{IsRefused, IsWithin}
use Rattle.preparation.specs.declared.limits.Limits.{Limits}
use Rattle.preparation.specs.declared.refusal.PrepareRefusal.{PrepareRefusal}
use Rattle.preparation.specs.declared.refusal.PrepareRefusal.TheVariants as prepare
use Rattle.report_laws.specs.Reports.{TellsCycle}
use Rattle.refutation_confirmer.specs.Saying.{Says}
use Rattle.refutation_confirmer.specs.declared.confirmed.Confirmed.{Confirmed}
use Rattle.refutation_confirmer.specs.declared.confirmed.Confirmed.TheVariants as confirmed
use Rattle.cqapri_words.specs.Words.{FileNames, Settings}
use Rattle.cqapri_words.specs.declared.files.File.{File}
use Rattle.cqapri_words.specs.declared.files.File.TheVariants as file
use Rattle.cqapri_words.specs.declared.refusal.Refusal.{Refusal}
use Rattle.cqapri_words.specs.declared.refusal.Refusal.TheVariants as refusal
use Rattle.input_files.specs.Ends.{IsOf}
use Rattle.input_files.specs.Fetching.{Held}
use Rattle.input_files.specs.Inputs.{IsReportThere}
use Rattle.input_files.specs.Laws.{FilesSayOneThing, IsOfContent}
use Rattle.input_files.specs.Laws as files
use Rattle.input_files.specs.Meaning.{FilesSay, IsFetchedReport}
use Rattle.cqapri_cli.specs.EndLaws.{AreOneEnd, EachEndIsOne, SaysOfFiles}
use Rattle.cqapri_cli.specs.Ends.{StopsClassify, StopsConfirm}
use Rattle.cqapri_cli.specs.Limits.{IsWithinLimits, StopsPreparing, limits_of, refusal_of_preparing}
use Rattle.cqapri_cli.specs.Reading.{SaySome, StopsFetching, StopsReading}
use Rattle.cqapri_cli.specs.Verdicts.{Judges, TellsCycleOf}

-- ---- a cycle and an acyclic priority

-- a chain leads from its beginning to its end
chain_leads : (kb : Knowledge) (mode : Repairs) (i : ℕ) (list : List ℕ) (end : ℕ) → Chain (IsBetter kb mode) i list end → LeadsTo kb mode (length list) i end
chain_leads kb mode i [] end c = c
chain_leads kb mode i (j ∷ list) end c = (j, c.0, chain_leads kb mode j list end c.1)

pub cycle_not_acyclic : (kb : Knowledge) (mode : Repairs) (facts : List ℕ) → IsCycle (IsBetter kb mode) facts → IsAcyclic kb mode → ⊥
cycle_not_acyclic kb mode [] w acyclic = w.closed
cycle_not_acyclic kb mode (i ∷ list) w acyclic = acyclic (length list) i (chain_leads kb mode i list i w.closed)

-- ---- what is refused behind the files

module _ (kb : Knowledge) (q : Query) (mode : Repairs) (limits : Limits) (facts : List Fact) (vocab : Vocab) where
  -- two refusals of what the files say are one
  one_refusal : (why other : PrepareRefusal) → SaysOfFiles (refusal_of_preparing facts vocab why) → SaysOfFiles (refusal_of_preparing facts vocab other)
      → IsRefused kb q mode limits why → IsRefused kb q mode limits other
      → AreOneEnd (refusal_of_preparing facts vocab why) (refusal_of_preparing facts vocab other)
  one_refusal prepare.NoMemory other s t w v = absurd s
  one_refusal prepare.Members prepare.NoMemory s t w v = absurd t
  one_refusal prepare.Members prepare.Members s t w v = inl refl
  one_refusal prepare.Members prepare.Conflicts s t w v = absurd (v.0 w)
  one_refusal prepare.Members (prepare.Cycle numbers) s t w v = absurd (v.0 w)
  one_refusal prepare.Members prepare.Supports s t w v = absurd (v.0 w)
  one_refusal prepare.Conflicts prepare.NoMemory s t w v = absurd t
  one_refusal prepare.Conflicts prepare.Members s t w v = absurd (w.0 v)
  one_refusal prepare.Conflicts prepare.Conflicts s t w v = inl refl
  one_refusal prepare.Conflicts (prepare.Cycle numbers) s t w v = absurd (v.1 w.1)
  one_refusal prepare.Conflicts prepare.Supports s t w v = absurd (v.1 w.1)
  one_refusal (prepare.Cycle numbers) prepare.NoMemory s t w v = absurd t
  one_refusal (prepare.Cycle numbers) prepare.Members s t w v = absurd (w.0 v)
  one_refusal (prepare.Cycle numbers) prepare.Conflicts s t w v = absurd (w.1 v.1)
  one_refusal (prepare.Cycle numbers) (prepare.Cycle others) s t w v = inr (tt, tt)
  one_refusal (prepare.Cycle numbers) prepare.Supports s t w v = absurd (cycle_not_acyclic kb mode numbers w.2 v.2)
  one_refusal prepare.Supports prepare.NoMemory s t w v = absurd t
  one_refusal prepare.Supports prepare.Members s t w v = absurd (w.0 v)
  one_refusal prepare.Supports prepare.Conflicts s t w v = absurd (w.1 v.1)
  one_refusal prepare.Supports (prepare.Cycle others) s t w v = absurd (cycle_not_acyclic kb mode others v.2 w.2)
  one_refusal prepare.Supports prepare.Supports s t w v = inl refl

  -- none is of what is within the limits
  no_refusal : (why : PrepareRefusal) → SaysOfFiles (refusal_of_preparing facts vocab why) → IsRefused kb q mode limits why → IsWithin kb q mode limits → ⊥
  no_refusal prepare.NoMemory s w within = s
  no_refusal prepare.Members s w within = within.members w
  no_refusal prepare.Conflicts s w within = within.clashes w.1
  no_refusal (prepare.Cycle numbers) s w within = cycle_not_acyclic kb mode numbers w.2 within.acyclic
  no_refusal prepare.Supports s w within = within.supports w.3

-- ---- which refusals come from files

-- a refusal of a file that says something of the files is of its content
pub of_content : (f : File) (r : Refusal) → IsOf f r → SaysOfFiles r → IsOfContent r
of_content f (refusal.NotThere g) o s = tt
of_content f (refusal.Faulty wrong) o s = tt
of_content f (refusal.Limit beyond) o s = tt
of_content f (refusal.Cycle cycle) o s = absurd o
of_content f refusal.Words o s = absurd s
of_content f (refusal.ReadFault g) o s = absurd s
of_content f refusal.WriteFault o s = absurd s
of_content f refusal.NoMemory o s = absurd s

-- the laws from which it follows
pub record Laws : Type 0 where
  pub reading : FilesSayOneThing
  pub ends : files.EachEndIsOne
  pub report : files.EachReportEndIsOne

module _ (laws : Laws) (held : Held) (names : FileNames) where
  content : (failing : Option Failing) (r : Refusal) → SaysOfFiles r → StopsReading (Some held) failing names r → IsOfContent r
  content failing r s w = of_content w.ends.0 r w.ends.1.of_file s

  -- two refusals of the files are one
  files_one : (failing others : Option Failing) (r t : Refusal) → SaysOfFiles r → SaysOfFiles t → StopsReading (Some held) failing names r
      → StopsReading (Some held) others names t → r ≡ t
  files_one failing others r t d e w v = laws.ends.one held names r t (content failing r d w) (content others t e v) w.files v.files

  -- files that say something ask for none
  said_ask_none : (failing : Option Failing) (r : Refusal) → SaysOfFiles r → StopsReading (Some held) failing names r
      → (kb : Knowledge) (q : Query) (vocab : Vocab) → FilesSay (Some held) names kb q vocab → ⊥
  said_ask_none failing r d w kb q vocab says = laws.ends.none held names r (content failing r d w) w.files (laws.ends.said held names kb q vocab says)

  -- ---- a classification

  module _ (settings : Settings) where
    -- a limit or a cycle refuses what the files say
    Refuses : Refusal → Type 0
    Refuses r = (kb : Knowledge) × (q : Query) × (vocab : Vocab) × FilesSay (Some held) names kb q vocab × StopsPreparing kb q vocab settings r

    two_refuse : (r t : Refusal) → SaysOfFiles r → SaysOfFiles t → (kb kb' : Knowledge) (q q' : Query) (vocab vocab' : Vocab)
        → kb ≡ kb' → q ≡ q' → vocab ≡ vocab' → StopsPreparing kb q vocab settings r → StopsPreparing kb' q' vocab' settings t → AreOneEnd r t
    two_refuse r t d e kb kb' q q' vocab vocab' x y z (why, w, is) (other, v, is') =
        subst (λ a. AreOneEnd a t) (sym is) (subst (λ b. AreOneEnd (refusal_of_preparing kb.facts vocab why) b) (sym same)
        (one_refusal kb q settings.repairs (limits_of settings) kb.facts vocab why other (subst SaysOfFiles is d) (subst SaysOfFiles same e) w again))
      where
        same : t ≡ refusal_of_preparing kb.facts vocab other
        same = is' ∙ (ap (λ (k : Knowledge). refusal_of_preparing k.facts vocab' other) (sym x)
            ∙ ap (λ (n : Vocab). refusal_of_preparing kb.facts n other) (sym z))

        again : IsRefused kb q settings.repairs (limits_of settings) other
        again = subst (λ k. IsRefused k q settings.repairs (limits_of settings) other) (sym x)
            (subst (λ p. IsRefused kb' p settings.repairs (limits_of settings) other) (sym y) v)

    not_within : (r : Refusal) → SaysOfFiles r → (kb kb' : Knowledge) (q q' : Query) (vocab : Vocab) → kb ≡ kb' → q ≡ q'
        → StopsPreparing kb q vocab settings r → IsWithinLimits kb' q' settings → ⊥
    not_within r d kb kb' q q' vocab x y (why, w, is) within =
        no_refusal kb q settings.repairs (limits_of settings) kb.facts vocab why (subst SaysOfFiles is d) w
        (subst (λ k. IsWithinLimits k q settings) (sym x) (subst (λ p. IsWithinLimits kb' p settings) (sym y) within))

    pub classify_one : (failing others : Option Failing) (r t : Refusal) → SaysOfFiles r → SaysOfFiles t
        → StopsClassify (Some held) failing names settings r → StopsClassify (Some held) others names settings t → AreOneEnd r t
    classify_one failing others r t d e (inl m) w = absurd (subst SaysOfFiles m d)
    classify_one failing others r t d e (inr (inr (inr (m, x)))) w = absurd (subst SaysOfFiles m d)
    classify_one failing others r t d e (inr (inl v)) (inl m) = absurd (subst SaysOfFiles m e)
    classify_one failing others r t d e (inr (inr (inl v))) (inl m) = absurd (subst SaysOfFiles m e)
    classify_one failing others r t d e (inr (inl v)) (inr (inr (inr (m, x)))) = absurd (subst SaysOfFiles m e)
    classify_one failing others r t d e (inr (inr (inl v))) (inr (inr (inr (m, x)))) = absurd (subst SaysOfFiles m e)
    classify_one failing others r t d e (inr (inl v)) (inr (inl w)) = inl (files_one failing others r t d e v w)
    classify_one failing others r t d e (inr (inl v)) (inr (inr (inl (kb, q, vocab, says, fetched, w)))) =
        absurd (said_ask_none failing r d v kb q vocab says)
    classify_one failing others r t d e (inr (inr (inl (kb, q, vocab, says, fetched, v)))) (inr (inl w)) =
        absurd (said_ask_none others t e w kb q vocab says)
    classify_one failing others r t d e (inr (inr (inl (kb, q, vocab, says, fetched, v)))) (inr (inr (inl (kb', q', vocab', says', fetched', w)))) =
        let same = laws.reading held names kb kb' q q' vocab vocab' says says' in
        two_refuse r t d e kb kb' q q' vocab vocab' same.0 same.1 same.2 v w

    pub classify_none : (failing others : Option Failing) (r : Refusal) → SaysOfFiles r → StopsClassify (Some held) failing names settings r
        → SaySome (Some held) others names (λ kb q vocab. IsWithinLimits kb q settings) → ⊥
    classify_none failing others r d (inl m) w = subst SaysOfFiles m d
    classify_none failing others r d (inr (inr (inr (m, x)))) w = subst SaysOfFiles m d
    classify_none failing others r d (inr (inl v)) (kb, q, vocab, says, fetched, within) = said_ask_none failing r d v kb q vocab says
    classify_none failing others r d (inr (inr (inl (kb, q, vocab, says, fetched, v)))) (kb', q', vocab', says', fetched', within) =
        let same = laws.reading held names kb kb' q q' vocab vocab' says says' in
        not_within r d kb kb' q q' vocab same.0 same.1 v within

  -- ---- a confirmation

  module _ (name : List ℕ) where
    -- a report that was fetched is there
    is_there : (report : List ℕ) → IsFetchedReport (Some held) name report → IsReportThere held name
    is_there report w = record { bytes = report; there = w.held; short = w.short; has = tt }

    report_content : (failing : Option Failing) (r : Refusal) → SaysOfFiles r → StopsFetching (Some held) failing names name r → IsOfContent r
    report_content failing r d w = of_content file.Report r w.of_report d

    report_asks_none : (failing : Option Failing) (r : Refusal) → SaysOfFiles r → StopsFetching (Some held) failing names name r
        → (report : List ℕ) → IsFetchedReport (Some held) name report → ⊥
    report_asks_none failing r d w report there = laws.report.none held name r (report_content failing r d w) w.report (is_there report there)

    -- there is one report
    one_report : (one other : List ℕ) → IsFetchedReport (Some held) name one → IsFetchedReport (Some held) name other → one ≡ other
    one_report one other w v = let both : Some one ≡ Some other = sym w.held ∙ v.held in cc

    -- a verdict that is right tells no cycle
    says_no_cycle : (kb : Knowledge) (texts : List (List ℕ)) (q : Query) (report : List ℕ) (verdict : Confirmed) → Says kb texts q report verdict
        → TellsCycle kb texts q report → ⊥
    says_no_cycle kb texts q report (confirmed.Yes answers) w = ((w.yes answers).0 refl).1
    says_no_cycle kb texts q report (confirmed.No line rule) w = ((w.no line rule).0 refl).1

    same_verdict : (kb : Knowledge) (texts : List (List ℕ)) (q : Query) (report : List ℕ) (one other : Confirmed) → Says kb texts q report one
        → Says kb texts q report other → one ≡ other
    same_verdict kb texts q report (confirmed.Yes answers) other w v = sym ((v.yes answers).1 ((w.yes answers).0 refl))
    same_verdict kb texts q report (confirmed.No line rule) other w v = sym ((v.no line rule).1 ((w.no line rule).0 refl))

    -- what is said of one reading is said of the other
    moved : (P : Knowledge → List (List ℕ) → Query → List ℕ → Type 0) (kb kb' : Knowledge) (q q' : Query) (vocab vocab' : Vocab) (report report' : List ℕ)
        → kb ≡ kb' → q ≡ q' → vocab ≡ vocab' → report ≡ report' → P kb' vocab'.inds q' report' → P kb vocab.inds q report
    moved P kb kb' q q' vocab vocab' report report' x y z u p =
        subst (λ k. P k vocab.inds q report) (sym x)
        (subst (λ (n : Vocab). P kb' n.inds q report) (sym z) (subst (λ p. P kb' vocab'.inds p report) (sym y) (subst (P kb' vocab'.inds q') (sym u) p)))

    no_cycle : (failing others : Option Failing) (r : Refusal) (verdict : Confirmed) → TellsCycleOf (Some held) failing names name r
        → Judges (Some held) others names name verdict → ⊥
    no_cycle failing others r verdict w v =
        let same = laws.reading held names w.kb v.kb w.q v.q w.vocab v.vocab w.read.say v.read.say in
        says_no_cycle w.kb w.vocab.inds w.q w.report verdict
        (moved (λ kb texts q report. Says kb texts q report verdict) w.kb v.kb w.q v.q w.vocab v.vocab w.report v.report same.0 same.1 same.2
        (one_report w.report v.report w.read.fetched v.read.fetched) v.right) w.tells.0

    pub confirm_verdict : (failing others : Option Failing) (one other : Confirmed) → Judges (Some held) failing names name one
        → Judges (Some held) others names name other → one ≡ other
    confirm_verdict failing others one other w v =
        let same = laws.reading held names w.kb v.kb w.q v.q w.vocab v.vocab w.read.say v.read.say in
        same_verdict w.kb w.vocab.inds w.q w.report one other w.right
        (moved (λ kb texts q report. Says kb texts q report other) w.kb v.kb w.q v.q w.vocab v.vocab w.report v.report same.0 same.1 same.2
        (one_report w.report v.report w.read.fetched v.read.fetched) v.right)

    -- what a refusal that says something of files and report says: a file is refused, the report is, or it tells a cycle
    Stop : Option Failing → Refusal → Type 0
    Stop failing r = StopsReading (Some held) failing names r
        ⊎ ((StopsFetching (Some held) failing names name r × SaySome (Some held) failing names (λ kb q vocab. Unit {0}))
        ⊎ TellsCycleOf (Some held) failing names name r)

    stop_of : (failing : Option Failing) (r : Refusal) → SaysOfFiles r → StopsConfirm (Some held) failing names name r → Stop failing r
    unfolding Stop
    stop_of failing r d (inl m) = absurd (subst SaysOfFiles m d)
    stop_of failing r d (inr (inl w)) = inl w
    stop_of failing r d (inr (inr (inl w))) = inr (inl w)
    stop_of failing r d (inr (inr (inr (inl w)))) = inr (inr w)
    stop_of failing r d (inr (inr (inr (inr (m, verdict, w))))) = absurd (subst SaysOfFiles m d)

    one_stop : (failing others : Option Failing) (r t : Refusal) → SaysOfFiles r → SaysOfFiles t → Stop failing r → Stop others t → AreOneEnd r t
    unfolding Stop
    one_stop failing others r t d e (inl w) (inl v) = inl (files_one failing others r t d e w v)
    one_stop failing others r t d e (inl w) (inr (inl (v, (kb, q, vocab, says, fetched, more)))) = absurd (said_ask_none failing r d w kb q vocab says)
    one_stop failing others r t d e (inl w) (inr (inr v)) = absurd (said_ask_none failing r d w v.kb v.q v.vocab v.read.say)
    one_stop failing others r t d e (inr (inl (w, (kb, q, vocab, says, fetched, more)))) (inl v) = absurd (said_ask_none others t e v kb q vocab says)
    one_stop failing others r t d e (inr (inl (w, x))) (inr (inl (v, y))) =
        inl (laws.report.one held name r t (report_content failing r d w) (report_content others t e v) w.report v.report)
    one_stop failing others r t d e (inr (inl (w, x))) (inr (inr v)) = absurd (report_asks_none failing r d w v.report v.read.fetched)
    one_stop failing others r t d e (inr (inr w)) (inl v) = absurd (said_ask_none others t e v w.kb w.q w.vocab w.read.say)
    one_stop failing others r t d e (inr (inr w)) (inr (inl (v, y))) = absurd (report_asks_none others t e v w.report w.read.fetched)
    one_stop failing others r t d e (inr (inr w)) (inr (inr v)) = subst (λ a. AreOneEnd a t) (sym w.is_cycle)
        (subst (AreOneEnd _) (sym v.is_cycle) (inr (tt, tt)))

    no_stop : (failing others : Option Failing) (r : Refusal) (verdict : Confirmed) → SaysOfFiles r → Stop failing r
        → Judges (Some held) others names name verdict → ⊥
    unfolding Stop
    no_stop failing others r verdict d (inl w) v = said_ask_none failing r d w v.kb v.q v.vocab v.read.say
    no_stop failing others r verdict d (inr (inl (w, x))) v = report_asks_none failing r d w v.report v.read.fetched
    no_stop failing others r verdict d (inr (inr w)) v = no_cycle failing others r verdict w v

    pub confirm_one : (failing others : Option Failing) (r t : Refusal) → SaysOfFiles r → SaysOfFiles t
        → StopsConfirm (Some held) failing names name r → StopsConfirm (Some held) others names name t → AreOneEnd r t
    confirm_one failing others r t d e w v = one_stop failing others r t d e (stop_of failing r d w) (stop_of others t e v)

    pub confirm_none : (failing others : Option Failing) (r : Refusal) (verdict : Confirmed) → SaysOfFiles r
        → StopsConfirm (Some held) failing names name r → Judges (Some held) others names name verdict → ⊥
    confirm_none failing others r verdict d w v = no_stop failing others r verdict d (stop_of failing r d w) v

pub each_end_is_one : Laws → EachEndIsOne
each_end_is_one laws = record {
  classify = λ held names settings. record {
    one = classify_one laws held names settings;
    none = classify_none laws held names settings;
  };
  confirm = λ held names name. record {
    one = confirm_one laws held names name;
    none = confirm_none laws held names name;
    verdict = confirm_verdict laws held names name;
  };
}
