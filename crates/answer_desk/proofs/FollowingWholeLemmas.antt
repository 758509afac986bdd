-- One answer by what opening it, its questions and closing it say.
use Rattle.std.proofs.Common.{◌≡◌, ℕ, ◌+◌, ◌-◌, ◌≤◌, ◌⊎◌, inl, inr, List, [], ◌∷◌, ◌++◌, length, map, All, refl, sym, subst, ap, ◌∙◌, arith}
use Rattle.std.proofs.Common.{Option, Some, None, Result, Ok, Err, Bool, false}
use Rattle.std.specs.Result.{IfOk, OnOk, OnErr, IsErrAnd}
use Rattle.std.proofs.lemmas.List.{append-nil}
use Rattle.std.proofs.lemmas.List.Elements.{All-head, All-tail}
use Rattle.std.proofs.lemmas.Result.{err_from_is_err_and}
use Rattle.cq_terms.specs.Conflicts.{ConflictGraph}
use Rattle.priority_graph.specs.Priority.{Priority, IsPriority}
use Rattle.repair_clauses.specs.CauseClauses.{cause_clause}
use Rattle.cdcl_core.specs.State.{State, without_variable}
use Rattle.report_text.specs.declared.line.Line.{Line}
use Rattle.report_text.specs.declared.line.Line.TheVariants as line
use Rattle.report_text.specs.Reports.{AddsLine, StayTold}
use Rattle.report_rules.specs.Live.{Learned}
use Rattle.answer_evidence.specs.declared.evidence.Evidence.{Evidence}
use Rattle.answer_evidence.specs.declared.opening.Opening.{Opening}
use Rattle.answer_desk.specs.declared.plan.Verdicts.{Verdicts}
use Rattle.answer_desk.specs.declared.plan.ClassifyFault.{ClassifyFault}
use Rattle.answer_desk.specs.declared.plan.ClassifyFault.TheVariants as fault
use Rattle.answer_desk.specs.declared.work.Work.{Work}
use Rattle.answer_desk.specs.Answering.{TellTruth, DecideOverAll, DecideByBudget, AnswersRight, SaysVerdicts}
use Rattle.answer_desk.specs.Desks.{DeskState, IsReady, IsSameDesk, MayAnswer, learned_in, total}
use Rattle.answer_evidence.specs.FreeCauses.{IsFreeCause}
use Rattle.answer_desk.specs.Loading.{Loads}
use Rattle.answer_evidence.specs.Ranges.{IsRange}
use Rattle.answer_desk.specs.Openings.{IsOpen, IsSameOpening, IsTornAs}
use Rattle.answer_evidence.specs.Shown.{ShowsNothing, answer_line}
use Rattle.answer_desk.specs.Works.{desk_of}
use Rattle.answer_desk.specs.Following.{Frame, frame_of, AtBrave, AtEnd, FollowsOpen, GoesOn, StopsAfter}
use Rattle.answer_desk.specs.Frames.{ForEachFrame}
use Rattle.answer_desk.proofs.FollowingAnswerLemmas.{answer_unopened, answer_torn_open, answer_stopped, answer_unclosed, answer_torn_close, answer_whole}
use Rattle.answer_desk.proofs.FollowingAnswerLemmas.{answer_true, answer_over_all, answer_by_budget}
use Rattle.answer_desk.proofs.FollowingAskLemmas.{frame_along}
use Rattle.answer_desk.proofs.FollowingCallLemmas.{HasOpened, open_follows}
use Rattle.answer_desk.proofs.FollowingEndLemmas.{desk_after, ready_again}
use Rattle.answer_evidence.proofs.SetLemmas.{IfOk-map}

-- ---- counts

-- each cause has a fact
pub causes_few : (p : Priority) (causes : List (List ℕ)) → All (IsFreeCause p) causes → length causes ≤ total causes
causes_few p [] all = omega arith
causes_few p (cause ∷ causes) all =
    let some = (All-head (IsFreeCause p) cause causes all).some in
    let rest = causes_few p causes (All-tail (IsFreeCause p) cause causes all) in
    omega arith

-- ---- a fault while it opens

stops_here : (w : Frame) (was : Option (List Line)) → StopsAfter w [] was was None
stops_here w None = tt
stops_here w (Some lines) = (
  [],
  record { answered = λ input before of told. tt; numbered = tt; torn_right = tt },
  ap (λ (xs : List Line). Some xs) (sym (append-nil lines)),
)

-- a result that is a fault
pub answers_fault : (desk new : DeskState) (number : ℕ) (tuple : List ℕ) (causes : List (List ℕ)) (members : List ℕ) (names : List (List ℕ))
    (was now : Option (List Line)) (torn : Option Line) (Q : ClassifyFault → Type 0) (r : Result Verdicts ClassifyFault) → IsErrAnd r Q
    → ((f : ClassifyFault) → AnswersRight desk new number tuple causes members names was now torn (Err f))
    → AnswersRight desk new number tuple causes members names was now torn r
answers_fault desk new number tuple causes members names was now torn Q r is each =
    let p = err_from_is_err_and {Q = Q} r is in
    subst (λ (x : Result Verdicts ClassifyFault). AnswersRight desk new number tuple causes members names was now torn x) (sym p.1) (each p.0)

module _ (desk new : DeskState) (number : ℕ) (tuple : List ℕ) (causes : List (List ℕ)) (members : List ℕ) (names : List (List ℕ))
    (was now : Option (List Line)) (torn : Option Line) where
  right_torn : (t : Option Line) → torn ≡ t → (f : ClassifyFault) → AnswersRight desk new number tuple causes members names was now t (Err f)
      → AnswersRight desk new number tuple causes members names was now torn (Err f)
  right_torn t is f x = subst (λ (o : Option Line). AnswersRight desk new number tuple causes members names was now o (Err f)) (sym is) x

  -- the `ask` line stands alone
  asked_alone : (f : ClassifyFault) → AddsLine was now (line.Ask number tuple causes members)
      → AnswersRight desk new number tuple causes members names was now None (Err f)
  asked_alone f asked = answer_stopped desk number tuple causes members [] names was now asked new f now None
      (stops_here (frame_of desk number tuple causes members []) now)

  pub unopened : (T : Type 0) (f g : ClassifyFault) → StayTold was now ⊎ (AddsLine was now (line.Ask number tuple causes members) × (torn ≡ None))
      → IsTornAs {T = T} (Err f) torn (line.Ask number tuple causes members)
      → AnswersRight desk new number tuple causes members names was now torn (Err g)
  unopened T fault.Report g (inl stay) is = right_torn (Some (line.Ask number tuple causes members)) is g
      (answer_torn_open desk number tuple causes members [] names was now new g stay)
  unopened T fault.NoMemory g (inl stay) is = right_torn None is g
      (answer_unopened desk number tuple causes members [] names was now new g stay)
  unopened T f g (inr (asked, none)) is = right_torn None none g (asked_alone g asked)

-- ---- its frame

module _ (desk : DeskState) (number : ℕ) (tuple : List ℕ) (causes : List (List ℕ)) (members : List ℕ) (state : State) (opening : Opening)
    (h : HasOpened desk number tuple causes members state opening) where
  pub in_frame : (g : ConflictGraph) (p : Priority) (limit : ℕ) (P : Frame → List Line → Type 0) → g ≡ desk.conflicts → p ≡ desk.better
      → limit ≡ desk.plan.budget → ForEachFrame g p causes opening limit P → P (frame_of desk number tuple causes members h.facts) []
  in_frame g p limit P gs ps ls each = each (frame_of desk number tuple causes members h.facts) []
      (frame_along (frame_of desk number tuple causes members h.facts) desk.conflicts g desk.better p causes causes opening.selector opening.selector
      opening.scope.items opening.scope.items desk.plan.budget limit h.frame (sym gs) (sym ps) refl refl refl (sym ls))

  -- ---- a fault at its questions

  module _ (names : List (List ℕ)) (was opened : Option (List Line)) (asked : AddsLine was opened (line.Ask number tuple causes members)) where
    pub unasked : (new : DeskState) (f : ClassifyFault) (now : Option (List Line)) (torn : Option Line)
        → StopsAfter (frame_of desk number tuple causes members h.facts) [] opened now torn
        → AnswersRight desk new number tuple causes members names was now torn (Err f)
    unasked new f now torn stops = answer_stopped desk number tuple causes members h.facts names was opened asked new f now torn stops

    -- ---- its end

    module _ (end : State) (cores : ℕ) (e : Evidence) (mid : Option (List Line))
        (goes : GoesOn (frame_of desk number tuple causes members h.facts) [] end cores AtEnd e opened mid) (now : Option (List Line))
        (torn : Option Line) where
      pub closed_right : (new : DeskState) (first : ℕ) (r : Result Verdicts ClassifyFault) → first ≡ desk.cores → IfOk r (SaysVerdicts e)
          → OnOk r ((numbers : List ℕ) × IsRange first cores numbers × AddsLine mid now (answer_line e numbers names tuple))
          → OnErr r (StayTold mid now)
          → OnErr r ((torn ≡ None) ⊎ ((numbers : List ℕ) × IsRange first cores numbers × (torn ≡ Some (answer_line e numbers names tuple))))
          → OnOk r (torn ≡ None) → OnOk r (new ≡ desk_after desk end number cores)
          → AnswersRight desk new number tuple causes members names was now torn r
      closed_right new first (Ok v) same says (numbers, range, adds) stay broken none after =
          subst (λ (o : Option Line). AnswersRight desk new number tuple causes members names was now o (Ok v)) (sym none)
          (subst (λ (d : DeskState). AnswersRight desk d number tuple causes members names was now None (Ok v)) (sym after)
          (answer_whole desk number tuple causes members h.facts names was opened asked end cores e mid goes v says now numbers
          (subst (λ (n : ℕ). IsRange n cores numbers) same range) adds))
      closed_right new first (Err f) same says adds stay (inl none) whole after =
          subst (λ (o : Option Line). AnswersRight desk new number tuple causes members names was now o (Err f)) (sym none)
          (answer_unclosed desk number tuple causes members h.facts names was opened asked end cores e mid goes new f now stay)
      closed_right new first (Err f) same says adds stay (inr (numbers, range, torn_is)) whole after =
          subst (λ (o : Option Line). AnswersRight desk new number tuple causes members names was now o (Err f)) (sym torn_is)
          (answer_torn_close desk number tuple causes members h.facts names was opened asked end cores e mid goes new f now stay numbers
          (subst (λ (n : ℕ). IsRange n cores numbers) same range))

  -- what is promised of its verdicts
  module _ (opened : Option (List Line)) (end : State) (cores : ℕ) (e : Evidence) (mid : Option (List Line))
      (goes : GoesOn (frame_of desk number tuple causes members h.facts) [] end cores AtEnd e opened mid) (r : Result Verdicts ClassifyFault)
      (says : IfOk r (SaysVerdicts e)) where
    pub closed_true : IfOk r (TellTruth desk tuple causes)
    closed_true = IfOk-map r (SaysVerdicts e) (TellTruth desk tuple causes)
        (λ v s. answer_true desk number tuple causes members h.facts end cores e opened mid goes v s) says

    pub closed_over_all : IfOk r (DecideOverAll desk causes)
    closed_over_all = IfOk-map r (SaysVerdicts e) (DecideOverAll desk causes)
        (λ v s. answer_over_all desk number tuple causes members h.facts end cores e opened mid goes v s) says

    pub closed_by_budget : IfOk r (DecideByBudget desk causes)
    closed_by_budget = IfOk-map r (SaysVerdicts e) (DecideByBudget desk causes)
        (λ v s. answer_by_budget desk number tuple causes members h.facts end cores e opened mid goes v s) says

  -- and its desk is ready again
  pub closed_ready : (old : State) → IsReady desk old → MayAnswer desk number causes → (opened mid : Option (List Line)) (end : State) (cores : ℕ)
      (e : Evidence) → GoesOn (frame_of desk number tuple causes members h.facts) [] end cores AtEnd e opened mid → end.variables ≡ old.variables
      → cores ≤ desk.cores + length causes + 2 → (new : DeskState) (left : State) → new ≡ desk_after desk end number cores
      → left ≡ record end { live = without_variable end.live (desk.better.facts + number); values = None } → IsReady new left
  closed_ready old ready may opened mid end cores e goes same few new left new_is left_is =
      subst (IsReady new) (sym left_is)
      (subst (λ (d : DeskState). IsReady d (record end { live = without_variable end.live (desk.better.facts + number); values = None })) (sym new_is)
      (ready_again desk old number tuple causes members h.facts ready may (goes.0 ++ []) end cores AtEnd e goes.1 same
      (let many = causes_few desk.better causes may.causes_are in let total_few = may.few in omega arith)))

-- ---- the desk of a work

-- what closing an answer leaves
pub desk_closed : (old mid new : Work) (number selector : ℕ) → mid ≡ record old { solver = mid.solver; cores = mid.cores }
    → new ≡ record mid { solver = new.solver; answers = new.answers } → new.answers ≡ mid.answers + 1
    → new.solver ≡ record mid.solver { live = without_variable mid.solver.live selector; values = None } → selector ≡ old.better.now.facts + number
    → mid.solver.variables ≡ old.solver.variables → desk_of new ≡ desk_after (desk_of old) mid.solver number mid.cores
desk_closed old mid new number selector first second counted closed own same =
    ap desk_of whole ∙ (ap (λ (s : State). make s.variables (learned_in s.live) new.answers s.next) closed
    ∙ (ap (λ (n : ℕ). make n (learned_in (without_variable mid.solver.live selector)) new.answers mid.solver.next) same
    ∙ (ap (λ (n : ℕ). make old.solver.variables (learned_in (without_variable mid.solver.live n)) new.answers mid.solver.next) own
    ∙ ap (λ (n : ℕ). make old.solver.variables (learned_in (without_variable mid.solver.live (old.better.now.facts + number))) n mid.solver.next)
    (counted ∙ ap (λ (n : ℕ). n + 1) (ap (λ (w : Work). w.answers) first)))))
  where
    whole : new ≡ record old { solver = new.solver; answers = new.answers; cores = mid.cores }
    whole = second ∙ ap (λ (w : Work). record w { solver = new.solver; answers = new.answers }) first

    make : ℕ → List Learned → ℕ → ℕ → DeskState
    make variables learned answers clauses = record {
      conflicts = old.conflicts.now;
      better = old.better.now;
      plan = old.plan;
      selectors = variables - old.conflicts.now.facts;
      learned = learned;
      answers = answers;
      clauses = clauses;
      cores = mid.cores;
      failed = false;
    }

-- a desk by its work
abbrev pub desk_with : Work → ℕ → Bool → DeskState
desk_with work selectors failed = record {
  conflicts = work.conflicts.now;
  better = work.better.now;
  plan = work.plan;
  selectors = selectors;
  learned = learned_in work.solver.live;
  answers = work.answers;
  clauses = work.solver.next;
  cores = work.cores;
  failed = failed;
}

pub desk_is : (work : Work) (selectors : ℕ) (failed : Bool) → failed ≡ false → work.solver.variables ≡ work.conflicts.now.facts + selectors
    → desk_of work ≡ desk_with work selectors failed
desk_is work selectors failed whole variables =
    let same : work.solver.variables - work.conflicts.now.facts ≡ selectors = omega arith in
    ap (λ (n : ℕ). desk_with work n false) same ∙ ap (λ (b : Bool). desk_with work selectors b) (sym whole)

-- what holds after Ok, by two things that do
pub ok_two : {T E : Type 0} (A B C : Type 0) (r : Result T E) → (A → B → C) → OnOk r A → OnOk r B → OnOk r C
ok_two A B C (Ok v) both a b = both a b
ok_two A B C (Err e) both a b = tt

-- ---- what its calls say

-- it is opened
pub opened : (old mid : Work) (number : ℕ) (tuple : List ℕ) (causes : List (List ℕ)) (members : List ℕ) (opening : Opening)
    → mid ≡ record old { solver = mid.solver } → IsReady (desk_of old) old.solver → IsPriority old.better.now → MayAnswer (desk_of old) number causes
    → IsOpen mid.conflicts.now mid.better.now mid.solver opening causes → opening.selector ≡ old.conflicts.now.facts + number
    → ShowsNothing causes opening.evidence → Loads (map (cause_clause (old.conflicts.now.facts + number)) causes) old.solver mid.solver
    → HasOpened (desk_of old) number tuple causes members mid.solver opening
opened old mid number tuple causes members opening only ready order may is_open selector nothing loads =
    open_follows (desk_of old) old.solver mid.solver number tuple causes members opening ready refl refl order may
    (subst (λ (w : Work). IsOpen w.conflicts.now w.better.now mid.solver opening causes) only is_open) selector nothing loads

module _ (old mid : Work) (number : ℕ) (tuple : List ℕ) (causes : List (List ℕ)) (members : List ℕ) (opening : Opening)
    (h : HasOpened (desk_of old) number tuple causes members mid.solver opening) (only : mid ≡ record old { solver = mid.solver }) where
  begun : FollowsOpen (frame_of (desk_of old) number tuple causes members h.facts) [] mid.solver mid.cores (AtBrave [] 0) opening.evidence
  begun = subst (λ (n : ℕ). FollowsOpen (frame_of (desk_of old) number tuple causes members h.facts) [] mid.solver n (AtBrave [] 0) opening.evidence)
      (sym (ap (λ (w : Work). w.cores) only)) h.follows

  here : (P : Frame → List Line → Type 0) → ForEachFrame mid.conflicts.now mid.better.now causes opening mid.plan.budget P
      → P (frame_of (desk_of old) number tuple causes members h.facts) []
  here P each = in_frame (desk_of old) number tuple causes members mid.solver opening h mid.conflicts.now mid.better.now mid.plan.budget P
      (ap (λ (w : Work). w.conflicts.now) only) (ap (λ (w : Work). w.better.now) only) (ap (λ (w : Work). w.plan.budget) only) each

  -- its questions are answered
  pub asked_on : (end : State) (cores : ℕ) (e : Evidence) (was now : Option (List Line))
      → ForEachFrame mid.conflicts.now mid.better.now causes opening mid.plan.budget
      (λ w more. FollowsOpen w more mid.solver mid.cores (AtBrave [] 0) opening.evidence → GoesOn w more end cores AtEnd e was now)
      → GoesOn (frame_of (desk_of old) number tuple causes members h.facts) [] end cores AtEnd e was now
  asked_on end cores e was now each = here
      (λ w more. FollowsOpen w more mid.solver mid.cores (AtBrave [] 0) opening.evidence → GoesOn w more end cores AtEnd e was now) each begun

  -- or a fault broke them off
  pub asked_off : (was now : Option (List Line)) (torn : Option Line) → ForEachFrame mid.conflicts.now mid.better.now causes opening mid.plan.budget
      (λ w more. FollowsOpen w more mid.solver mid.cores (AtBrave [] 0) opening.evidence → StopsAfter w more was now torn)
      → StopsAfter (frame_of (desk_of old) number tuple causes members h.facts) [] was now torn
  asked_off was now torn each = here
      (λ w more. FollowsOpen w more mid.solver mid.cores (AtBrave [] 0) opening.evidence → StopsAfter w more was now torn) each begun

  -- no core is taken back
  pub cores_stay : (end : State) (cores : ℕ) (e : Evidence) (was now : Option (List Line))
      → GoesOn (frame_of (desk_of old) number tuple causes members h.facts) [] end cores AtEnd e was now → old.cores ≤ cores
  cores_stay end cores e was now goes = let is = goes.1.cores_are in omega arith

module _ (old mid late new : Work) (number : ℕ) (tuple : List ℕ) (causes : List (List ℕ)) (members : List ℕ) (opening last : Opening)
    (h : HasOpened (desk_of old) number tuple causes members mid.solver opening) (ready : IsReady (desk_of old) old.solver)
    (may : MayAnswer (desk_of old) number causes) (only : mid ≡ record old { solver = mid.solver })
    (only_late : late ≡ record mid { solver = late.solver; cores = late.cores })
    (only_new : new ≡ record late { solver = new.solver; answers = new.answers }) (selector : opening.selector ≡ old.conflicts.now.facts + number)
    (same_opening : IsSameOpening opening last) (variables : late.solver.variables ≡ old.solver.variables)
    (counted : late.cores ≤ mid.cores + length causes + 2) where
  only_both : late ≡ record old { solver = late.solver; cores = late.cores }
  only_both = only_late ∙ ap (λ (w : Work). record w { solver = late.solver; cores = late.cores }) only

  own : last.selector ≡ old.better.now.facts + number
  own = same_opening.selector ∙ (selector ∙ sym (ap (λ (n : ℕ). n + number) ready.over.facts))

  pub closed_desk : new.answers ≡ late.answers + 1
      → new.solver ≡ record late.solver { live = without_variable late.solver.live last.selector; values = None }
      → desk_of new ≡ desk_after (desk_of old) late.solver number late.cores
  closed_desk more closed = desk_closed old late new number last.selector only_both only_new more closed own variables

  pub closed_again : (opened_lines now : Option (List Line))
      → GoesOn (frame_of (desk_of old) number tuple causes members h.facts) [] late.solver late.cores AtEnd last.evidence opened_lines now
      → new.answers ≡ late.answers + 1
      → new.solver ≡ record late.solver { live = without_variable late.solver.live last.selector; values = None } → IsReady (desk_of new) new.solver
  closed_again opened_lines now goes more closed =
      closed_ready (desk_of old) number tuple causes members mid.solver opening h old.solver ready may opened_lines now late.solver late.cores
      last.evidence goes variables (let same = ap (λ (w : Work). w.cores) only in omega arith) (desk_of new) new.solver (closed_desk more closed)
      (closed ∙ ap (λ (n : ℕ). record late.solver { live = without_variable late.solver.live n; values = None }) own)

module _ (work : Work) (selectors : ℕ) (failed : Bool) (desk : DeskState) (view : desk_with work selectors failed ≡ desk) (whole : desk.failed ≡ false)
    (ready : failed ≡ false → IsReady (desk_with work selectors failed) work.solver) where
  not_failed : failed ≡ false
  not_failed = ap (λ (d : DeskState). d.failed) view ∙ whole

  is_ready : IsReady (desk_with work selectors failed) work.solver
  is_ready = ready not_failed

  own_desk : desk_of work ≡ desk_with work selectors failed
  own_desk = desk_is work selectors failed not_failed is_ready.variables

  pub desk_was : desk_of work ≡ desk
  desk_was = own_desk ∙ view

  pub desk_ready : IsReady (desk_of work) work.solver
  desk_ready = subst (λ (d : DeskState). IsReady d work.solver) (sym own_desk) is_ready

  module _ (new : Work) (only : new ≡ record work { solver = new.solver; answers = new.answers; cores = new.cores }) where
    pub desk_stays : (now : Bool) → IsSameDesk desk (desk_with new selectors now)
    desk_stays now = record {
      conflicts = ap (λ (w : Work). w.conflicts.now) only ∙ ap (λ (d : DeskState). d.conflicts) view;
      better = ap (λ (w : Work). w.better.now) only ∙ ap (λ (d : DeskState). d.better) view;
      plan = ap (λ (w : Work). w.plan) only ∙ ap (λ (d : DeskState). d.plan) view;
      selectors = ap (λ (d : DeskState). d.selectors) view;
    }

    pub desk_next : new.solver.variables ≡ work.solver.variables → desk_of new ≡ desk_with new selectors false
    desk_next same = desk_is new selectors false refl
        (same ∙ (is_ready.variables ∙ ap (λ (n : ℕ). n + selectors) (sym (ap (λ (w : Work). w.conflicts.now.facts) only))))

  -- what is said of the desk of a work is said of the desk
  pub right_of : (new next : DeskState) → new ≡ next → (number : ℕ) (tuple : List ℕ) (causes : List (List ℕ)) (members : List ℕ)
      (names : List (List ℕ)) (was now : Option (List Line)) (torn : Option Line) (r : Result Verdicts ClassifyFault)
      → AnswersRight (desk_of work) new number tuple causes members names was now torn r
      → AnswersRight desk next number tuple causes members names was now torn r
  right_of new next same number tuple causes members names was now torn r x =
      subst (λ (d : DeskState). AnswersRight d next number tuple causes members names was now torn r) desk_was
      (subst (λ (d : DeskState). AnswersRight (desk_of work) d number tuple causes members names was now torn r) same x)
