-- The end of an answer: what it says, and that its desk is ready again.
use Rattle.std.proofs.Common.{◌≡◌, ◌≢◌, ℕ, suc, ◌+◌, ◌*◌, ◌^◌, ◌<◌, ◌≤◌, ◌↔◌, inl, inr, List, [], ◌∷◌, ◌++◌, length, Contains, Bool, true, false, not}
use Rattle.std.proofs.Common.{refl, sym, subst, ap, ◌∙◌, arith, filter, cond, eqb, Option, Some, None, length-append}
use Rattle.std.proofs.lemmas.Bool.{or_from, ne_eqb, eq-eqb, or_left, or_right}
use Rattle.std.proofs.lemmas.List.Elements.{All-contains, Contains-push}
use Rattle.cq_terms.specs.Knowledge.{Knowledge}
use Rattle.cq_terms.specs.Query.{Query}
use Rattle.cq_meaning.proofs.Members.{Contains-head, Contains-later, Contains-cases, Contains-nil}
use Rattle.clause_meaning.specs.Literals.{variable_of}
use Rattle.clause_meaning.proofs.Members.{Contains-map}
use Rattle.priority_graph.specs.Priority.{IsPriority}
use Rattle.priority_graph.specs.Inputs.{IsPriorityOf}
use Rattle.priority_graph.specs.Split.{has}
use Rattle.repair_clauses.specs.BaseClauses.{AllFacts, IsBaseClause, absent}
use Rattle.repair_clauses.proofs.LiteralLemmas.{variable_of-absent}
use Rattle.cdcl_core.specs.State.{State, LiveClause, without_variable, mentions}
use Rattle.report_text.specs.declared.line.Line.{Line}
use Rattle.report_text.specs.declared.line.Line.TheVariants as line
use Rattle.report_text.specs.declared.line.Question.{Question}
use Rattle.report_text.specs.declared.line.Question.TheVariants as question
use Rattle.report_text.specs.declared.line.Verdict.{Verdict}
use Rattle.report_rules.specs.Inputs.{Input, report_on}
use Rattle.report_rules.specs.Told.{budget_of}
use Rattle.report_rules.specs.Tries.{asked}
use Rattle.report_rules.specs.Live.{Learned, learned, has_variable, count_learned}
use Rattle.report_laws.specs.OpenAnswers.{HoldInChosen, IsAmong, Tells}
use Rattle.report_laws.specs.Readings.{Holds, IsTrueVerdict}
use Rattle.report_laws.specs.OverPriority.{FitsMode}
use Rattle.report_laws.specs.Scopes.{AreApart, KeepsScope}
use Rattle.report_laws.specs.Bounds.{AreReached}
use Rattle.report_laws.specs.Counting.{count_clauses}
use Rattle.report_laws.specs.DeskAnswers.{ask_line, AreRightInside, IsSaidOver, left_after}
use Rattle.report_laws.proofs.DeskLemmas.{answered_true, answered_decided, answered_in_all, answered_keeps, added_answer, options_stay}
use Rattle.report_laws.proofs.ListLemmas.{Contains-filter, filter-Contains}
use Rattle.report_laws.proofs.LiveLemmas.{lacks}
use Rattle.report_laws.proofs.OverPriorityLemmas.{some_base}
use Rattle.report_laws.proofs.ScopeLemmas.{base_known}
use Rattle.report_laws.proofs.StartLemmas.{start_told}
use Rattle.report_laws.proofs.TryCounts.{clauses_are_few}
use Rattle.answer_evidence.specs.declared.evidence.Evidence.{Evidence}
use Rattle.answer_desk.specs.declared.plan.Verdicts.{Verdicts}
use Rattle.answer_desk.specs.Answering.{TellTruth, DecideOverAll, DecideByBudget, SaysVerdicts}
use Rattle.answer_desk.specs.Desks.{DeskState, start_at, MayAnswer, IsReady, given_in, put_given, learned_in, put_learned}
use Rattle.answer_evidence.specs.FreeCauses.{IsFreeCause}
use Rattle.answer_evidence.specs.Shown.{verdict_in}
use Rattle.answer_desk.specs.Following.{Frame, frame_of, own_selector, lines_on, IsBaseOf, IsFrame, Follows, Stage, AtEnd, FollowsOpen}
use Rattle.answer_desk.proofs.FollowingLineLemmas.{count_cores-on}
use Rattle.answer_desk.proofs.FollowingVerdictLemmas.{verdict_said}
use Rattle.answer_desk.proofs.FollowingSearchLemmas.{told_by}

-- ---- what is said

-- the verdicts of the evidence are what the lines ask for, with any numbers of cores of the answer
pub verdicts_said : (w : Frame) (more : List Line) (state : State) (cores : ℕ) (e : Evidence) → FollowsOpen w more state cores AtEnd e
    → (numbers : List ℕ) → ((n : ℕ) → Contains numbers n → (w.start.cores ≤ n) × (n < cores)) → (q : Question)
    → IsSaidOver w.better w.start w.asked w.members more numbers q (verdict_in e q)
verdicts_said w more state cores e o numbers own q kb before of told =
    let before_told = told_by w kb of before told in
    let s = o.shows before before_told in
    verdict_said w e (lines_on w more before) s.asks s.cores s.tries s.over kb of.facts numbers
    (λ n m. let l = (own n m).0 in let k = (own n m).1 in let c = count_cores-on w more before in let start = before_told.cores in let now = o.cores_are in
    (s.named n).1 (l, omega arith)) s.stands q

-- ---- what is promised of the three verdicts, whatever report is told

module _ (desk : DeskState) (number : ℕ) (tuple : List ℕ) (causes : List (List ℕ)) (members facts : List ℕ) (more : List Line) (state : State) (cores : ℕ)
    (e : Evidence) (o : FollowsOpen (frame_of desk number tuple causes members facts) more state cores AtEnd e) (v : Verdicts) (are : SaysVerdicts e v)
  where
    said : (q : Question) (x : Verdict) → x ≡ verdict_in e q
        → IsSaidOver desk.better (start_at desk) (record { candidate = number; tuple = tuple; causes = causes }) members more [] q x
    said q x same = subst (λ (y : Verdict).
        IsSaidOver desk.better (start_at desk) (record { candidate = number; tuple = tuple; causes = causes }) members more [] q y) (sym same)
        (verdicts_said (frame_of desk number tuple causes members facts) more state cores e o [] (λ n m. absurd (Contains-nil n m)) q)

    pub tells_truth : TellTruth desk tuple causes v
    tells_truth kb q place = record {
      brave = true_of question.Brave v.brave are.brave;
      ar = true_of question.Ar v.ar are.ar;
      iar = true_of question.Iar v.iar are.iar;
    }
      where
        true_of : (x : Question) (y : Verdict) → y ≡ verdict_in e x → IsTrueVerdict (Holds kb desk.plan.repairs q tuple x) y
        true_of x y same = answered_true desk.better o.follows.frame.priority (start_at desk) o.follows.frame.count
            (record { candidate = number; tuple = tuple; causes = causes }) members more o.follows.answered kb q place.priority
            (o.follows.frame.hold kb place.priority) place.entailed place.causes_are [] x y (said x y same)

    pub decides_over_all : DecideOverAll desk causes v
    decides_over_all all = answered_in_all desk.better o.follows.frame.priority (start_at desk) o.follows.frame.count
        (record { candidate = number; tuple = tuple; causes = causes }) members more o.follows.answered all
        (subst (FitsMode desk.better) all o.follows.frame.fits)
        (λ cause m. let c = All-contains (IsFreeCause desk.better) causes cause o.follows.frame.causes_are m in (c.known, c.free)) [] v.brave v.ar v.iar
        (said question.Brave v.brave are.brave) (said question.Ar v.ar are.ar) (said question.Iar v.iar are.iar)

    pub decides_by_budget : DecideByBudget desk causes v
    decides_by_budget bound = (
      answered_decided desk.better o.follows.frame.priority (start_at desk) o.follows.frame.count
          (record { candidate = number; tuple = tuple; causes = causes }) members more o.follows.answered desk.conflicts o.follows.frame.over
          o.follows.frame.fits bound [] question.Brave v.brave (said question.Brave v.brave are.brave),
      answered_decided desk.better o.follows.frame.priority (start_at desk) o.follows.frame.count
          (record { candidate = number; tuple = tuple; causes = causes }) members more o.follows.answered desk.conflicts o.follows.frame.over
          o.follows.frame.fits bound [] question.Ar v.ar (said question.Ar v.ar are.ar),
      answered_decided desk.better o.follows.frame.priority (start_at desk) o.follows.frame.count
          (record { candidate = number; tuple = tuple; causes = causes }) members more o.follows.answered desk.conflicts o.follows.frame.over
          o.follows.frame.fits bound [] question.Iar v.iar (said question.Iar v.iar are.iar),
    )

-- ---- a frame of a desk that is ready

pub frame_ready : (desk : DeskState) (state : State) (number : ℕ) (tuple : List ℕ) (causes : List (List ℕ)) (members facts : List ℕ) → IsReady desk state
    → IsPriority desk.better → MayAnswer desk number causes → AreReached desk.conflicts causes facts
    → IsFrame (frame_of desk number tuple causes members facts)
frame_ready desk state number tuple causes members facts ready priority may reached = record {
  priority = priority;
  over = ready.over;
  fits = ready.fits;
  count = ready.count;
  hold = ready.hold;
  apart = ready.apart;
  causes_are = may.causes_are;
  reached = reached;
}

-- ---- the solver after the end

-- what lacks the variable stays
given_without : (live : List LiveClause) (v : ℕ) → given_in (without_variable live v) ≡ filter (λ (c : List ℕ). not (mentions v c)) (given_in live)
given_without [] v = refl
given_without (entry ∷ live) v = go (mentions v entry.literals) refl entry.number refl (given_without live v)
  where
    go : (b : Bool) → mentions v entry.literals ≡ b → (o : Option ℕ) → entry.number ≡ o
        → given_in (without_variable live v) ≡ filter (λ (c : List ℕ). not (mentions v c)) (given_in live)
        → given_in (cond (not (mentions v entry.literals)) (entry ∷ without_variable live v) (without_variable live v))
        ≡ filter (λ (c : List ℕ). not (mentions v c)) (put_given entry.number entry.literals (given_in live))
    go true m None n rest = rw m (rw n (rw m rest))
    go true m (Some k) n rest = rw m (rw n rest)
    go false m None n rest = rw m (rw n (rw m (ap (λ (xs : List (List ℕ)). entry.literals ∷ xs) rest)))
    go false m (Some k) n rest = rw m (rw n rest)

pub learned_without : (live : List LiveClause) (v : ℕ) → learned_in (without_variable live v)
    ≡ filter (λ (c : Learned). not (has_variable v c.clause)) (learned_in live)
learned_without [] v = refl
learned_without (entry ∷ live) v = go (mentions v entry.literals) refl entry.number refl (learned_without live v)
  where
    go : (b : Bool) → mentions v entry.literals ≡ b → (o : Option ℕ) → entry.number ≡ o
        → learned_in (without_variable live v) ≡ filter (λ (c : Learned). not (has_variable v c.clause)) (learned_in live)
        → learned_in (cond (not (mentions v entry.literals)) (entry ∷ without_variable live v) (without_variable live v))
        ≡ filter (λ (c : Learned). not (has_variable v c.clause)) (put_learned entry.number entry.literals (learned_in live))
    go true m None n rest = rw m (rw n rest)
    go true m (Some k) n rest = rw m (rw n (rw m rest))
    go false m None n rest = rw m (rw n rest)
    go false m (Some k) n rest = rw m (rw n (rw m (ap (λ (xs : List Learned). record { number = k; clause = entry.literals } ∷ xs) rest)))

-- a clause with a literal of the variable mentions it, and one without doesn't
mentions_it : (v : ℕ) (clause : List ℕ) (l : ℕ) → Contains clause l → variable_of l ≡ v → mentions v clause ≡ true
mentions_it v [] l m e = absurd (Contains-nil l m)
mentions_it v (x ∷ clause) l m e = elim (Contains-cases x clause l m) [
  | inl h ↦ or_left (eqb (variable_of x) v) (mentions v clause) (eq-eqb (variable_of x) v (ap variable_of h ∙ e))
  | inr k ↦ or_right (eqb (variable_of x) v) (mentions v clause) (mentions_it v clause l k e)
]

mentions_none : (v : ℕ) (clause : List ℕ) → ((l : ℕ) → Contains clause l → variable_of l ≢ v) → mentions v clause ≡ false
mentions_none v [] h = refl
mentions_none v (x ∷ clause) h = or_from (eqb (variable_of x) v) (mentions v clause) (ne_eqb (variable_of x) v (h x (Contains-head x clause)))
    (mentions_none v clause (λ l m. h l (Contains-later x clause l m)))

-- only the base clauses are left of the given ones
pub base_left : (w : Frame) (more : List Line) (state : State) → Follows w more state → (clause : List ℕ)
    → Contains (given_in (without_variable state.live (own_selector w))) clause ↔ IsBaseClause w.better (AllFacts w.better) clause
base_left w more state f clause = (to, from)
  where
    to : Contains (given_in (without_variable state.live (own_selector w))) clause → IsBaseClause w.better (AllFacts w.better) clause
    to m =
        let k = Contains-filter (λ (c : List ℕ). not (mentions (own_selector w) c)) (given_in state.live) clause
        (subst (λ (xs : List (List ℕ)). Contains xs clause) (given_without state.live (own_selector w)) m) in
        elim ((f.given clause).0 k.0) [
          | inl base ↦ base
          | inr (cause, member, e) ↦ absurd (lacks (own_selector w) clause k.1 (absent (own_selector w))
              (subst (λ (xs : List ℕ). Contains xs (absent (own_selector w))) (sym e)
              (Contains-map absent (cause ++ own_selector w ∷ []) (own_selector w) (Contains-push cause (own_selector w))))
              (variable_of-absent (own_selector w)))
        ]

    known : IsBaseClause w.better (AllFacts w.better) clause → (l : ℕ) → Contains clause l → variable_of l < w.better.facts
    known base l m =
        let (kb, of) = some_base w.better f.frame.priority w.start.mode f.frame.fits in
        subst (λ (n : ℕ). variable_of l < n) (sym of.facts) (base_known kb w.start.mode clause (w.better, of, base) l m)

    from : IsBaseClause w.better (AllFacts w.better) clause → Contains (given_in (without_variable state.live (own_selector w))) clause
    from base = subst (λ (xs : List (List ℕ)). Contains xs clause) (sym (given_without state.live (own_selector w)))
        (filter-Contains (λ (c : List ℕ). not (mentions (own_selector w) c)) (given_in state.live) clause ((f.given clause).1 (inl base))
        (ap not (mentions_none (own_selector w) clause (λ l m e. let k = known base l m in omega arith))))

-- ---- counts

-- no more learned clauses live than there were
filter_fewer : {X : Type 0} (p : X → Bool) (xs : List X) → length (filter p xs) ≤ length xs
filter_fewer p [] = omega arith
filter_fewer p (x ∷ xs) = go (p x) (filter_fewer p xs)
  where
    go : (b : Bool) → length (filter p xs) ≤ length xs → length (cond b (x ∷ filter p xs) (filter p xs)) ≤ suc (length xs)
    go true h = omega arith
    go false h = omega arith

learned_fewer : (n : ℕ) (lines : List Line) → length (learned n lines) ≤ count_learned lines
learned_fewer n [] = omega arith
learned_fewer n (line.Learn number clause ∷ b) =
    let h = learned_fewer n b in let l = length-append (learned n b) (record { number = number; clause = clause } ∷ []) in omega arith
learned_fewer n (line.Forget numbers ∷ b) =
    let h = learned_fewer n b in let f = filter_fewer (λ (c : Learned). not (has numbers c.number)) (learned n b) in omega arith
learned_fewer n (line.Answer brave ar iar cores names tuple ∷ b) =
    let h = learned_fewer n b in
    let f = filter_fewer (λ (c : Learned). not (has_variable (n + (asked b).candidate) c.clause)) (learned n b) in omega arith
learned_fewer n (line.Head axioms budget facts keep repairs version ∷ b) = learned_fewer n b
learned_fewer n (line.Cq o query step ∷ b) = learned_fewer n b
learned_fewer n (line.Conflict facts rule member ∷ b) = learned_fewer n b
learned_fewer n (line.Ask candidate tuple causes members ∷ b) = learned_fewer n b
learned_fewer n (line.Try q assume ∷ b) = learned_fewer n b
learned_fewer n (line.Core number kept dropped ∷ b) = learned_fewer n b
learned_fewer n (line.Done h core ∷ b) = learned_fewer n b
learned_fewer n (line.End answers brave ar iar undecided ∷ b) = learned_fewer n b

-- the `learn` lines of an answer are those that its lines count
counted : (input : Input) (base more : List Line) → AreRightInside input base more → count_clauses (more ++ base) ≡ count_learned more + count_clauses base
counted input base [] r = omega arith
counted input base (line.Learn number clause ∷ more) (r, rs) = let h = counted input base more rs in omega arith
counted input base (line.Try q assume ∷ more) (r, rs) = counted input base more rs
counted input base (line.Core number kept dropped ∷ more) (r, rs) = counted input base more rs
counted input base (line.Done h core ∷ more) (r, rs) = counted input base more rs
counted input base (line.Head axioms budget facts keep repairs version ∷ more) (r, rs) = absurd r.own
counted input base (line.Cq o query step ∷ more) (r, rs) = absurd r.own
counted input base (line.Conflict facts rule member ∷ more) (r, rs) = absurd r.own
counted input base (line.Ask candidate tuple causes members ∷ more) (r, rs) = absurd r.own
counted input base (line.Forget clauses ∷ more) (r, rs) = absurd r.own
counted input base (line.Answer brave ar iar cores names tuple ∷ more) (r, rs) = absurd r.own
counted input base (line.End answers brave ar iar undecided ∷ more) (r, rs) = absurd r.own

no_query : Query
no_query = record { head = []; body = [] }

-- at most three budgets of clauses are learned
pub few_learned : (w : Frame) (more : List Line) (state : State) → Follows w more state → count_learned more ≤ 3 * w.start.budget
few_learned w more state f = go (some_base w.better f.frame.priority w.start.mode f.frame.fits)
  where
    go : (kb : Knowledge) × IsPriorityOf kb w.start.mode w.better → count_learned more ≤ 3 * w.start.budget
    go (kb, of) =
        let input : Input = report_on kb [] no_query in
        let (before, told, ends, held) = start_told input w.start f.frame.count in
        let right = f.answered input before of told in
        let a = added_answer input w.asked w.members before more right in
        let options = options_stay input (lines_on w more before) a.0 in
        let few = clauses_are_few input (lines_on w more before) a.0 in
        let count = counted input (ask_line w.asked w.members ∷ before) more right in
        let budget = options.2 ∙ (ap budget_of a.1 ∙ told.budget) in
        omega arith

-- ---- the desk is ready again

module _ (w : Frame) (more : List Line) (state : State) (f : Follows w more state) where
  -- what the solver keeps of the learned clauses is what the answer leaves
  left_is : learned_in (without_variable state.live (own_selector w)) ≡ left_after w.better.facts w.start w.asked.candidate more
  left_is = learned_without state.live (own_selector w)
      ∙ ap (λ (xs : List Learned). filter (λ (c : Learned). not (has_variable (w.better.facts + w.asked.candidate) c.clause)) xs) f.learned_are

  left_count : length (learned_in (without_variable state.live (own_selector w))) ≤ state.next
  left_count =
      let short = filter_fewer (λ (c : Learned). not (has_variable (own_selector w) c.clause)) (learned_in state.live) in
      let same = ap length (learned_without state.live (own_selector w)) in
      let all = ap length f.learned_are in
      let both = length-append w.start.learned (learned w.better.facts more) in
      let start = f.frame.count in
      let new = learned_fewer w.better.facts more in
      let next = f.next in
      omega arith

  left_both : (kb : Knowledge) → IsBaseOf w kb → HoldInChosen kb w.start.mode (IsAmong (left_after (length kb.facts) w.start w.asked.candidate more))
      × ((facts : List ℕ) → ((before : List Line) → Tells (length kb.facts) w.start before → KeepsScope kb (lines_on w more before) facts)
      → AreApart kb (IsAmong (left_after (length kb.facts) w.start w.asked.candidate more)))
  left_both kb of = answered_keeps w.better f.frame.priority w.start f.frame.count w.asked w.members more f.answered kb of (f.frame.hold kb of)

  pub left_same : (kb : Knowledge) → IsBaseOf w kb
      → learned_in (without_variable state.live (own_selector w)) ≡ left_after (length kb.facts) w.start w.asked.candidate more
  left_same kb of = left_is ∙ ap (λ (n : ℕ). left_after n w.start w.asked.candidate more) of.facts

  left_hold : (kb : Knowledge) → IsBaseOf w kb → HoldInChosen kb w.start.mode (IsAmong (learned_in (without_variable state.live (own_selector w))))
  left_hold kb of = subst (λ (xs : List Learned). HoldInChosen kb w.start.mode (IsAmong xs)) (sym (left_same kb of)) (left_both kb of).0

  left_apart : (kb : Knowledge) → IsBaseOf w kb → AreApart kb (IsAmong (learned_in (without_variable state.live (own_selector w))))
  left_apart kb of = subst (λ (xs : List Learned). AreApart kb (IsAmong xs)) (sym (left_same kb of)) ((left_both kb of).1 w.facts (f.keeps kb of))

-- the desk after an answer, whose solver has these clauses and so many numbers
abbrev pub desk_after : DeskState → State → ℕ → ℕ → DeskState
desk_after desk state number cores = record desk {
  learned = learned_in (without_variable state.live (desk.better.facts + number));
  answers = desk.answers + 1;
  clauses = state.next;
  cores = cores;
}

pub ready_again : (desk : DeskState) (old : State) (number : ℕ) (tuple : List ℕ) (causes : List (List ℕ)) (members facts : List ℕ) → IsReady desk old
    → MayAnswer desk number causes → (more : List Line) (state : State) (cores : ℕ) (stage : Stage) (e : Evidence)
    → FollowsOpen (frame_of desk number tuple causes members facts) more state cores stage e → state.variables ≡ old.variables
    → cores ≤ desk.cores + 2 ^ 32
    → IsReady (desk_after desk state number cores) (record state { live = without_variable state.live (desk.better.facts + number); values = None })
ready_again desk old number tuple causes members facts ready may more state cores stage e o same few = record {
  over = ready.over;
  few = ready.few;
  fits = ready.fits;
  budget = ready.budget;
  variables = same ∙ ready.variables;
  base = base_left (frame_of desk number tuple causes members facts) more state o.follows;
  count = left_count (frame_of desk number tuple causes members facts) more state o.follows;
  answers = (let a = may.answers in omega arith);
  clauses = (let a = ready.clauses in let n = o.follows.next in let b = ready.budget in
      let c = few_learned (frame_of desk number tuple causes members facts) more state o.follows in
      omega arith);
  cores = (let a = ready.cores in omega arith);
  hold = left_hold (frame_of desk number tuple causes members facts) more state o.follows;
  apart = left_apart (frame_of desk number tuple causes members facts) more state o.follows;
}
