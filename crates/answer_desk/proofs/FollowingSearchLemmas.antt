-- A try begins with its line, and a search learns clauses in it.
use Rattle.std.proofs.Common.{◌≡◌, ℕ, ◌+◌, ◌<◌, ◌≤◌, ◌⊎◌, ◌↔◌, inl, inr, List, [], ◌∷◌, ◌++◌, map, length, Contains, refl, sym, subst, ap, ◌∙◌, arith}
use Rattle.std.proofs.Common.{Option, Some, None}
use Rattle.std.proofs.lemmas.List.{append_assoc}
use Rattle.std.proofs.lemmas.List.Elements.{Contains-push, Contains-push_cases, Contains-append_left}
use Rattle.cq_terms.specs.Knowledge.{Knowledge}
use Rattle.cq_terms.specs.Query.{Query}
use Rattle.clause_meaning.specs.Assignments.{Inside}
use Rattle.clause_meaning.specs.Learning.{IsLearnableIn}
use Rattle.clause_meaning.specs.Refutation.{Refutes}
use Rattle.priority_graph.specs.Split.{has}
use Rattle.cdcl_core.specs.State.{State, LiveClause, LiveIn}
use Rattle.proof_logs.specs.Logs.{Learned}
use Rattle.cdcl_core.specs.Learning.{IsRefuted, MayLearn, AreLearned, with_learned, with_all}
use Rattle.cdcl_core.specs.Solving.{Learns, cleared}
use Rattle.cdcl_core.specs.declared.outcome.Budget.{Budget}
use Rattle.report_text.specs.declared.line.Line.{Line}
use Rattle.report_text.specs.declared.line.Line.TheVariants as line
use Rattle.report_text.specs.declared.line.Question.{Question}
use Rattle.report_text.specs.declared.line.How.{How}
use Rattle.repair_clauses.specs.BaseClauses.{AllFacts, IsBaseClause}
use Rattle.report_rules.specs.declared.place.Place.TheVariants.{InTry}
use Rattle.report_rules.specs.Inputs.{Input, report_on}
use Rattle.report_rules.specs.Clauses.{IsCauseClause}
use Rattle.report_rules.specs.Order.{place_of}
use Rattle.report_rules.specs.Told.{budget_of}
use Rattle.report_rules.specs.Tries.{asked, question_of, assumed, Tried}
use Rattle.report_rules.specs.Live as rules
use Rattle.report_rules.specs.Live.{learned, learned_for, count_learned, same_question}
use Rattle.report_rules.specs.TryRules.{TryIsRight}
use Rattle.report_laws.specs.OpenAnswers.{RightInside, Tells}
use Rattle.report_laws.specs.Scopes.{scope_of, KeepsScope}
use Rattle.report_laws.specs.SolverSteps.{IsSolving, StepsAreRight, IsRefutedIn}
use Rattle.report_laws.proofs.SolverLemmas.{steps_right}
use Rattle.answer_evidence.specs.declared.evidence.Evidence.{Evidence}
use Rattle.answer_desk.specs.Desks.{given_in, learned_in}
use Rattle.answer_evidence.specs.Logging.{learn_line}
use Rattle.answer_desk.specs.Following.{Frame, own_selector, own_scope, lines_on, IsToldBefore, IsBaseOf, Follows, Stage, FollowsOpen, FollowsTry}
use Rattle.answer_desk.specs.Following.{learn_lines, try_lines, IsNextInside, Stops}
use Rattle.answer_desk.proofs.FollowingLineLemmas.{learn_lines_more, question_own, try_lines_on}
use Rattle.answer_desk.proofs.FollowingLiveLemmas.{IsAt, at, solving}
use Rattle.answer_desk.proofs.LiveLemmas.{given_more, learned_more, literals_listed}

-- ---- one more line

-- lines that tell as many facts
pub told_by : (w : Frame) (kb : Knowledge) → IsBaseOf w kb → (before : List Line) → Tells (length kb.facts) w.start before → IsToldBefore w before
told_by w kb of before told = subst (λ n. Tells n w.start before) (sym of.facts) told

-- a `try` line
pub follows_try : (w : Frame) (more : List Line) (state : State) → Follows w more state → (q : Question) (assume : List ℕ)
    → IsNextInside w more (line.Try q assume) → Follows w (line.Try q assume ∷ more) state
follows_try w more state f q assume n = record {
  frame = f.frame;
  given = f.given;
  learned_are = f.learned_are;
  next = f.next;
  answered = λ input before of told. (n.right input before of told, f.answered input before of told);
  numbered = (tt, f.numbered);
  keeps = λ kb of before told. let k = f.keeps kb of before told in record { scope = k.scope; learned = k.learned };
}

-- a `done` line
pub follows_done : (w : Frame) (more : List Line) (state : State) → Follows w more state → (h : How) (core : Option ℕ)
    → IsNextInside w more (line.Done h core) → Follows w (line.Done h core ∷ more) state
follows_done w more state f h core n = record {
  frame = f.frame;
  given = f.given;
  learned_are = f.learned_are;
  next = f.next;
  answered = λ input before of told. (n.right input before of told, f.answered input before of told);
  numbered = (tt, f.numbered);
  keeps = λ kb of before told. let k = f.keeps kb of before told in record { scope = k.scope; learned = k.learned };
}

-- a `core` line
pub follows_core : (w : Frame) (more : List Line) (state : State) → Follows w more state → (number : ℕ) (kept dropped : List ℕ)
    → IsNextInside w more (line.Core number kept dropped) → Follows w (line.Core number kept dropped ∷ more) state
follows_core w more state f number kept dropped n = record {
  frame = f.frame;
  given = f.given;
  learned_are = f.learned_are;
  next = f.next;
  answered = λ input before of told. (n.right input before of told, f.answered input before of told);
  numbered = (n.number, f.numbered);
  keeps = λ kb of before told. let k = f.keeps kb of before told in record { scope = k.scope; learned = k.learned };
}

-- lines that end with a fault, at a line or between two
pub stops_at : (w : Frame) (more : List Line) (state : State) → Follows w more state → (l : Line) → IsNextInside w more l → Stops w more (Some l)
stops_at w more state f l n = record { answered = f.answered; numbered = f.numbered; torn_right = n }

pub stops_here : (w : Frame) (more : List Line) (state : State) → Follows w more state → Stops w more None
stops_here w more state f = record { answered = f.answered; numbered = f.numbered; torn_right = tt }

-- ---- learned clauses

-- inside a try of the question
pub record IsTrying (q : Question) (assume : List ℕ) (used : ℕ) (lines : List Line) : Type 0 where
  pub place : place_of lines ≡ InTry
  pub question_is : question_of lines ≡ q
  pub assumed_is : assumed lines ≡ assume
  pub used_is : learned_for q lines ≡ used

trying_more : (q : Question) (assume : List ℕ) (used n : ℕ) (c : List ℕ) (lines : List Line) → IsTrying q assume used lines
    → IsTrying q assume (used + 1) (line.Learn n c ∷ lines)
trying_more q assume used n c lines t = record {
  place = refl;
  question_is = t.question_is;
  assumed_is = t.assumed_is;
  used_is = rw t.question_is (rw (question_own q) (let u = t.used_is in omega arith));
}

no_query : Query
no_query = record { head = []; body = [] }

module _ (w : Frame) (more : List Line) (state : State) (f : Follows w more state) (q : Question) (assume : List ℕ) (used : ℕ)
    (trying : (before : List Line) → IsToldBefore w before → IsTrying q assume used (lines_on w more before)) where
  -- what the rules ask of a step is what the solver says
  module _ (input : Input) (before : List Line) (of : IsBaseOf w input.kb) (told : Tells (length input.kb.facts) w.start before) where
    pub now : IsTrying q assume used (lines_on w more before)
    now = trying before (told_by w input.kb of before told)

    pub stands : IsAt w more input before
    stands = at w more state f input before of told

    pub steps : StepsAreRight input (lines_on w more before) w.facts (LiveIn state)
    steps = steps_right input (lines_on w more before) w.facts (LiveIn state) (solving w more state f input before of told now.place) stands.acyclic

    pub refuted_there : IsRefuted state (own_scope w) assume → IsRefutedIn input (lines_on w more before) w.facts (LiveIn state)
    refuted_there r = subst (λ (s : List ℕ). Refutes (Inside (has s) (LiveIn state)) (Contains (assumed (lines_on w more before)))) stands.scoped
        (subst (λ (a : List ℕ). Refutes (Inside (has (own_scope w)) (LiveIn state)) (Contains a)) (sym now.assumed_is) r)

    pub refuted_back : IsRefutedIn input (lines_on w more before) w.facts (LiveIn state) → IsRefuted state (own_scope w) assume
    refuted_back r = subst (λ (a : List ℕ). Refutes (Inside (has (own_scope w)) (LiveIn state)) (Contains a)) now.assumed_is
        (subst (λ (s : List ℕ). Refutes (Inside (has s) (LiveIn state)) (Contains (assumed (lines_on w more before)))) (sym stands.scoped) r)

    module _ (entry : Learned) (may : MayLearn state (own_scope w) assume entry) (few : used < w.start.budget) where
      lesson : IsLearnableIn (scope_of input.kb (asked (lines_on w more before)) w.facts) (LiveIn state) entry.clause
      lesson = subst (λ (s : List ℕ). IsLearnableIn s (LiveIn state) entry.clause) stands.scoped may.fresh.lesson

      in_budget : learned_for (question_of (lines_on w more before)) (lines_on w more before) < budget_of (lines_on w more before)
      in_budget = subst (λ (x : Question). learned_for x (lines_on w more before) < budget_of (lines_on w more before)) (sym now.question_is)
          (let u = now.used_is in let b = stands.same_budget in omega arith)

      step : RightInside input (lines_on w more before) (line.Learn entry.number entry.clause)
          × ((all : List (List ℕ)) → ((c : List ℕ) → Contains all c ↔ (LiveIn state c ⊎ (c ≡ entry.clause)))
          → IsSolving input (line.Learn entry.number entry.clause ∷ lines_on w more before) w.facts (Contains all))
      step = steps.learn entry.number entry.clause lesson (λ r. may.unrefuted (refuted_back r)) in_budget

      right_learned : RightInside input (lines_on w more before) (line.Learn entry.number entry.clause)
      right_learned = step.0

      kept_learned : KeepsScope input.kb (line.Learn entry.number entry.clause ∷ lines_on w more before) w.facts
      kept_learned = (step.1 (map (λ (x : LiveClause). x.literals) state.live ++ entry.clause ∷ []) both).keeps
        where
          both : (c : List ℕ) → Contains (map (λ (x : LiveClause). x.literals) state.live ++ entry.clause ∷ []) c ↔ (LiveIn state c ⊎ (c ≡ entry.clause))
          both c = (
            (λ m. elim (Contains-push_cases (map (λ (x : LiveClause). x.literals) state.live) entry.clause c m)
                [ inl old ↦ inl ((literals_listed state.live c).0 old) | inr e ↦ inr (sym e) ]),
            (λ h. elim h [
              | inl old ↦ Contains-append_left (map (λ (x : LiveClause). x.literals) state.live) (entry.clause ∷ []) c ((literals_listed state.live c).1 old)
              | inr e ↦ subst (Contains (map (λ (x : LiveClause). x.literals) state.live ++ entry.clause ∷ [])) (sym e)
                  (Contains-push (map (λ (x : LiveClause). x.literals) state.live) entry.clause)
            ]),
          )

  -- a clause that may be learned has its line
  module _ (entry : Learned) (may : MayLearn state (own_scope w) assume entry) (few : used < w.start.budget) where
    pub next_learned : IsNextInside w more (learn_line entry)
    next_learned = record { right = λ input before of told. right_learned input before of told entry may few; number = may.fresh.number ∙ f.next }

    follows_learned : Follows w (learn_line entry ∷ more) (with_learned state entry)
    follows_learned = record {
      frame = f.frame;
      given = λ c. subst (λ (gs : List (List ℕ)). Contains gs c ↔ (IsBaseClause w.better (AllFacts w.better) c
          ⊎ IsCauseClause (own_selector w) w.asked.causes c))
          (sym (given_more state.live entry.number entry.clause)) (f.given c);
      learned_are = learned_more state.live entry.number entry.clause
          ∙ (ap (λ (xs : List rules.Learned). xs ++ record { number = entry.number; clause = entry.clause } ∷ []) f.learned_are
          ∙ append_assoc w.start.learned (learned w.better.facts more) (record { number = entry.number; clause = entry.clause } ∷ []));
      next = (let n = f.next in omega arith);
      answered = λ input before of told. (right_learned input before of told entry may few, f.answered input before of told);
      numbered = (may.fresh.number ∙ f.next, f.numbered);
      keeps = λ kb of before told. kept_learned (report_on kb [] no_query) before of told entry may few;
    }

-- so have all that a search learns
pub record HasLearned (w : Frame) (more : List Line) (state : State) (q : Question) (assume : List ℕ) (used : ℕ) : Type 0 where
  pub follows : Follows w more state
  pub trying : (before : List Line) → IsToldBefore w before → IsTrying q assume used (lines_on w more before)

pub learned_one : (w : Frame) (q : Question) (assume : List ℕ) (e : Learned) (more : List Line) (state : State) (used : ℕ)
    → HasLearned w more state q assume used → MayLearn state (own_scope w) assume e → used < w.start.budget
    → HasLearned w (learn_line e ∷ more) (with_learned state e) q assume (used + 1)
learned_one w q assume e more state used h may few = record {
  follows = follows_learned w more state h.follows q assume used h.trying e may few;
  trying = λ before told. trying_more q assume used e.number e.clause (lines_on w more before) (h.trying before told);
}

learned_all : (w : Frame) (q : Question) (assume : List ℕ) (entries : List Learned) (more : List Line) (state : State) (used : ℕ)
    → HasLearned w more state q assume used → AreLearned state (own_scope w) assume entries → used + length entries ≤ w.start.budget
    → HasLearned w (learn_lines entries ++ more) (with_all state entries) q assume (used + length entries)
learned_all w q assume [] more state used h may few =
    let same : used ≡ used + 0 = omega arith in
    record { follows = h.follows; trying = λ before told. subst (λ (n : ℕ). IsTrying q assume n (lines_on w more before)) same (h.trying before told) }
learned_all w q assume (e ∷ es) more state used h (may, rest) few =
    let less : used < w.start.budget = omega arith in
    let few' : (used + 1) + length es ≤ w.start.budget = omega arith in
    let same : (used + 1) + length es ≡ used + length (e ∷ es) = omega arith in
    let all = learned_all w q assume es (learn_line e ∷ more) (with_learned state e) (used + 1) (learned_one w q assume e more state used h may less) rest
    few' in
    subst (λ (xs : List Line). HasLearned w xs (with_all (with_learned state e) es) q assume (used + length (e ∷ es))) (sym (learn_lines_more e es more))
    (subst (λ (n : ℕ). HasLearned w (learn_lines es ++ learn_line e ∷ more) (with_all (with_learned state e) es) q assume n) same all)

-- ---- a try

-- a try that may be begun begins
-- its line is the next
pub next_try : (w : Frame) (more : List Line) (state : State) (cores : ℕ) (stage : Stage) (e : Evidence) → FollowsOpen w more state cores stage e
    → (q : Question) (assume : List ℕ)
    → ((input : Input) (before : List Line) → IsBaseOf w input.kb → Tells (length input.kb.facts) w.start before
    → TryIsRight input (lines_on w more before) q assume)
    → IsNextInside w more (line.Try q assume)
next_try w more state cores stage e o q assume right = record {
  right = λ input before of told.
      record { order = (o.shows before (told_by w input.kb of before told)).between; own = right input before of told };
  number = tt;
}

-- and the answer goes on in it
pub try_begins : (w : Frame) (more : List Line) (state : State) (cores : ℕ) (stage : Stage) (e : Evidence) → FollowsOpen w more state cores stage e
    → (q : Question) (assume : List ℕ) (used : ℕ) → IsNextInside w more (line.Try q assume)
    → ((before : List Line) → IsToldBefore w before → ¬ Tried q assume (lines_on w more before))
    → ((before : List Line) → IsToldBefore w before → learned_for q (lines_on w more before) ≡ used)
    → FollowsTry w more q assume used [] state cores stage e
try_begins w more state cores stage e o q assume used n new used_is = record {
  follows = follows_try w more state o.follows q assume n;
  cores_are = o.cores_are;
  shows = o.shows;
  new = new;
  used_is = used_is;
}

-- what the `try` line tells
try_trying : (w : Frame) (more : List Line) (q : Question) (assume : List ℕ) (used : ℕ)
    → ((before : List Line) → IsToldBefore w before → learned_for q (lines_on w more before) ≡ used)
    → (before : List Line) → IsToldBefore w before → IsTrying q assume used (lines_on w (line.Try q assume ∷ more) before)
try_trying w more q assume used used_is before told = record { place = refl; question_is = refl; assumed_is = refl; used_is = used_is before told }

pub fresh_state : (w : Frame) (more : List Line) (old new : State) → old.live ≡ new.live → old.next ≡ new.next → Follows w more old → Follows w more new
fresh_state w more old new live next f = record {
  frame = f.frame;
  given = λ c. subst (λ (l : List LiveClause). Contains (given_in l) c ↔ (IsBaseClause w.better (AllFacts w.better) c
      ⊎ IsCauseClause (own_selector w) w.asked.causes c)) live
      (f.given c);
  learned_are = sym (ap learned_in live) ∙ f.learned_are;
  next = sym next ∙ f.next;
  answered = f.answered;
  numbered = f.numbered;
  keeps = f.keeps;
}

-- a try before its search
pub begun : (w : Frame) (more : List Line) (q : Question) (assume : List ℕ) (used : ℕ) (old : State) (cores : ℕ) (stage : Stage) (e : Evidence)
    → FollowsTry w more q assume used [] old cores stage e → HasLearned w (line.Try q assume ∷ more) (cleared old) q assume used
begun w more q assume used old cores stage e t = record {
  follows = fresh_state w (line.Try q assume ∷ more) old (cleared old) refl refl t.follows;
  trying = try_trying w more q assume used t.used_is;
}

-- a search in it learns clauses, each with its line
pub try_learns : (w : Frame) (more : List Line) (q : Question) (assume : List ℕ) (used : ℕ) (old new : State) (cores : ℕ) (stage : Stage) (e : Evidence)
    → FollowsTry w more q assume used [] old cores stage e → (was now : Budget) (entries : List Learned)
    → Learns (cleared old) (cleared new) (own_scope w) assume was now entries → was.used ≡ used → was.limit ≡ w.start.budget
    → FollowsTry w more q assume used entries new cores stage e
try_learns w more q assume used old new cores stage e t was now entries l u b =
    let used_now = l.used in
    let within = l.within in
    let limit = l.limit in
    let few : used + length entries ≤ w.start.budget = omega arith in
    let all = learned_all w q assume entries (line.Try q assume ∷ more) (cleared old) used (begun w more q assume used old cores stage e t) l.may few in
    record {
      follows = fresh_state w (try_lines q assume entries more) (with_all (cleared old) entries) new (sym (ap (λ (s : State). s.live) l.live))
          (sym (ap (λ (s : State). s.next) l.live)) all.follows;
      cores_are = t.cores_are;
      shows = t.shows;
      new = t.new;
      used_is = t.used_is;
    }

-- where it stands after the search
pub trying_all : (q : Question) (assume : List ℕ) (es : List Learned) (lines : List Line) (n : ℕ) → IsTrying q assume n lines
    → IsTrying q assume (n + length es) (learn_lines es ++ lines)
trying_all q assume [] lines n t = let same : n ≡ n + 0 = omega arith in subst (λ (m : ℕ). IsTrying q assume m lines) same t
trying_all q assume (e ∷ es) lines n t =
    let same : (n + 1) + length es ≡ n + length (e ∷ es) = omega arith in
    let rest = trying_all q assume es (learn_line e ∷ lines) (n + 1) (trying_more q assume n e.number e.clause lines t) in
    subst (IsTrying q assume (n + length (e ∷ es))) (sym (learn_lines_more e es lines))
    (subst (λ (m : ℕ). IsTrying q assume m (learn_lines es ++ learn_line e ∷ lines)) same rest)

pub trying_on : (w : Frame) (more : List Line) (q : Question) (assume : List ℕ) (used : ℕ) (entries : List Learned)
    → ((before : List Line) → IsToldBefore w before → learned_for q (lines_on w more before) ≡ used)
    → (before : List Line) → IsToldBefore w before → IsTrying q assume (used + length entries) (lines_on w (try_lines q assume entries more) before)
trying_on w more q assume used entries used_is before told =
    subst (IsTrying q assume (used + length entries)) (sym (try_lines_on w q assume entries more before))
    (trying_all q assume entries (line.Try q assume ∷ lines_on w more before) used (try_trying w more q assume used used_is before told))
