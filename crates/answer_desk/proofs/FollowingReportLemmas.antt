-- The lines of an answer where a report tells them: right one after the other, and after them the lines agree with the desk again.
use Rattle.std.proofs.Common.{◌≡◌, ℕ, ◌+◌, ◌<◌, ◌≤◌, inr, List, [], ◌∷◌, ◌++◌, length, Contains, not, refl, sym, subst, ap, ◌∙◌, arith}
use Rattle.std.proofs.Common.{Option, Some, None, IfSome, Ok, Err, filter}
use Rattle.std.specs.Prelude.{reverse}
use Rattle.std.specs.List.{AllByRecursion}
use Rattle.std.proofs.lemmas.List.Elements.{All-from_recursion}
use Rattle.std.proofs.lemmas.List.{append_assoc, reverse-append}
use Rattle.cq_meaning.proofs.Ascending.{All-of}
use Rattle.cdcl_core.specs.State.{State, without_variable}
use Rattle.report_text.specs.declared.line.Line.{Line}
use Rattle.report_text.specs.declared.line.Line.TheVariants as line
use Rattle.report_text.specs.declared.line.Question.{Question}
use Rattle.report_text.specs.declared.line.Question.TheVariants as question
use Rattle.report_text.specs.declared.line.How.{How}
use Rattle.report_text.specs.declared.line.Origin.{Origin}
use Rattle.report_text.specs.declared.line.Verdict.{Verdict}
use Rattle.report_text.specs.Reports.{StayTold}
use Rattle.report_rules.specs.declared.place.Place.TheVariants.{InAnswer, InBlock}
use Rattle.report_rules.specs.Inputs.{Input}
use Rattle.report_rules.specs.Order.{place_of}
use Rattle.report_rules.specs.Told.{keep_of, conflicts_of}
use Rattle.report_rules.specs.Tries.{Asked, count_cores}
use Rattle.report_rules.specs.Live.{Learned, learned, has_variable, count_learned}
use Rattle.report_rules.specs.ConflictLists.{AreConflictLists}
use Rattle.report_rules.specs.Evidence.{IsVerdict}
use Rattle.report_rules.specs.Accepted.{Right}
use Rattle.report_laws.specs.OpenAnswers.{HasNextNumber, CoresAreNumbered, CoresAreUnique}
use Rattle.report_laws.specs.DeskAnswers.{ask_line, AreRightInside}
use Rattle.report_laws.proofs.NumberLemmas.{cores_go_on}
use Rattle.report_laws.proofs.StartLemmas.{inside_right}
use Rattle.answer_evidence.specs.declared.evidence.Evidence.{Evidence}
use Rattle.answer_desk.specs.declared.plan.Verdicts.{Verdicts}
use Rattle.answer_desk.specs.declared.plan.ClassifyFault.{ClassifyFault}
use Rattle.answer_desk.specs.Answering.{AreRightAfter, IsOfTry, IsNext, AnswersRight}
use Rattle.answer_desk.specs.Desks.{DeskState, start_at, answer_lines, Agrees, learned_in}
use Rattle.answer_evidence.specs.Ranges.{IsRange}
use Rattle.answer_evidence.specs.Shown.{answer_line, verdict_in}
use Rattle.answer_desk.specs.Following.{Frame, frame_of, lines_on, IsToldBefore, AtEnd, Shows, FollowsOpen, HasNumber, AreNumbered}
use Rattle.answer_desk.specs.Following.{AddsLines, IsNextInside, Stops}
use Rattle.answer_desk.proofs.FollowingLineLemmas.{count_learned-on, count_cores-on}
use Rattle.answer_desk.proofs.FollowingLiveLemmas.{IsAt, at}
use Rattle.answer_desk.proofs.FollowingEndLemmas.{verdicts_said, desk_after, left_same}
use Rattle.answer_desk.proofs.FollowingSearchLemmas.{told_by}

-- ---- right lines behind others

after_append : (input : Input) (base : List Line) (xs ys : List Line) → AreRightAfter input (ys ++ base) xs → AreRightAfter input base ys
    → AreRightAfter input base (xs ++ ys)
after_append input base [] ys r s = s
after_append input base (x ∷ xs) ys (r, rs) s =
    (subst (λ (ls : List Line). Right input ls x) (sym (append_assoc xs ys base)) r, after_append input base xs ys rs s)

-- the next number behind lines that tell the start
next_of : (w : Frame) (more before : List Line) → IsToldBefore w before → (l : Line) → HasNumber w.start more l → HasNextNumber (lines_on w more before) l
next_of w more before told (line.Learn number clause) n =
    let c = count_learned-on w more before in let s = told.clauses in
    n ∙ (let e : w.start.clauses + count_learned more ≡ count_learned (lines_on w more before) = omega arith in e)
next_of w more before told (line.Core number kept dropped) n =
    let c = count_cores-on w more before in let s = told.cores in
    n ∙ (let e : w.start.cores + count_cores more ≡ count_cores (lines_on w more before) = omega arith in e)
next_of w more before told (line.Head axioms budget facts keep repairs version) n = tt
next_of w more before told (line.Cq o query step) n = tt
next_of w more before told (line.Conflict facts rule member) n = tt
next_of w more before told (line.Ask candidate tuple causes members) n = tt
next_of w more before told (line.Try q assume) n = tt
next_of w more before told (line.Done h core) n = tt
next_of w more before told (line.Forget clauses) n = tt
next_of w more before told (line.Answer brave ar iar cores names tuple) n = tt
next_of w more before told (line.End answers brave ar iar undecided) n = tt

-- the lines inside an answer are right where a report tells them
right_after : (w : Frame) (input : Input) (before : List Line) → IsToldBefore w before → (more : List Line)
    → AreRightInside input (ask_line w.asked w.members ∷ before) more → AreNumbered w.start more
    → AreRightAfter input (ask_line w.asked w.members ∷ before) more
right_after w input before told [] r n = tt
right_after w input before told (l ∷ more) (r, rs) (n, ns) =
    (inside_right input (lines_on w more before) l r (next_of w more before told l n), right_after w input before told more rs ns)

-- core lines stay numbered and unique
cores_on : (w : Frame) (before : List Line) → IsToldBefore w before → (more : List Line) → AreNumbered w.start more
    → CoresAreNumbered (lines_on w more before) × CoresAreUnique (lines_on w more before)
cores_on w before told [] n = cores_go_on before told.cores_numbered told.cores_unique (ask_line w.asked w.members) tt
cores_on w before told (l ∷ more) (n, ns) =
    let (a, b) = cores_on w before told more ns in cores_go_on (lines_on w more before) a b l (next_of w more before told l n)

-- what the lines of an answer leave alone
inside_same : {X : Type 0} (F : List Line → X) → ((q : Question) (a : List ℕ) (b : List Line) → F (line.Try q a ∷ b) ≡ F b)
    → ((n : ℕ) (c : List ℕ) (b : List Line) → F (line.Learn n c ∷ b) ≡ F b) → ((n : ℕ) (k d : List ℕ) (b : List Line) → F (line.Core n k d ∷ b) ≡ F b)
    → ((h : How) (c : Option ℕ) (b : List Line) → F (line.Done h c ∷ b) ≡ F b)
    → (input : Input) (base more : List Line) → AreRightInside input base more → F (more ++ base) ≡ F base
inside_same F t l c d input base [] r = refl
inside_same F t l c d input base (line.Try q a ∷ more) (r, rs) = t q a (more ++ base) ∙ inside_same F t l c d input base more rs
inside_same F t l c d input base (line.Learn n x ∷ more) (r, rs) = l n x (more ++ base) ∙ inside_same F t l c d input base more rs
inside_same F t l c d input base (line.Core n k x ∷ more) (r, rs) = c n k x (more ++ base) ∙ inside_same F t l c d input base more rs
inside_same F t l c d input base (line.Done h x ∷ more) (r, rs) = d h x (more ++ base) ∙ inside_same F t l c d input base more rs
inside_same F t l c d input base (line.Ask candidate tuple causes members ∷ more) (r, rs) = absurd r.own
inside_same F t l c d input base (line.Head axioms budget facts keep repairs version ∷ more) (r, rs) = absurd r.own
inside_same F t l c d input base (line.Cq o query step ∷ more) (r, rs) = absurd r.own
inside_same F t l c d input base (line.Conflict facts rule member ∷ more) (r, rs) = absurd r.own
inside_same F t l c d input base (line.Forget clauses ∷ more) (r, rs) = absurd r.own
inside_same F t l c d input base (line.Answer brave ar iar cores names tuple ∷ more) (r, rs) = absurd r.own
inside_same F t l c d input base (line.End answers brave ar iar undecided ∷ more) (r, rs) = absurd r.own

-- ---- the lines of an answer at a desk

module _ (desk : DeskState) (number : ℕ) (tuple : List ℕ) (causes : List (List ℕ)) (members facts : List ℕ) (names : List (List ℕ)) (input : Input)
    (before : List Line) (agrees : Agrees desk input before) (next : IsNext input before number tuple causes members names) where
  told : IsToldBefore (frame_of desk number tuple causes members facts) before
  told = told_by (frame_of desk number tuple causes members facts) input.kb agrees.priority before agrees.told

  -- the `ask` line is right
  ask_right : Right input before (line.Ask number tuple causes members)
  ask_right = record {
    order = inr agrees.between;
    query_left = tt;
    closed = agrees.closed number tuple causes members;
    complete = agrees.complete;
    own = next.ask;
  }

  -- and so are those behind it
  inside_after : (more : List Line) → AreRightInside input (line.Ask number tuple causes members ∷ before) more → AreNumbered (start_at desk) more
      → AreRightAfter input before (more ++ line.Ask number tuple causes members ∷ [])
  inside_after more r n = after_append input before more (line.Ask number tuple causes members ∷ [])
      (right_after (frame_of desk number tuple causes members facts) input before told more r n) (ask_right, tt)

  -- the `answer` line at the end
  module _ (more : List Line) (state : State) (cores : ℕ) (e : Evidence)
      (o : FollowsOpen (frame_of desk number tuple causes members facts) more state cores AtEnd e) (numbers : List ℕ) (range : IsRange desk.cores cores numbers)
    where
      shows : Shows (frame_of desk number tuple causes members facts) e AtEnd (lines_on (frame_of desk number tuple causes members facts) more before)
      shows = o.shows before told

      count : count_cores (lines_on (frame_of desk number tuple causes members facts) more before) ≡ cores
      count = let c = count_cores-on (frame_of desk number tuple causes members facts) more before in let s = told.cores in let now = o.cores_are in omega arith

      answer_right : Right input (lines_on (frame_of desk number tuple causes members facts) more before)
          (answer_line e numbers names tuple)
      answer_right = record {
        order = shows.between;
        query_left = tt;
        closed = λ x b. absurd (not_block x shows.between b);
        complete = tt;
        own = record {
          same_tuple = sym (ap (λ (a : Asked). a.tuple) shows.asks);
          texts = next.texts;
          ascending = range.ascending;
          earlier = All-of (λ n. (kept : List ℕ) × (dropped : List ℕ)
              × Contains (lines_on (frame_of desk number tuple causes members facts) more before) (line.Core n kept dropped)) numbers
              (λ n m. shows.named_is n ((shows.named n).1 (inside n m)));
          complete = λ n m. (range.exact n).1 (let x = (shows.named n).0 m in (x.0, subst (λ (c : ℕ). n < c) count x.1));
          brave_is = said question.Brave;
          ar_is = said question.Ar;
          iar_is = said question.Iar;
        };
      }
        where
          not_block : (x : Origin) → place_of (lines_on (frame_of desk number tuple causes members facts) more before) ≡ InAnswer
              → place_of (lines_on (frame_of desk number tuple causes members facts) more before) ≡ InBlock x → ⊥
          not_block x a b = absurd (cc)

          inside : (n : ℕ) → Contains numbers n
              → (desk.cores ≤ n) × (n < count_cores (lines_on (frame_of desk number tuple causes members facts) more before))
          inside n m = let x = (range.exact n).0 m in (x.0, subst (λ (c : ℕ). n < c) (sym count) x.1)

          said : (q : Question) → IsVerdict input.kb (lines_on (frame_of desk number tuple causes members facts) more before) numbers q (verdict_in e q)
          said q = verdicts_said (frame_of desk number tuple causes members facts) more state cores e o numbers (λ n m. (range.exact n).0 m) q input.kb before
              agrees.priority agrees.told

      -- after it the lines agree with the desk
      agrees_again : Agrees (desk_after desk state number cores) input
          (answer_line e numbers names tuple ∷ lines_on (frame_of desk number tuple causes members facts) more before)
      agrees_again =
          let r = o.follows.answered input before agrees.priority agrees.told in
          let a = at (frame_of desk number tuple causes members facts) more state o.follows input before agrees.priority agrees.told in
          let keep = inside_same keep_of (λ q x b. refl) (λ n c b. refl) (λ n k d b. refl) (λ h c b. refl)
          input (line.Ask number tuple causes members ∷ before) more r in
          let answered = inside_same answer_lines (λ q x b. refl) (λ n c b. refl) (λ n k d b. refl) (λ h c b. refl) input
          (line.Ask number tuple causes members ∷ before) more r in
          let conflicts = inside_same conflicts_of (λ q x b. refl) (λ n c b. refl) (λ n k d b. refl) (λ h c b. refl) input
          (line.Ask number tuple causes members ∷ before) more r in
          let cores_kept = cores_on (frame_of desk number tuple causes members facts) before told more o.follows.numbered in
          let last = cores_go_on (lines_on (frame_of desk number tuple causes members facts) more before) cores_kept.0 cores_kept.1
          (answer_line e numbers names tuple) tt in
          record {
            priority = agrees.priority;
            told = record {
              closed = refl;
              mode = a.same_mode;
              budget = a.same_budget;
              keep = keep ∙ agrees.told.keep;
              learned = left_told a;
              clauses = (let c = count_learned-on (frame_of desk number tuple causes members facts) more before in let s = told.clauses in
                  let n = o.follows.next in omega arith);
              cores = count;
              cores_numbered = last.0;
              cores_unique = last.1;
            };
            answers = (let s = agrees.answers in omega (arith, answered));
            between = tt;
            closed = λ candidate tuple' causes' members' x b. absurd (cc);
            complete = subst (AreConflictLists input.kb) (sym conflicts) agrees.complete;
          }
        where
          left_told : IsAt (frame_of desk number tuple causes members facts) more input before
              → learned (length input.kb.facts)
              (answer_line e numbers names tuple ∷ lines_on (frame_of desk number tuple causes members facts) more before)
              ≡ learned_in (without_variable state.live (desk.better.facts + number))
          left_told a =
              ap (λ (x : Asked). filter (λ (c : Learned). not (has_variable (length input.kb.facts + x.candidate) c.clause))
              (learned (length input.kb.facts) (lines_on (frame_of desk number tuple causes members facts) more before))) a.asks
              ∙ (ap (λ (xs : List Learned). filter (λ (c : Learned). not (has_variable (length input.kb.facts + number) c.clause)) xs)
              (a.lives ∙ ap (λ (n : ℕ). desk.learned ++ learned n more) agrees.priority.facts)
              ∙ sym (left_same (frame_of desk number tuple causes members facts) more state o.follows input.kb agrees.priority))

-- ---- the lines of one answer

-- lines that are right inside an answer are of tries
are_of_tries : (input : Input) (base more : List Line) → AreRightInside input base more → AllByRecursion IsOfTry more
are_of_tries input base [] r = tt
are_of_tries input base (line.Try q assume ∷ more) r = (tt, are_of_tries input base more r.1)
are_of_tries input base (line.Learn n clause ∷ more) r = (tt, are_of_tries input base more r.1)
are_of_tries input base (line.Core n kept dropped ∷ more) r = (tt, are_of_tries input base more r.1)
are_of_tries input base (line.Done how core ∷ more) r = (tt, are_of_tries input base more r.1)
are_of_tries input base (l ∷ more) r = absurd r.0.own

-- the verdicts that are answered stand in the line
same_answer : (e : Evidence) (v : Verdicts) (numbers : List ℕ) (names : List (List ℕ)) (tuple : List ℕ) → v.brave ≡ verdict_in e question.Brave
    → v.ar ≡ verdict_in e question.Ar → v.iar ≡ verdict_in e question.Iar
    → answer_line e numbers names tuple ≡ line.Answer v.brave v.ar v.iar numbers names tuple
same_answer e v numbers names tuple brave ar iar =
    ap (λ (x : Verdict). line.Answer x (verdict_in e question.Ar) (verdict_in e question.Iar) numbers names tuple) (sym brave)
    ∙ (ap (λ (x : Verdict). line.Answer v.brave x (verdict_in e question.Iar) numbers names tuple) (sym ar)
    ∙ ap (λ (x : Verdict). line.Answer v.brave v.ar x numbers names tuple) (sym iar))

-- ---- what the report tells of a call

told_once : (was now : Option (List Line)) (before added : List Line) → was ≡ Some (reverse before) → AddsLines was now added
    → now ≡ Some (reverse (added ++ before))
told_once was now before added e adds = subst (λ (o : Option (List Line)). AddsLines o now added) e adds
    ∙ ap (λ (xs : List Line). Some xs) (sym (reverse-append added before))

told_same : (was now : Option (List Line)) (before : List Line) → was ≡ Some (reverse before) → StayTold was now → now ≡ Some (reverse before)
told_same was now before e stay = subst (λ (o : Option (List Line)). StayTold o now) e stay

module _ (old : DeskState) (number : ℕ) (tuple : List ℕ) (causes : List (List ℕ)) (members facts : List ℕ) (names : List (List ℕ))
    (was now : Option (List Line)) where
  -- nothing was written
  pub wrote_nothing : (new : DeskState) (f : ClassifyFault) → StayTold was now
      → AnswersRight old new number tuple causes members names was now None (Err f)
  wrote_nothing new f stay input before e agrees next =
      ([], record { told = told_same was now before e stay; right = tt; torn_right = tt }, tt)

  -- the `ask` line is torn
  pub tore_ask : (new : DeskState) (f : ClassifyFault) → StayTold was now
      → AnswersRight old new number tuple causes members names was now (Some (line.Ask number tuple causes members)) (Err f)
  tore_ask new f stay input before e agrees next = (
    [],
    record {
      told = told_same was now before e stay;
      right = tt;
      torn_right = ask_right old number tuple causes members facts names input before agrees next;
    },
    tt,
  )

  -- a fault inside the answer
  pub stopped_inside : (new : DeskState) (f : ClassifyFault) (more : List Line) (torn : Option Line)
      → Stops (frame_of old number tuple causes members facts) more torn
      → AddsLines was now (more ++ line.Ask number tuple causes members ∷ [])
      → AnswersRight old new number tuple causes members names was now torn (Err f)
  stopped_inside new f more torn s adds input before e agrees next = (
    more ++ line.Ask number tuple causes members ∷ [],
    record {
      told = told_once was now before (more ++ line.Ask number tuple causes members ∷ []) e adds;
      right = inside_after old number tuple causes members facts names input before agrees next more
          (s.answered input before agrees.priority agrees.told) s.numbered;
      torn_right = torn_one torn s.torn_right;
    },
    tt,
  )
    where
      torn_one : (torn : Option Line) → IfSome torn (IsNextInside (frame_of old number tuple causes members facts) more)
          → IfSome torn (Right input ((more ++ line.Ask number tuple causes members ∷ []) ++ before))
      torn_one None t = tt
      torn_one (Some l) t = subst (λ (xs : List Line). Right input xs l) (sym (append_assoc more (line.Ask number tuple causes members ∷ []) before))
          (inside_right input (lines_on (frame_of old number tuple causes members facts) more before) l (t.right input before agrees.priority agrees.told)
          (next_of (frame_of old number tuple causes members facts) more before
          (told old number tuple causes members facts names input before agrees next) l t.number))

  module _ (more : List Line) (state : State) (cores : ℕ) (e : Evidence)
      (o : FollowsOpen (frame_of old number tuple causes members facts) more state cores AtEnd e)
      (numbers : List ℕ) (range : IsRange old.cores cores numbers) where
    -- the `answer` line is torn
    pub tore_answer : (new : DeskState) (f : ClassifyFault) → AddsLines was now (more ++ line.Ask number tuple causes members ∷ [])
        → AnswersRight old new number tuple causes members names was now (Some (answer_line e numbers names tuple)) (Err f)
    tore_answer new f adds input before x agrees next = (
      more ++ line.Ask number tuple causes members ∷ [],
      record {
        told = told_once was now before (more ++ line.Ask number tuple causes members ∷ []) x adds;
        right = inside_after old number tuple causes members facts names input before agrees next more
            (o.follows.answered input before agrees.priority agrees.told) o.follows.numbered;
        torn_right = subst (λ (xs : List Line). Right input xs (answer_line e numbers names tuple))
            (sym (append_assoc more (line.Ask number tuple causes members ∷ []) before))
            (answer_right old number tuple causes members facts names input before agrees next more state cores e o numbers range);
      },
      tt,
    )

    -- all of the answer was written
    pub answered_right : (v : Verdicts) → v.brave ≡ verdict_in e question.Brave → v.ar ≡ verdict_in e question.Ar → v.iar ≡ verdict_in e question.Iar
        → AddsLines was now (answer_line e numbers names tuple ∷ more ++ line.Ask number tuple causes members ∷ [])
        → AnswersRight old (desk_after old state number cores) number tuple causes members names was now None (Ok v)
    answered_right v brave ar iar adds input before x agrees next = (
      answer_line e numbers names tuple ∷ more ++ line.Ask number tuple causes members ∷ [],
      record {
        told = told_once was now before (answer_line e numbers names tuple ∷ more ++ line.Ask number tuple causes members ∷ []) x adds;
        right = (
          subst (λ (xs : List Line). Right input xs (answer_line e numbers names tuple))
              (sym (append_assoc more (line.Ask number tuple causes members ∷ []) before))
              (answer_right old number tuple causes members facts names input before agrees next more state cores e o numbers range),
          inside_after old number tuple causes members facts names input before agrees next more
              (o.follows.answered input before agrees.priority agrees.told) o.follows.numbered,
        );
        torn_right = tt;
      },
      (
        subst (λ (xs : List Line). Agrees (desk_after old state number cores) input (answer_line e numbers names tuple ∷ xs))
            (sym (append_assoc more (line.Ask number tuple causes members ∷ []) before))
            (agrees_again old number tuple causes members facts names input before agrees next more state cores e o numbers range),
        record {
          cores = numbers;
          tries = more;
          of_tries = All-from_recursion IsOfTry more (are_of_tries input (line.Ask number tuple causes members ∷ before) more
              (o.follows.answered input before agrees.priority agrees.told));
          lines = ap (λ (l : Line). l ∷ more ++ line.Ask number tuple causes members ∷ []) (same_answer e v numbers names tuple brave ar iar);
        },
      ),
    )
