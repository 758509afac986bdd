-- A try as the code makes it, and what it leaves of an open answer.
use Rattle.std.proofs.Common.{◌≡◌, ℕ, ◌+◌, ◌<◌, ◌≤◌, inl, inr, List, [], ◌∷◌, ◌++◌, map, length, Contains, true, refl, sym, subst, ap, ◌∙◌, arith}
use Rattle.std.proofs.Common.{Option, Some, None, Bor}
use Rattle.std.specs.Prelude.{reverse}
use Rattle.std.proofs.lemmas.List.{append_assoc, append-nil, reverse-append, reverse-reverse}
use Rattle.cq_terms.specs.Conflicts.{ConflictGraph}
use Rattle.cq_terms.specs.Knowledge.{Knowledge}
use Rattle.priority_graph.specs.Priority.{Priority}
use Rattle.repair_clauses.specs.BaseClauses.{present, absent}
use Rattle.cdcl_core.specs.State.{State}
use Rattle.proof_logs.specs.Logs.{Learned}
use Rattle.cdcl_core.specs.Learning.{AreLearned, with_learned}
use Rattle.cdcl_core.specs.Solving.{cleared}
use Rattle.report_text.specs.declared.line.Line.{Line}
use Rattle.report_text.specs.declared.line.Line.TheVariants as line
use Rattle.report_text.specs.declared.line.Question.{Question}
use Rattle.report_text.specs.declared.line.Question.TheVariants as question
use Rattle.report_text.specs.declared.line.How.{How}
use Rattle.report_text.specs.declared.line.How.TheVariants as how
use Rattle.report_rules.specs.TryRules.{IsEasy, ShowsAsked}
use Rattle.report_laws.specs.DeskAnswers.{IsAnsweredOver}
use Rattle.answer_evidence.specs.declared.aim.Aim.{Aim}
use Rattle.answer_evidence.specs.declared.aim.Aim.TheVariants as aim
use Rattle.answer_evidence.specs.declared.evidence.Evidence.{Evidence}
use Rattle.answer_evidence.specs.Aims as aims
use Rattle.answer_evidence.specs.Aims.{asked_for, assumed_for, IsHard}
use Rattle.answer_evidence.specs.Logging.{learn_line}
use Rattle.answer_evidence.specs.Sets.{EachMeets}
use Rattle.answer_desk.specs.Trying as trying
use Rattle.answer_desk.specs.Trying.{Try, Search, Learnt, Tries, BreaksOff, BreaksAs, LearnsLast, HasCoreLast, IsPartOf, Gets, torn_part, try_line}
use Rattle.answer_desk.specs.Trying.{lines_of, EndsAs, cores_after}
use Rattle.answer_desk.specs.Following.{Frame, own_selector, own_scope, IsBaseOf, IsFrame, Follows, AreNumbered, Stage, FollowsOpen, FollowsTry}
use Rattle.answer_desk.specs.Following.{learn_lines, try_lines, IsNextInside, Stops, StopsAfter, AddsLines, IsFrameFor, GoesOn, CauseGoesOn}
use Rattle.answer_desk.specs.Following.{SeesBrave, SeesAr}
use Rattle.answer_desk.specs.Following.{AtBrave, AtIar, AtEnd, IarIsOver}
use Rattle.answer_evidence.specs.Shown.{SeesRefuted, SeesSpent, SeesIar}
use Rattle.answer_desk.proofs.FollowingCoreLemmas.{brave_hard, iar_hard}
use Rattle.answer_desk.proofs.FollowingDoneLemmas.{next_refuted, next_spent, next_core, next_model}
use Rattle.answer_desk.proofs.FollowingSearchLemmas.{HasLearned, learned_one, next_learned, trying_on, try_learns, fresh_state, begun}
use Rattle.answer_desk.proofs.FollowingStepLemmas.{brave_refuted, brave_spent, brave_model, iar_refuted, iar_spent, iar_model, ar_refuted, ar_spent, ar_model}

-- ---- a try over a frame

-- what an open answer with the frame tries
abbrev pub own_try : Frame → ℕ → Aim → Try
own_try w cores a = record { better = w.better; conflicts = w.conflicts; aim = a; selector = own_selector w; scope = own_scope w; cores = cores }

-- a try by its parts
abbrev pub try_of : Priority → ConflictGraph → ℕ → List ℕ → ℕ → Aim → Try
try_of p g selector scope cores a = record { better = p; conflicts = g; aim = a; selector = selector; scope = scope; cores = cores }

-- over the frame of an opening it is that of the frame
pub own_try_is : (w : Frame) (g : ConflictGraph) (p : Priority) (causes : List (List ℕ)) (selector : ℕ) (scope : List ℕ) (budget : ℕ)
    → IsFrameFor w g p causes selector scope budget → (cores : ℕ) (a : Aim)
    → try_of p g selector scope cores a ≡ own_try w cores a
own_try_is w g p causes selector scope budget f cores a =
    ap (λ (x : Priority). try_of x g selector scope cores a) (sym f.better_is)
    ∙ (ap (λ (x : ConflictGraph). try_of w.better x selector scope cores a) (sym f.conflicts_are)
    ∙ (ap (λ (x : ℕ). try_of w.better w.conflicts x scope cores a) (sym f.selector_is)
    ∙ ap (λ (x : List ℕ). try_of w.better w.conflicts (own_selector w) x cores a) (sym f.scope_is)))

-- ---- lines that are right one after the other, oldest first

abbrev pub AreNext : Frame → List Line → List Line → Type 0
AreNext w more [] = Unit {0}
AreNext w more (l ∷ ls) = IsNextInside w more l × AreNext w (l ∷ more) ls

reverse_on : (x : Line) (xs more : List Line) → reverse (x ∷ xs) ++ more ≡ reverse xs ++ x ∷ more
reverse_on x xs more = ap (λ (zs : List Line). zs ++ more) (reverse-append (x ∷ []) xs) ∙ append_assoc (reverse xs) (x ∷ []) more

next_append : (w : Frame) (more xs ys : List Line) → AreNext w more xs → AreNext w (reverse xs ++ more) ys → AreNext w more (xs ++ ys)
next_append w more [] ys a b = b
next_append w more (x ∷ xs) ys (r, rs) b = (r, next_append w (x ∷ more) xs ys rs (subst (λ (zs : List Line). AreNext w zs ys) (reverse_on x xs more) b))

next_learns : (w : Frame) (q : Question) (assume : List ℕ) (entries : List Learned) (more : List Line) (state : State) (used : ℕ)
    → HasLearned w more state q assume used → AreLearned state (own_scope w) assume entries → used + length entries ≤ w.start.budget
    → AreNext w more (map learn_line entries)
next_learns w q assume [] more state used h may few = tt
next_learns w q assume (e ∷ es) more state used h (may, rest) few =
    let less : used < w.start.budget = omega arith in
    let few' : (used + 1) + length es ≤ w.start.budget = omega arith in (
      next_learned w more state h.follows q assume used h.trying e may less,
      next_learns w q assume es (learn_line e ∷ more) (with_learned state e) (used + 1) (learned_one w q assume e more state used h may less) rest few',
    )

-- where only the last one may be torn
stops_from : (w : Frame) (more : List Line) → IsAnsweredOver w.better w.start w.asked w.members more → AreNumbered w.start more
    → (kept : List Line) (torn : Option Line) (all : List Line) → kept ++ torn_part torn ≡ all → AreNext w more all → Stops w (reverse kept ++ more) torn
stops_from w more answered numbered [] None all e next = record { answered = answered; numbered = numbered; torn_right = tt }
stops_from w more answered numbered [] (Some l) all e next =
    let r : AreNext w more (l ∷ []) = subst (AreNext w more) (sym e) next in
    record { answered = answered; numbered = numbered; torn_right = r.0 }
stops_from w more answered numbered (x ∷ kept) torn all e next =
    let r : AreNext w more (x ∷ (kept ++ torn_part torn)) = subst (AreNext w more) (sym e) next in
    subst (λ (zs : List Line). Stops w zs torn) (sym (reverse_on x kept more))
    (stops_from w (x ∷ more) (λ input before of told. (r.0.right input before of told, answered input before of told)) (r.0.number, numbered) kept torn
    (kept ++ torn_part torn) refl r.1)

pub gets_stops : (w : Frame) (more : List Line) (state : State) → Follows w more state → (was now : Option (List Line)) (torn : Option Line) (all : List Line)
    → Gets was now torn all → AreNext w more all → StopsAfter w more was now torn
gets_stops w more state f None now torn all g next = tt
gets_stops w more state f (Some lines) now torn all (kept, told, parts) next = (
  reverse kept,
  stops_from w more f.answered f.numbered kept torn all parts next,
  told ∙ ap (λ (xs : List Line). Some (lines ++ xs)) (sym (reverse-reverse kept)),
)

-- the lines of a try newest first
reverse_try : (l : Line) (entries : List Learned) (last : List Line)
    → reverse (reverse last ++ (learn_lines entries ++ l ∷ [])) ≡ l ∷ map learn_line entries ++ last
reverse_try l entries last =
    reverse-append (reverse last) (learn_lines entries ++ l ∷ [])
    ∙ (ap (λ (xs : List Line). xs ++ reverse (reverse last)) (reverse-append (learn_lines entries) (l ∷ []))
    ∙ (ap (λ (xs : List Line). (l ∷ []) ++ xs ++ reverse (reverse last)) (reverse-reverse (map learn_line entries))
    ∙ ap (λ (xs : List Line). (l ∷ map learn_line entries) ++ xs) (reverse-reverse last)))

pub gets_goes : (w : Frame) (more : List Line) (q : Question) (assume : List ℕ) (entries : List Learned) (last : List Line) (state : State) (cores : ℕ)
    (stage : Stage) (e : Evidence) (was now : Option (List Line)) → FollowsOpen w (reverse last ++ try_lines q assume entries more) state cores stage e
    → Gets was now None (line.Try q assume ∷ map learn_line entries ++ last) → GoesOn w more state cores stage e was now
gets_goes w more q assume entries last state cores stage e was now o g = (
  reverse last ++ (learn_lines entries ++ line.Try q assume ∷ []),
  subst (λ (xs : List Line). FollowsOpen w xs state cores stage e) (sym whole) o,
  told was g,
)
  where
    whole : (reverse last ++ (learn_lines entries ++ line.Try q assume ∷ [])) ++ more ≡ reverse last ++ try_lines q assume entries more
    whole = append_assoc (reverse last) (learn_lines entries ++ line.Try q assume ∷ []) more
        ∙ ap (λ (xs : List Line). reverse last ++ xs) (append_assoc (learn_lines entries) (line.Try q assume ∷ []) more)

    told : (was : Option (List Line)) → Gets was now None (line.Try q assume ∷ map learn_line entries ++ last)
        → AddsLines was now (reverse last ++ (learn_lines entries ++ line.Try q assume ∷ []))
    told None g = tt
    told (Some lines) (kept, is, parts) = is ∙ ap (λ (xs : List Line). Some (lines ++ xs))
        (sym (append-nil kept) ∙ (parts ∙ sym (reverse_try (line.Try q assume) entries last)))

-- ---- what a try looks for, as the rules say it

shows_asked : (w : Frame) (a : Aim) → aims.IsOver w.asked.causes a → (kept dropped : List ℕ) → aims.Shows a kept dropped
    → ShowsAsked w.asked (asked_for a) (assumed_for a (own_selector w)) kept dropped
shows_asked w (aim.WithCause cause) over kept dropped s = (cause.now, refl, s)
shows_asked w (aim.WithoutFact fact) over kept dropped s = (fact, refl, s)
shows_asked w (aim.WithoutCauses causes) over kept dropped s = subst (λ (cs : List (List ℕ)). EachMeets cs dropped) over s

hard_for : (w : Frame) → IsFrame w → (a : Aim) → IsHard w.better w.conflicts a → (kb : Knowledge) → IsBaseOf w kb
    → ¬ IsEasy kb w.start.mode (asked_for a) (assumed_for a (own_selector w))
hard_for w frame (aim.WithCause cause) hard = brave_hard w cause.now hard
hard_for w frame (aim.WithoutFact fact) hard = iar_hard w frame fact hard
hard_for w frame (aim.WithoutCauses causes) hard = λ kb of easy. easy

-- ---- a try

module _ (w : Frame) (more : List Line) (a : Aim) (over : aims.IsOver w.asked.causes a) (used : ℕ) (s : Search) (cores : ℕ) (stage : Stage) (e : Evidence)
    (t : FollowsTry w more (asked_for a) (assumed_for a (own_selector w)) used [] s.old cores stage e) (was_used : s.was.used ≡ used)
    (limit : s.was.limit ≡ w.start.budget) where
  searched : (entries : List Learned) → Learnt (own_try w cores a) s entries
      → FollowsTry w more (asked_for a) (assumed_for a (own_selector w)) used entries s.new cores stage e
  searched entries l = try_learns w more (asked_for a) (assumed_for a (own_selector w)) used s.old s.new cores stage e t s.was s.now entries l was_used limit

  frame : IsFrame w
  frame = t.follows.frame

  used_up : (entries : List Learned) → Learnt (own_try w cores a) s entries → s.now.used ≡ s.now.limit → used + length entries ≡ w.start.budget
  used_up entries l full = let n = l.used in let b = l.limit in omega arith

  -- the last lines of one that a fault broke off
  last_next : (entries : List Learned) → Learnt (own_try w cores a) s entries → (last : List Line) → BreaksAs (own_try w cores a) s last
      → AreNext w (try_lines (asked_for a) (assumed_for a (own_selector w)) entries more) last
  last_next entries l last (inl none) = subst (AreNext w (try_lines (asked_for a) (assumed_for a (own_selector w)) entries more)) (sym none) tt
  last_next entries l last (inr (inl (entry, may, left, is))) =
      subst (AreNext w (try_lines (asked_for a) (assumed_for a (own_selector w)) entries more)) (sym is) (
        next_learned w (try_lines (asked_for a) (assumed_for a (own_selector w)) entries more) (cleared s.new)
            (fresh_state w (try_lines (asked_for a) (assumed_for a (own_selector w)) entries more) s.new (cleared s.new) refl refl
            (searched entries l).follows)
            (asked_for a) (assumed_for a (own_selector w)) (used + length entries)
            (trying_on w more (asked_for a) (assumed_for a (own_selector w)) used entries t.used_is) entry may
            (let n = l.used in let b = l.limit in omega arith),
        tt,
      )
  last_next entries l last (inr (inr (inl (kept, dropped, core, part)))) = by part
    where
      first : IsNextInside w (try_lines (asked_for a) (assumed_for a (own_selector w)) entries more) (line.Core cores kept dropped)
      first = next_core w more (asked_for a) (assumed_for a (own_selector w)) used entries s.new cores stage e (searched entries l) kept dropped core.over

      by : IsPartOf cores kept dropped last → AreNext w (try_lines (asked_for a) (assumed_for a (own_selector w)) entries more) last
      by (inl is) = subst (AreNext w (try_lines (asked_for a) (assumed_for a (own_selector w)) entries more)) (sym is) tt
      by (inr (inl is)) = subst (AreNext w (try_lines (asked_for a) (assumed_for a (own_selector w)) entries more)) (sym is) (first, tt)
      by (inr (inr is)) = subst (AreNext w (try_lines (asked_for a) (assumed_for a (own_selector w)) entries more)) (sym is) (
        first,
        (
          next_model w more (asked_for a) (assumed_for a (own_selector w)) used entries s.new cores stage e (searched entries l) kept dropped core.over
              (shows_asked w a over kept dropped core.shows),
          tt,
        ),
      )
  last_next entries l last (inr (inr (inr (inl (r, is))))) =
      subst (AreNext w (try_lines (asked_for a) (assumed_for a (own_selector w)) entries more)) (sym is)
      (next_refuted w more (asked_for a) (assumed_for a (own_selector w)) used entries s.new cores stage e (searched entries l) r, tt)
  last_next entries l last (inr (inr (inr (inr ((full, unrefuted, hard), is))))) =
      subst (AreNext w (try_lines (asked_for a) (assumed_for a (own_selector w)) entries more)) (sym is) (
        next_spent w more (asked_for a) (assumed_for a (own_selector w)) used entries s.new cores stage e (searched entries l) unrefuted
            (used_up entries l full) (hard_for w frame a hard),
        tt,
      )

  -- a fault inside it
  pub breaks_next : IsNextInside w more (line.Try (asked_for a) (assumed_for a (own_selector w))) → (added : List Line)
      → BreaksOff (own_try w cores a) s added → AreNext w more added
  breaks_next first added (inl none) = subst (AreNext w more) (sym none) tt
  breaks_next first added (inr (entries, l, last, breaks, is)) = subst (AreNext w more) (sym is) (
    first,
    next_append w (line.Try (asked_for a) (assumed_for a (own_selector w)) ∷ more) (map learn_line entries) last
        (next_learns w (asked_for a) (assumed_for a (own_selector w)) entries
        (line.Try (asked_for a) (assumed_for a (own_selector w)) ∷ more) (cleared s.old) used
        (begun w more (asked_for a) (assumed_for a (own_selector w)) used s.old cores stage e t) l.may
        (let n = l.used in let b = l.limit in let within = l.within in omega arith))
        (last_next entries l last breaks),
  )

-- ---- how it goes on

finish : (w : Frame) (more : List Line) (q : Question) (assume : List ℕ) (entries : List Learned) (state : State) (cores : ℕ) (stage stage' : Stage)
    (e e' : Evidence) (last last' : List Line) (was now : Option (List Line))
    → FollowsOpen w (reverse last ++ try_lines q assume entries more) state cores stage e → last' ≡ last → stage ≡ stage' → e' ≡ e
    → Gets was now None (line.Try q assume ∷ map learn_line entries ++ last') → GoesOn w more state cores stage' e' was now
finish w more q assume entries state cores stage stage' e e' last last' was now o same_last same_stage same_evidence g =
    gets_goes w more q assume entries last' state cores stage' e' was now
    (subst (λ (xs : List Line). FollowsOpen w (reverse xs ++ try_lines q assume entries more) state cores stage' e') (sym same_last)
    (subst (λ (x : Stage). FollowsOpen w (reverse last ++ try_lines q assume entries more) state cores x e') same_stage
    (subst (λ (x : Evidence). FollowsOpen w (reverse last ++ try_lines q assume entries more) state cores stage x) (sym same_evidence) o))) g

-- the brave try of a cause
module _ (w : Frame) (more : List Line) (c : Bor (List ℕ)) (member : Contains w.asked.causes c.now) (used : ℕ) (s : Search) (cores : ℕ)
    (done : List (List ℕ)) (e : Evidence)
    (t : FollowsTry w more question.Brave (map present c.now) used [] s.old cores (AtBrave done used) e) (was_used : s.was.used ≡ used)
    (limit : s.was.limit ≡ w.start.budget) (was now : Option (List Line)) where
  brave_to : (entries : List Learned) → Learnt (own_try w cores (aim.WithCause c)) s entries
      → FollowsTry w more question.Brave (map present c.now) used entries s.new cores (AtBrave done used) e
  brave_to entries l = searched w more (aim.WithCause c) member used s cores (AtBrave done used) e t was_used limit entries l

  brave_stage : (entries : List Learned) → Learnt (own_try w cores (aim.WithCause c)) s entries
      → AtBrave (done ++ c.now ∷ []) (used + length entries) ≡ AtBrave (done ++ c.now ∷ []) s.now.used
  brave_stage entries l = ap (λ (n : ℕ). AtBrave (done ++ c.now ∷ []) n) (let u = l.used in let same : used + length entries ≡ s.now.used = omega arith in same)

  pub brave_goes : (e' e'' : Evidence) (h : How) → Tries (own_try w cores (aim.WithCause c)) s w.asked.causes e e' was now h → SeesBrave h e' e''
      → CauseGoesOn w more s.new (cores_after h cores) done c.now s.now.used e'' was now h
  brave_goes e' e'' how.Refuted x sees = finish w more question.Brave (map present c.now) x.entries s.new cores
      (AtBrave (done ++ c.now ∷ []) (used + length x.entries)) (AtBrave (done ++ c.now ∷ []) s.now.used) e e'' (line.Done how.Refuted None ∷ []) x.last was now
      (brave_refuted w more c.now used x.entries s.new cores done e member (brave_to x.entries x.learnt) x.ends.0) x.ends.1
      (brave_stage x.entries x.learnt) (sees ∙ x.ends.2) x.told
  brave_goes e' e'' how.Spent x sees = finish w more question.Brave (map present c.now) x.entries s.new cores
      (AtBrave (done ++ c.now ∷ []) (used + length x.entries)) (AtBrave (done ++ c.now ∷ []) s.now.used) (record e { brave_spent = true }) e''
      (line.Done how.Spent None ∷ []) x.last was now
      (brave_spent w more c.now used x.entries s.new cores done e member (brave_to x.entries x.learnt) x.ends.0.1
      (used_up w more (aim.WithCause c) member used s cores (AtBrave done used) e t was_used limit x.entries x.learnt x.ends.0.0)
      (hard_for w t.follows.frame (aim.WithCause c) x.ends.0.2)) x.ends.1 (brave_stage x.entries x.learnt)
      (sees ∙ ap (λ (y : Evidence). record y { brave_spent = true }) x.ends.2) x.told
  brave_goes e' e'' how.Model x sees =
      let (kept, dropped, core, last, seen) = x.ends in
      finish w more question.Brave (map present c.now) x.entries s.new (cores + 1) (AtIar 0) (AtIar 0) e' e''
      (trying.core_lines cores kept dropped) x.last was now
      (brave_model w more c.now used x.entries s.new cores done e member (brave_to x.entries x.learnt) kept dropped
      core.over core.shows e' seen) last refl sees x.told

-- the IAR try of a fact
module _ (w : Frame) (more : List Line) (fact : ℕ) (over : aims.IsOver w.asked.causes (aim.WithoutFact fact)) (used : ℕ) (s : Search) (cores : ℕ) (e : Evidence)
    (t : FollowsTry w more question.Iar (absent fact ∷ []) used [] s.old cores (AtIar used) e) (was_used : s.was.used ≡ used)
    (limit : s.was.limit ≡ w.start.budget) (was now : Option (List Line)) where
  iar_to : (entries : List Learned) → Learnt (own_try w cores (aim.WithoutFact fact)) s entries
      → FollowsTry w more question.Iar (absent fact ∷ []) used entries s.new cores (AtIar used) e
  iar_to entries l = searched w more (aim.WithoutFact fact) over used s cores (AtIar used) e t was_used limit entries l

  iar_stage : (entries : List Learned) → Learnt (own_try w cores (aim.WithoutFact fact)) s entries → AtIar (used + length entries) ≡ AtIar s.now.used
  iar_stage entries l = ap AtIar (let u = l.used in let same : used + length entries ≡ s.now.used = omega arith in same)

  pub iar_goes : (e' e'' : Evidence) (h : How) → Tries (own_try w cores (aim.WithoutFact fact)) s w.asked.causes e e' was now h
      → SeesIar w.asked.causes fact h e' e'' → GoesOn w more s.new (cores_after h cores) (AtIar s.now.used) e'' was now
  iar_goes e' e'' how.Refuted x sees = finish w more question.Iar (absent fact ∷ []) x.entries s.new cores (AtIar (used + length x.entries))
      (AtIar s.now.used) e'' e'' (line.Done how.Refuted None ∷ []) x.last was now
      (iar_refuted w more fact used x.entries s.new cores e (iar_to x.entries x.learnt) x.ends.0 e''
      (subst (λ (y : Evidence). SeesRefuted w.asked.causes fact y e'') x.ends.2 sees)) x.ends.1 (iar_stage x.entries x.learnt) refl x.told
  iar_goes e' e'' how.Spent x sees = finish w more question.Iar (absent fact ∷ []) x.entries s.new cores (AtIar (used + length x.entries))
      (AtIar s.now.used) e'' e'' (line.Done how.Spent None ∷ []) x.last was now
      (iar_spent w more fact used x.entries s.new cores e (iar_to x.entries x.learnt) x.ends.0.1
      (used_up w more (aim.WithoutFact fact) over used s cores (AtIar used) e t was_used limit x.entries x.learnt x.ends.0.0)
      (hard_for w t.follows.frame (aim.WithoutFact fact) x.ends.0.2) e'' seen.spent seen.rest) x.ends.1 (iar_stage x.entries x.learnt) refl x.told
    where
      seen : SeesSpent fact e e''
      seen = subst (λ (y : Evidence). SeesSpent fact y e'') x.ends.2 sees
  iar_goes e' e'' how.Model x sees =
      let (kept, dropped, core, last, seen) = x.ends in
      finish w more question.Iar (absent fact ∷ []) x.entries s.new (cores + 1) (AtIar (used + length x.entries)) (AtIar s.now.used) e' e''
      (trying.core_lines cores kept dropped) x.last was now
      (iar_model w more fact used x.entries s.new cores e (iar_to x.entries x.learnt) kept dropped
      core.over core.shows e' seen) last (iar_stage x.entries x.learnt) sees x.told

-- the AR try
module _ (w : Frame) (more : List Line) (all : Bor (List (List ℕ))) (over : all.now ≡ w.asked.causes) (start used : ℕ) (s : Search) (cores : ℕ) (e : Evidence)
    (iar : IarIsOver w.asked.causes e)
    (t : FollowsTry w more question.Ar (present (own_selector w) ∷ []) start [] s.old cores (AtIar used) e) (was_used : s.was.used ≡ start)
    (limit : s.was.limit ≡ w.start.budget) (was now : Option (List Line)) where
  ar_to : (entries : List Learned) → Learnt (own_try w cores (aim.WithoutCauses all)) s entries
      → FollowsTry w more question.Ar (present (own_selector w) ∷ []) start entries s.new cores (AtIar used) e
  ar_to entries l = searched w more (aim.WithoutCauses all) over start s cores (AtIar used) e t was_used limit entries l

  pub ar_goes : (e' e'' : Evidence) (h : How) → Tries (own_try w cores (aim.WithoutCauses all)) s w.asked.causes e e' was now h → SeesAr h e' e''
      → GoesOn w more s.new (cores_after h cores) AtEnd e'' was now
  ar_goes e' e'' how.Refuted x sees = finish w more question.Ar (present (own_selector w) ∷ []) x.entries s.new cores AtEnd AtEnd
      (record e { ar_refuted = true }) e'' (line.Done how.Refuted None ∷ []) x.last was now
      (ar_refuted w more start used x.entries s.new cores e iar (ar_to x.entries x.learnt) x.ends.0) x.ends.1 refl
      (sees ∙ ap (λ (y : Evidence). record y { ar_refuted = true }) x.ends.2) x.told
  ar_goes e' e'' how.Spent x sees = finish w more question.Ar (present (own_selector w) ∷ []) x.entries s.new cores AtEnd AtEnd e e''
      (line.Done how.Spent None ∷ []) x.last was now
      (ar_spent w more start used x.entries s.new cores e iar (ar_to x.entries x.learnt) x.ends.0.1
      (used_up w more (aim.WithoutCauses all) over start s cores (AtIar used) e t was_used limit x.entries x.learnt x.ends.0.0)) x.ends.1 refl
      (sees ∙ x.ends.2) x.told
  ar_goes e' e'' how.Model x sees =
      let (kept, dropped, core, last, seen) = x.ends in
      finish w more question.Ar (present (own_selector w) ∷ []) x.entries s.new (cores + 1) AtEnd AtEnd e' e''
      (trying.core_lines cores kept dropped) x.last was now
      (ar_model w more start used x.entries s.new cores e iar (ar_to x.entries x.learnt) kept dropped
      core.over (subst (λ (cs : List (List ℕ)). EachMeets cs dropped) over core.shows) e' seen) last
      refl sees x.told

-- a fault in one of them
pub try_stops : (w : Frame) (more : List Line) (a : Aim) → aims.IsOver w.asked.causes a → (used : ℕ) (s : Search) (cores : ℕ) (stage : Stage) (e : Evidence)
    → Follows w more s.old → FollowsTry w more (asked_for a) (assumed_for a (own_selector w)) used [] s.old cores stage e → s.was.used ≡ used
    → s.was.limit ≡ w.start.budget → IsNextInside w more (line.Try (asked_for a) (assumed_for a (own_selector w)))
    → (was now : Option (List Line)) (torn : Option Line) (added : List Line) → BreaksOff (own_try w cores a) s added → Gets was now torn added
    → StopsAfter w more was now torn
try_stops w more a over used s cores stage e f t was_used limit first was now torn added breaks gets =
    gets_stops w more s.old f was now torn added gets (breaks_next w more a over used s cores stage e t was_used limit first added breaks)

-- the lines of a try that came to its end are those of one that a fault broke off behind them
pub tries_break : (t : Try) (s : Search) (causes : List (List ℕ)) (e e' : Evidence) (was now : Option (List Line)) (h : How)
    → (x : Tries t s causes e e' was now h) → BreaksOff t s (lines_of t x.entries x.last)
tries_break t s causes e e' was now how.Refuted x = inr (x.entries, x.learnt, x.last, inr (inr (inr (inl (x.ends.0, x.ends.1)))), refl)
tries_break t s causes e e' was now how.Spent x = inr (x.entries, x.learnt, x.last, inr (inr (inr (inr (x.ends.0, x.ends.1)))), refl)
tries_break t s causes e e' was now how.Model x =
    let (kept, dropped, core, last, seen) = x.ends in
    inr (x.entries, x.learnt, x.last, inr (inr (inl (kept, dropped, core, inr (inr last)))), refl)
