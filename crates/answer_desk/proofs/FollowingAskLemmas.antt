-- The questions of an open answer: call after call, and the causes that they are through with.
use Rattle.std.proofs.Common.{◌≡◌, ℕ, ◌+◌, ◌<◌, ◌≤◌, inl, inr, List, [], ◌∷◌, ◌++◌, length, Contains, Bool, true, false, not, ◌^◌}
use Rattle.std.proofs.Common.{true≢false, refl, sym, subst, ap, ◌∙◌, arith, take, get_or, Option, Some, None, below_more}
use Rattle.std.specs.Prelude.{slice_index_or}
use Rattle.std.proofs.lemmas.List.{take_all, take_more}
use Rattle.std.proofs.lemmas.List.Elements.{Contains-get_or}
use Rattle.clause_meaning.specs.Refutation.{IsWithin}
use Rattle.cq_terms.specs.Conflicts.{ConflictGraph}
use Rattle.priority_graph.specs.Priority.{Priority}
use Rattle.cdcl_core.specs.State.{State}
use Rattle.cdcl_core.specs.Solving.{cleared}
use Rattle.report_text.specs.declared.line.Line.{Line}
use Rattle.report_text.specs.declared.line.How.{How}
use Rattle.report_text.specs.declared.line.How.TheVariants as how
use Rattle.report_text.specs.declared.line.Question.TheVariants as question
use Rattle.cdcl_core.specs.declared.outcome.Budget.{Budget}
use Rattle.answer_evidence.specs.declared.evidence.Evidence.{Evidence}
use Rattle.answer_evidence.specs.declared.opening.Opening.{Opening}
use Rattle.answer_desk.specs.declared.work.Work.{Work}
use Rattle.answer_desk.specs.Openings.{HasRoom, Spends, IsSameOpening}
use Rattle.answer_desk.specs.Asking.{IsCauseAt, PlaceGoesOn, IarGoesOn}
use Rattle.answer_desk.specs.Following.{Frame, IsFrameFor, Stage, AtBrave, AtIar, AtEnd, FollowsOpen, GoesOn, CauseGoesOn, StopsAfter, IarIsOver}
use Rattle.answer_desk.specs.Following.{AddsLines, SeesAr}
use Rattle.answer_desk.specs.PlacesOver.{PlaceIsOver, PlacesStayOver, IsAskedAt, FactIsSeen}
use Rattle.answer_evidence.specs.Shown.{is_undecided, verdict_in}
use Rattle.answer_desk.specs.Trying.{Try, Search, Tries, cores_after}
use Rattle.answer_desk.proofs.FollowingAnswerLemmas.{goes_twice, goes_stops}
use Rattle.answer_desk.proofs.FollowingLineLemmas.{AddsLines-none}
use Rattle.answer_desk.proofs.FollowingPlaceLemmas.{place_over, places_over, places_same, places_then}
use Rattle.answer_desk.proofs.FollowingStepLemmas.{brave_skips, brave_ends, iar_sure}
use Rattle.answer_evidence.proofs.SetLemmas.{each_at}
use Rattle.answer_desk.proofs.SolverLemmas.{variables-with_all}

-- ---- whether a question is settled

pub settled_by : (b r : Bool) → r ≡ not b → r ≡ true → b ≡ false
settled_by true r is t = absurd (true≢false (sym t ∙ is))
settled_by false r is t = refl

pub unsettled_by : (b r : Bool) → r ≡ not b → r ≡ false → b ≡ true
unsettled_by true r is f = refl
unsettled_by false r is f = absurd (true≢false (sym is ∙ f))

-- ---- what stays

-- a try leaves the variables alone
pub tries_variables : (t : Try) (s : Search) (causes : List (List ℕ)) (e e' : Evidence) (was now : Option (List Line)) (h : How)
    → Tries t s causes e e' was now h → s.new.variables ≡ s.old.variables
tries_variables t s causes e e' was now h x =
    ap (λ (state : State). state.variables) x.learnt.live ∙ variables-with_all (cleared s.old) x.entries

pub frame_along : (w : Frame) (g g' : ConflictGraph) (p p' : Priority) (causes causes' : List (List ℕ)) (selector selector' : ℕ)
    (scope scope' : List ℕ) (limit limit' : ℕ) → IsFrameFor w g p causes selector scope limit → g ≡ g' → p ≡ p' → causes ≡ causes'
    → selector ≡ selector' → scope ≡ scope' → limit ≡ limit' → IsFrameFor w g' p' causes' selector' scope' limit'
frame_along w g g' p p' causes causes' selector selector' scope scope' limit limit' f gs ps cs sel sc lim = record {
  conflicts_are = f.conflicts_are ∙ gs;
  better_is = f.better_is ∙ ps;
  causes_are = f.causes_are ∙ cs;
  selector_is = f.selector_is ∙ sel;
  scope_is = f.scope_is ∙ sc;
  budget_is = f.budget_is ∙ lim;
}

pub spends_none : (state : State) (budget : Budget) → budget.used ≤ budget.limit → Spends state state budget budget
spends_none state budget within = record { limit = refl; within = within; more = omega arith; numbers = refl }

pub spends_then : (a b c : State) (x y z : Budget) → Spends a b x y → Spends b c y z → Spends a c x z
spends_then a b c x y z first second = record {
  limit = second.limit ∙ first.limit;
  within = second.within;
  more = (let l = first.more in let k = second.more in omega arith);
  numbers = (let l = first.numbers in let k = second.numbers in omega arith);
}

-- nothing of the budget of a question is used at its beginning
pub whole_within : (budget : Budget) (limit : ℕ) → budget ≡ record { limit = limit; used = 0 } → budget.used ≤ budget.limit
whole_within budget limit is = let none = ap (λ (b : Budget). b.used) is in omega arith

pub spent_whole : (a b : State) (x y : Budget) (limit : ℕ) → x ≡ record { limit = limit; used = 0 } → Spends a b x y → b.next ≤ a.next + limit
spent_whole a b x y limit is s =
    let none = ap (λ (b : Budget). b.used) is in
    let whole = ap (λ (b : Budget). b.limit) is in
    let same = s.limit in
    let within = s.within in
    let numbers = s.numbers in
    omega arith

-- there is room for a question, and for what is left of it
pub room_whole : (state : State) (budget : Budget) (limit : ℕ) → budget ≡ record { limit = limit; used = 0 } → state.next + limit < 2 ^ 64
    → HasRoom state budget
room_whole state budget limit is room = record {
  within = whole_within budget limit is;
  numbers = (let none = ap (λ (b : Budget). b.used) is in let whole = ap (λ (b : Budget). b.limit) is in omega arith);
}

pub room_left : (a b : State) (x y : Budget) → HasRoom a x → Spends a b x y → HasRoom b y
room_left a b x y room s = record {
  within = s.within;
  numbers = (let l = room.numbers in let w = room.within in let n = s.numbers in let k = s.limit in let m = s.more in let h = s.within in omega arith);
}

pub only_then : (a b c : Work) → b ≡ record a { solver = b.solver; cores = b.cores } → c ≡ record b { solver = c.solver; cores = c.cores }
    → c ≡ record a { solver = c.solver; cores = c.cores }
only_then a b c first second = second ∙ ap (λ (w : Work). record w { solver = c.solver; cores = c.cores }) first

-- the frame after a call
pub frame_on : (w : Frame) (old new : Work) (causes lists : List (List ℕ)) (opening opening' : Opening) (limit limit' : ℕ)
    → new ≡ record old { solver = new.solver; cores = new.cores } → lists ≡ causes → IsSameOpening opening opening' → limit' ≡ limit
    → IsFrameFor w old.conflicts.now old.better.now causes opening.selector opening.scope.items limit
    → IsFrameFor w new.conflicts.now new.better.now lists opening'.selector opening'.scope.items limit'
frame_on w old new causes lists opening opening' limit limit' only cs same ls f =
    frame_along w old.conflicts.now new.conflicts.now old.better.now new.better.now causes lists opening.selector opening'.selector opening.scope.items
    opening'.scope.items limit limit' f (sym (ap (λ (v : Work). v.conflicts.now) only)) (sym (ap (λ (v : Work). v.better.now) only)) (sym cs)
    (sym same.selector) (sym (ap (λ v. v.items) same.scope)) (sym ls)

pub same_opening : (a : Opening) → IsSameOpening a a
same_opening a = record { selector = refl; scope = refl; first_core = refl }

pub same_then : (a b c : Opening) → IsSameOpening a b → IsSameOpening b c → IsSameOpening a c
same_then a b c first second = record {
  selector = second.selector ∙ first.selector;
  scope = second.scope ∙ first.scope;
  first_core = second.first_core ∙ first.first_core;
}

pub adds_none : (was : Option (List Line)) → AddsLines was was []
adds_none None = tt
adds_none (Some lines) = AddsLines-none (Some lines) (Some lines) refl

-- ---- where an open answer is

-- its solver, its cores, its stage, its evidence, and its report's lines
pub record Spot : Type 0 where
  pub state : State
  pub cores : ℕ
  pub stage : Stage
  pub evidence : Evidence
  pub lines : Option (List Line)

abbrev pub IsAt : Frame → List Line → Spot → Type 0
IsAt w more s = FollowsOpen w more s.state s.cores s.stage s.evidence

abbrev pub GoesTo : Frame → List Line → Spot → Spot → Type 0
GoesTo w more a b = GoesOn w more b.state b.cores b.stage b.evidence a.lines b.lines

-- whatever its lines so far
abbrev pub Leads : Frame → Spot → Spot → Type 0
Leads w a b = (more : List Line) → IsAt w more a → GoesTo w more a b

abbrev pub Halts : Frame → Spot → Option (List Line) → Option Line → Type 0
Halts w a now torn = (more : List Line) → IsAt w more a → StopsAfter w more a.lines now torn

pub leads_here : (w : Frame) (a : Spot) → Leads w a a
leads_here w a more o = ([], o, adds_none a.lines)

pub leads_then : (w : Frame) (a b c : Spot) → Leads w a b → Leads w b c → Leads w a c
leads_then w a b c x y more o = goes_twice w more b.state c.state b.cores c.cores b.stage c.stage b.evidence c.evidence a.lines b.lines c.lines
    (x more o) y

pub halts_then : (w : Frame) (a b : Spot) (now : Option (List Line)) (torn : Option Line) → Leads w a b → Halts w b now torn → Halts w a now torn
halts_then w a b now torn x y more o = goes_stops w more b.state b.cores b.stage b.evidence a.lines b.lines now torn (x more o) y

-- ---- brave, cause by cause

-- the brave try of a cause that had none so far, and what is left of it
pub cause_done : (w : Frame) (more : List Line) (state : State) (cores : ℕ) (done : List (List ℕ)) (cause : List ℕ) (used : ℕ) (e : Evidence)
    (was now : Option (List Line)) (h : How) → (h ≡ how.Model → ⊥) → CauseGoesOn w more state cores done cause used e was now h
    → GoesOn w more state cores (AtBrave (done ++ cause ∷ []) used) e was now
cause_done w more state cores done cause used e was now how.Model other x = absurd (other refl)
cause_done w more state cores done cause used e was now how.Refuted other x = x
cause_done w more state cores done cause used e was now how.Spent other x = x

pub cause_shown : (w : Frame) (more : List Line) (state : State) (cores : ℕ) (done : List (List ℕ)) (cause : List ℕ) (used : ℕ) (e : Evidence)
    (was now : Option (List Line)) (h : How) → h ≡ how.Model → CauseGoesOn w more state cores done cause used e was now h
    → GoesOn w more state cores (AtIar 0) e was now
cause_shown w more state cores done cause used e was now how.Model same x = x
cause_shown w more state cores done cause used e was now how.Refuted same x = absurd (cc)
cause_shown w more state cores done cause used e was now how.Spent same x = absurd (cc)

abbrev pub brave_at : State → ℕ → List (List ℕ) → ℕ → Evidence → Option (List Line) → Spot
brave_at state cores done used e lines = record { state = state; cores = cores; stage = AtBrave done used; evidence = e; lines = lines }

abbrev pub iar_at : State → ℕ → ℕ → Evidence → Option (List Line) → Spot
iar_at state cores used e lines = record { state = state; cores = cores; stage = AtIar used; evidence = e; lines = lines }

-- none of the causes is done
pub brave_first : (w : Frame) (causes : List (List ℕ)) (state : State) (cores used : ℕ) (e : Evidence) (lines : Option (List Line)) → used ≡ 0
    → Leads w (brave_at state cores [] 0 e lines) (brave_at state cores (take 0 causes) used e lines)
brave_first w causes state cores used e lines none more o =
    ([], subst (λ (n : ℕ). FollowsOpen w more state cores (AtBrave [] n) e) (sym none) o, adds_none lines)

module _ (w : Frame) (causes : List (List ℕ)) (place : ℕ) (state : State) (cores used : ℕ) (e : Evidence) (was : Option (List Line)) where
  -- one that stands twice
  pub brave_skip : place < length causes → Contains (take place causes) (get_or causes place [])
      → Leads w (brave_at state cores (take place causes) used e was) (brave_at state cores (take (place + 1) causes) used e was)
  brave_skip below twice more o = (
    [],
    subst (λ (done : List (List ℕ)). FollowsOpen w more state cores (AtBrave done used) e) (sym (take_more causes place [] below))
        (brave_skips w more state cores (take place causes) used e (get_or causes place []) o twice),
    adds_none was,
  )

  -- all of them: brave is over
  pub brave_done : length causes ≤ place → w.asked.causes ≡ causes
      → Leads w (brave_at state cores (take place causes) used e was) (iar_at state cores 0 (record e { brave_over = true }) was)
  brave_done end same more o = (
    [],
    brave_ends w more state cores (take place causes) used e o (λ cause m. subst (λ (xs : List (List ℕ)). Contains xs cause)
        (same ∙ sym (take_all place causes end)) m),
    adds_none was,
  )

  -- the next one
  module _ (state' : State) (cores' used' : ℕ) (e' : Evidence) (now : Option (List Line)) (h : How) (cause : List ℕ) (at : cause ≡ get_or causes place [])
      (asked : (more : List Line) (done : List (List ℕ)) → FollowsOpen w more state cores (AtBrave done used) e
      → ¬ Contains done cause → CauseGoesOn w more state' cores' done cause used' e' was now h) (fresh : ¬ Contains (take place causes) cause) where
    pub brave_next : place < length causes → (h ≡ how.Model → ⊥)
        → Leads w (brave_at state cores (take place causes) used e was) (brave_at state' cores' (take (place + 1) causes) used' e' now)
    brave_next below other more o =
        subst (λ (done : List (List ℕ)). GoesOn w more state' cores' (AtBrave done used') e' was now)
        (ap (λ (c : List ℕ). take place causes ++ c ∷ []) at ∙ sym (take_more causes place [] below))
        (cause_done w more state' cores' (take place causes) cause used' e' was now h other (asked more (take place causes) o fresh))

    pub brave_found : h ≡ how.Model → Leads w (brave_at state cores (take place causes) used e was) (iar_at state' cores' 0 e' now)
    brave_found same more o = cause_shown w more state' cores' (take place causes) cause used' e' was now h same
        (asked more (take place causes) o fresh)

-- ---- IAR, fact by fact

-- the facts of the cause at a place are refuted so far
pub record FactsSoFar (causes : List (List ℕ)) (place : ℕ) (F : Frame → Type 0) (a b : Spot) : Type 0 where
  pub leads : (w : Frame) → F w → Leads w a b
  pub stay : PlacesStayOver causes a.evidence b.evidence
  pub uncut : slice_index_or b.evidence.cut.items place false ≡ false

pub facts_none : (causes : List (List ℕ)) (place : ℕ) (F : Frame → Type 0) (facts : List ℕ) (a : Spot) → IsCauseAt causes a.evidence place facts
    → FactsSoFar causes place F a a
facts_none causes place F facts a at = record {
  leads = λ w f. leads_here w a;
  stay = places_same causes a.evidence;
  uncut = at.uncut;
}

pub facts_next : (causes : List (List ℕ)) (place : ℕ) (F : Frame → Type 0) (a b c : Spot) → FactsSoFar causes place F a b
    → ((w : Frame) → F w → Leads w b c) → PlacesStayOver causes b.evidence c.evidence → c.evidence.cut ≡ b.evidence.cut
    → FactsSoFar causes place F a c
facts_next causes place F a b c so leads stay same = record {
  leads = λ w f. leads_then w a b c (so.leads w f) (leads w f);
  stay = places_then causes a.evidence b.evidence c.evidence so.stay stay;
  uncut = ap (λ cut. slice_index_or cut.items place false) same ∙ so.uncut;
}

-- the fact of the cause is asked
pub fact_asked : (causes : List (List ℕ)) (place : ℕ) (facts : List ℕ) (old e : Evidence) (fact : ℕ) → IsCauseAt causes old place facts
    → length e.cut.items ≡ length causes → slice_index_or e.cut.items place false ≡ false → Contains facts fact
    → is_undecided (verdict_in e question.Iar) ≡ true → IsAskedAt causes e place fact
fact_asked causes place facts old e fact at all uncut member unsettled = record {
  all = all;
  below = at.below;
  member = subst (λ (xs : List ℕ). Contains xs fact) (sym at.facts_are) member;
  uncut = uncut;
  unsettled = unsettled;
}

-- the cause is through where IAR is settled, after a fact that isn't refuted, and where all of them are
module _ (causes : List (List ℕ)) (place : ℕ) (F : Frame → Type 0) (a : Spot) (state : State) (cores used : ℕ) (e : Evidence) (lines : Option (List Line))
    (so : FactsSoFar causes place F a (iar_at state cores used e lines)) where
  pub facts_settled : is_undecided (verdict_in e question.Iar) ≡ false → (w : Frame) (more : List Line) → F w → IsAt w more a
      → PlaceGoesOn w more causes place state cores used a.evidence e a.lines lines
  facts_settled settled w more f o = record { goes = so.leads w f more o; stay = so.stay; over = inl settled }

  pub facts_all : (facts : List ℕ) → IsCauseAt causes a.evidence place facts → IsWithin facts e.refuted → (w : Frame) (more : List Line) → F w
      → w.asked.causes ≡ causes → IsAt w more a → PlaceGoesOn w more causes place state cores used a.evidence e a.lines lines
  facts_all facts at within w more f same o =
      let x = so.leads w f more o in
      record {
        goes = x;
        stay = so.stay;
        over = inl (iar_sure w (x.0 ++ more) state cores (AtIar used) e x.1 facts
            (subst (λ (xs : List (List ℕ)). Contains xs facts) (sym same)
            (subst (Contains causes) at.facts_are (Contains-get_or causes place [] at.below))) within);
      }

  module _ (state' : State) (cores' used' : ℕ) (e' : Evidence) (now : Option (List Line))
      (asked : (w : Frame) → F w → Leads w (iar_at state cores used e lines) (iar_at state' cores' used' e' now)) (stay : PlacesStayOver causes e e') where
    pub facts_left : (fact : ℕ) (h : How) → Contains (slice_index_or causes place []) fact → FactIsSeen causes place fact e e' h
        → (h ≡ how.Refuted → ⊥) → (w : Frame) (more : List Line) → F w → IsAt w more a
        → PlaceGoesOn w more causes place state' cores' used' a.evidence e' a.lines now
    facts_left fact h member seen other w more f o = record {
      goes = leads_then w a (iar_at state cores used e lines) (iar_at state' cores' used' e' now) (so.leads w f) (asked w f) more o;
      stay = places_then causes a.evidence e e' so.stay stay;
      over = place_over causes place fact e e' h member seen other;
    }

-- after a refuted fact of the cause the refuted ones are one more
pub refuted_more : (causes : List (List ℕ)) (place fact : ℕ) (facts : List ℕ) (n : ℕ) (e e' : Evidence) (h : How) → h ≡ how.Refuted
    → FactIsSeen causes place fact e e' h → get_or facts n 0 ≡ fact → ((k : ℕ) → k < n → Contains e.refuted (get_or facts k 0))
    → (k : ℕ) → k < n + 1 → Contains e'.refuted (get_or facts k 0)
refuted_more causes place fact facts n e e' how.Refuted same seen is before =
    below_more (λ (k : ℕ). Contains e'.refuted (get_or facts k 0)) n (λ k l. seen.2 (get_or facts k 0) (before k l))
    (subst (Contains e'.refuted) (sym is) seen.0)
refuted_more causes place fact facts n e e' how.Model same seen is before = absurd (cc)
refuted_more causes place fact facts n e e' how.Spent same seen is before = absurd (cc)

pub refuted_cut : (causes : List (List ℕ)) (place fact : ℕ) (e e' : Evidence) (h : How) → h ≡ how.Refuted → FactIsSeen causes place fact e e' h
    → e'.cut ≡ e.cut
refuted_cut causes place fact e e' how.Refuted same seen = seen.1
refuted_cut causes place fact e e' how.Model same seen = absurd (cc)
refuted_cut causes place fact e e' how.Spent same seen = absurd (cc)

pub refuted_all : (facts : List ℕ) (e : Evidence) (n : ℕ) → length facts ≤ n → ((k : ℕ) → k < n → Contains e.refuted (get_or facts k 0))
    → IsWithin facts e.refuted
refuted_all facts e n end each = each_at (Contains e.refuted) facts 0 n end each

pub few_after : (h : How) (cores : ℕ) → cores_after h cores ≤ cores + 1
few_after how.Model cores = omega arith
few_after how.Refuted cores = omega arith
few_after how.Spent cores = omega arith

pub same_after : (h : How) (cores : ℕ) → (h ≡ how.Model → ⊥) → cores_after h cores ≡ cores
same_after how.Model cores other = absurd (other refl)
same_after how.Refuted cores other = refl
same_after how.Spent cores other = refl

-- ---- IAR, cause by cause

-- the answer is open, and it is through with the causes before the place
pub record IarSoFar (w : Frame) (more : List Line) (causes : List (List ℕ)) (place : ℕ) (a b : Spot) : Type 0 where
  pub goes : GoesTo w more a b
  pub over : (i : ℕ) → i < place → i < length causes → PlaceIsOver causes b.evidence i

abbrev pub IarLeads : Frame → List (List ℕ) → ℕ → Spot → Spot → Type 0
IarLeads w causes place a b = (more : List Line) → IsAt w more a → IarSoFar w more causes place a b

pub iar_halts : (w : Frame) (causes : List (List ℕ)) (place : ℕ) (a b : Spot) (now : Option (List Line)) (torn : Option Line) → IarLeads w causes place a b
    → Halts w b now torn → Halts w a now torn
iar_halts w causes place a b now torn x y = halts_then w a b now torn (λ more o. (x more o).goes) y

pub iar_first : (w : Frame) (causes : List (List ℕ)) (state : State) (cores used : ℕ) (e : Evidence) (lines : Option (List Line)) → used ≡ 0
    → IarLeads w causes 0 (iar_at state cores 0 e lines) (iar_at state cores used e lines)
iar_first w causes state cores used e lines none more o = record {
  goes = ([], subst (λ (n : ℕ). FollowsOpen w more state cores (AtIar n) e) (sym none) o, adds_none lines);
  over = λ i l k. absurd (omega arith);
}

module _ (w : Frame) (causes : List (List ℕ)) (place : ℕ) (a b : Spot) (x : IarLeads w causes place a b) where
  pub iar_skip : slice_index_or b.evidence.cut.items place false ≡ true → IarLeads w causes (place + 1) a b
  iar_skip cut more o =
      let s = x more o in
      record {
        goes = s.goes;
        over = below_more (λ (i : ℕ). i < length causes → PlaceIsOver causes b.evidence i) place s.over (λ k. inr (inl cut));
      }

  pub iar_next : (state : State) (cores used : ℕ) (e : Evidence) (lines : Option (List Line)) → ((more : List Line) → IsAt w more b
      → PlaceGoesOn w more causes place state cores used b.evidence e b.lines lines) → IarLeads w causes (place + 1) a (iar_at state cores used e lines)
  iar_next state cores used e lines y more o =
      let s = x more o in
      let z = y (s.goes.0 ++ more) s.goes.1 in
      record {
        goes = leads_then w a b (iar_at state cores used e lines) (λ more o. (x more o).goes) (λ more o. (y more o).goes) more o;
        over = below_more (λ (i : ℕ). i < length causes → PlaceIsOver causes e i) place (λ i l k. z.stay i k (s.over i l k)) (λ k. z.over);
      }

module _ (w : Frame) (causes : List (List ℕ)) (place : ℕ) (a : Spot) (state : State) (cores used : ℕ) (e : Evidence) (lines : Option (List Line))
    (x : IarLeads w causes place a (iar_at state cores used e lines)) where
  pub iar_settled : is_undecided (verdict_in e question.Iar) ≡ false → (more : List Line) → IsAt w more a
      → IarGoesOn w more causes state cores e a.lines lines
  iar_settled settled more o = record { used = used; goes = (x more o).goes; over = inl settled }

  pub iar_all : length causes ≤ place → (more : List Line) → IsAt w more a → IarGoesOn w more causes state cores e a.lines lines
  iar_all end more o = record {
    used = used;
    goes = (x more o).goes;
    over = places_over causes e (λ i l. (x more o).over i (omega arith) l);
  }

-- ---- the three questions

module _ (w : Frame) (causes : List (List ℕ)) (a : Spot) (first second : State) (cores cores' : ℕ) (e e' : Evidence) (mid late : Option (List Line))
    (brave : Leads w a (iar_at first cores 0 e mid)) (iar : (more : List Line) → IsAt w more (iar_at first cores 0 e mid)
    → IarGoesOn w more causes second cores' e' mid late) where
  pub questions_go : (last : State) (cores_last : ℕ) (e_last : Evidence) (now : Option (List Line))
      → ((more : List Line) (used : ℕ) → FollowsOpen w more second cores' (AtIar used) e' → IarIsOver causes e'
      → GoesOn w more last cores_last AtEnd e_last late now)
      → (more : List Line) → IsAt w more a → GoesOn w more last cores_last AtEnd e_last a.lines now
  questions_go last cores_last e_last now ar more o =
      goes_twice w more first last cores cores_last (AtIar 0) AtEnd e e_last a.lines mid now (brave more o)
      (λ lines at. let y = iar lines at in
      goes_twice w lines second last cores' cores_last (AtIar y.used) AtEnd e' e_last mid late now y.goes (λ ls there. ar ls y.used there y.over))

  pub questions_stop : (now : Option (List Line)) (torn : Option Line)
      → ((more : List Line) (used : ℕ) → FollowsOpen w more second cores' (AtIar used) e' → IarIsOver causes e' → StopsAfter w more late now torn)
      → (more : List Line) → IsAt w more a → StopsAfter w more a.lines now torn
  questions_stop now torn ar more o =
      goes_stops w more first cores (AtIar 0) e a.lines mid now torn (brave more o)
      (λ lines at. let y = iar lines at in
      goes_stops w lines second cores' (AtIar y.used) e' mid late now torn y.goes (λ ls there. ar ls y.used there y.over))

-- the AR try, by what the evidence takes of it
pub sees_ar_same : (h : How) → (h ≡ how.Refuted → ⊥) → (e : Evidence) → SeesAr h e e
sees_ar_same how.Model other e = refl
sees_ar_same how.Refuted other e = absurd (other refl)
sees_ar_same how.Spent other e = refl
