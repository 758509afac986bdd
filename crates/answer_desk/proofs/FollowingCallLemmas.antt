-- What each call of an open answer leaves of it, over its conflicts, priority, causes, selector and scope.
use Rattle.std.proofs.Common.{◌≡◌, ℕ, suc, ◌+◌, ◌<◌, ◌≤◌, ◌⊎◌, ◌↔◌, inl, inr, List, [], ◌∷◌, ◌++◌, map, length, All, Contains, Bool, true, false}
use Rattle.std.proofs.Common.{true≢false, refl, sym, subst, ap, ◌∙◌, arith, Option, Some, None, Bor, not, ◌&&◌, ◌||◌}
use Rattle.std.specs.Prelude.{slice_index_or}
use Rattle.std.proofs.lemmas.Bool.{cases_Bool, or_cases, or_left, or_right}
use Rattle.std.proofs.lemmas.List.Elements.{Contains-get_or}
use Rattle.cq_terms.specs.Conflicts.{ConflictGraph}
use Rattle.clause_meaning.proofs.Members.{Contains-map, Contains-map_cases}
use Rattle.priority_graph.specs.Priority.{Priority, IsPriority}
use Rattle.repair_clauses.specs.BaseClauses.{AllFacts, IsBaseClause, present, absent}
use Rattle.repair_clauses.specs.CauseClauses.{cause_clause}
use Rattle.cdcl_core.specs.State.{State}
use Rattle.report_text.specs.declared.line.Line.{Line}
use Rattle.report_text.specs.declared.line.How.{How}
use Rattle.report_text.specs.declared.line.How.TheVariants as how
use Rattle.report_text.specs.declared.line.Question.TheVariants as question
use Rattle.report_rules.specs.Clauses.{IsCauseClause}
use Rattle.report_laws.specs.Bounds.{AreReached}
use Rattle.answer_evidence.specs.declared.aim.Aim.{Aim}
use Rattle.answer_evidence.specs.declared.aim.Aim.TheVariants as aim
use Rattle.answer_evidence.specs.declared.evidence.Evidence.{Evidence}
use Rattle.answer_evidence.specs.declared.opening.Opening.{Opening}
use Rattle.answer_desk.specs.Desks.{DeskState, MayAnswer, IsReady, given_in, learned_in}
use Rattle.answer_desk.specs.Loading.{Loads}
use Rattle.answer_desk.specs.Openings.{IsOpen}
use Rattle.answer_evidence.specs.Shown.{ShowsNothing, SeesCore, SeesRefuted, SeesSpent, SeesIar, SaysHow, all_true}
use Rattle.answer_evidence.specs.Shown.{is_undecided, verdict_in, is_yes, is_no, is_ar_no, is_brave_no}
use Rattle.answer_desk.specs.PlacesOver.{PlaceIsOver, PlacesStayOver, FactIsSeen}
use Rattle.answer_desk.specs.Trying.{Search, Tries, BreaksOff, Gets, cores_after}
use Rattle.answer_desk.specs.Following.{Frame, frame_of, own_selector, own_scope, IsFrame, IsFrameFor, Stage, AtBrave, AtIar, AtEnd, FollowsOpen, FollowsTry}
use Rattle.answer_desk.specs.Following.{GoesOn, CauseGoesOn, StopsAfter, SeesBrave, SeesAr, IarIsOver}
use Rattle.answer_desk.proofs.FollowingBeginLemmas.{begin_following}
use Rattle.answer_desk.proofs.FollowingEndLemmas.{frame_ready}
use Rattle.answer_desk.proofs.FollowingTryLemmas.{brave_line, brave_begins, iar_line, iar_begins, ar_line, ar_begins}
use Rattle.answer_desk.proofs.FollowingTriesLemmas.{own_try, try_of, own_try_is, brave_goes, iar_goes, ar_goes, try_stops}

-- ---- it opens

-- what opening an answer gives
pub record HasOpened (desk : DeskState) (number : ℕ) (tuple : List ℕ) (causes : List (List ℕ)) (members : List ℕ) (state : State) (opening : Opening) : Type 0
  where
    pub facts : List ℕ
    pub follows : FollowsOpen (frame_of desk number tuple causes members facts) [] state desk.cores (AtBrave [] 0) opening.evidence
    pub frame : IsFrameFor (frame_of desk number tuple causes members facts) desk.conflicts desk.better causes opening.selector opening.scope.items
        desk.plan.budget

pub open_follows : (desk : DeskState) (old new : State) (number : ℕ) (tuple : List ℕ) (causes : List (List ℕ)) (members : List ℕ) (opening : Opening)
    → IsReady desk old → desk.learned ≡ learned_in old.live → desk.clauses ≡ old.next → IsPriority desk.better → MayAnswer desk number causes
    → IsOpen desk.conflicts desk.better new opening causes → opening.selector ≡ desk.conflicts.facts + number
    → ShowsNothing causes opening.evidence → Loads (map (cause_clause (desk.conflicts.facts + number)) causes) old new
    → HasOpened desk number tuple causes members new opening
open_follows desk old new number tuple causes members opening ready learned clauses priority may is_open selector nothing loads =
    let (facts, reached, scope) = is_open.scope in
    let own : own_selector (frame_of desk number tuple causes members facts) ≡ opening.selector =
    ap (λ (n : ℕ). n + number) ready.over.facts ∙ sym selector in
    record {
      facts = facts;
      follows = begin_following (frame_of desk number tuple causes members facts) new desk.cores opening.evidence
          (frame_ready desk old number tuple causes members facts ready priority may reached)
          (λ c. subst (λ (n : ℕ). Contains (given_in new.live) c ↔ (IsBaseClause desk.better (AllFacts desk.better) c ⊎ IsCauseClause n causes c)) (sym own)
          (is_open.given c))
          (loads.learned ∙ sym learned) (loads.next ∙ sym clauses) refl nothing;
      frame = record {
        conflicts_are = refl;
        better_is = refl;
        causes_are = refl;
        selector_is = own;
        scope_is = ap (λ (n : ℕ). facts ++ n ∷ []) own ∙ sym scope;
        budget_is = refl;
      };
    }

-- ---- its tries

module _ (w : Frame) (more : List Line) (g : ConflictGraph) (p : Priority) (causes : List (List ℕ)) (selector : ℕ) (scope : List ℕ) (limit : ℕ)
    (f : IsFrameFor w g p causes selector scope limit) (s : Search) (cores : ℕ) (e : Evidence) (full : s.was.limit ≡ limit)
    (was now : Option (List Line)) where
  in_budget : s.was.limit ≡ w.start.budget
  in_budget = full ∙ sym f.budget_is

  own_tries : (a : Aim) (e' : Evidence) (h : How) → Tries (try_of p g selector scope cores a) s causes e e' was now h
      → Tries (own_try w cores a) s w.asked.causes e e' was now h
  own_tries a e' h x = subst (λ (cs : List (List ℕ)). Tries (own_try w cores a) s cs e e' was now h) (sym f.causes_are)
      (subst (λ t. Tries t s causes e e' was now h) (own_try_is w g p causes selector scope limit f cores a) x)

  own_breaks : (a : Aim) (added : List Line) → BreaksOff (try_of p g selector scope cores a) s added → BreaksOff (own_try w cores a) s added
  own_breaks a added x = subst (λ t. BreaksOff t s added) (own_try_is w g p causes selector scope limit f cores a) x

  -- the brave try of a cause that isn't done
  module _ (done : List (List ℕ)) (o : FollowsOpen w more s.old cores (AtBrave done s.was.used) e) (c : Bor (List ℕ)) (member : Contains causes c.now)
      (fresh : ¬ Contains done c.now) where
    own_member : Contains w.asked.causes c.now
    own_member = subst (λ (cs : List (List ℕ)). Contains cs c.now) (sym f.causes_are) member

    pub cause_follows : (e' e'' : Evidence) (h : How) → Tries (try_of p g selector scope cores (aim.WithCause c)) s causes e e' was now h
        → SeesBrave h e' e'' → CauseGoesOn w more s.new (cores_after h cores) done c.now s.now.used e'' was now h
    cause_follows e' e'' h x sees = brave_goes w more c own_member s.was.used s cores done e
        (brave_begins w more s.old cores e done s.was.used o c.now own_member fresh) refl in_budget was now e' e'' h
        (own_tries (aim.WithCause c) e' h x) sees

    pub cause_stops : (torn : Option Line) (added : List Line) → BreaksOff (try_of p g selector scope cores (aim.WithCause c)) s added
        → Gets was now torn added → StopsAfter w more was now torn
    cause_stops torn added x gets = try_stops w more (aim.WithCause c) own_member s.was.used s cores (AtBrave done s.was.used) e o.follows
        (brave_begins w more s.old cores e done s.was.used o c.now own_member fresh) refl in_budget
        (brave_line w more s.old cores e done s.was.used o c.now own_member fresh) was now torn added (own_breaks (aim.WithCause c) added x) gets

  -- the IAR try of a fact of a cause of which no core drops a fact
  module _ (o : FollowsOpen w more s.old cores (AtIar s.was.used) e) (place fact : ℕ) (below : place < length causes)
      (member : Contains (slice_index_or causes place []) fact) (uncut : slice_index_or e.cut.items place false ≡ false)
      (not_refuted : ¬ Contains e.refuted fact) (not_spent : ¬ Contains e.spent fact) (unsettled : is_undecided (verdict_in e question.Iar) ≡ true) where
    own_below : place < length w.asked.causes
    own_below = subst (λ (cs : List (List ℕ)). place < length cs) (sym f.causes_are) below

    own_fact : Contains (slice_index_or w.asked.causes place []) fact
    own_fact = subst (λ (cs : List (List ℕ)). Contains (slice_index_or cs place []) fact) (sym f.causes_are) member

    in_cause : (cause : List ℕ) × Contains w.asked.causes cause × Contains cause fact
    in_cause = (slice_index_or w.asked.causes place [], Contains-get_or w.asked.causes place [] own_below, own_fact)

    begun : FollowsTry w more question.Iar (absent fact ∷ []) s.was.used [] s.old cores (AtIar s.was.used) e
    begun = iar_begins w more s.old cores e s.was.used o place fact own_below own_fact uncut not_refuted not_spent unsettled

    pub fact_follows : (e' e'' : Evidence) (h : How) → Tries (try_of p g selector scope cores (aim.WithoutFact fact)) s causes e e' was now h
        → SeesIar causes fact h e' e'' → GoesOn w more s.new (cores_after h cores) (AtIar s.now.used) e'' was now
    fact_follows e' e'' h x sees = iar_goes w more fact in_cause s.was.used s cores e begun refl in_budget was now e' e'' h
        (own_tries (aim.WithoutFact fact) e' h x) (subst (λ (cs : List (List ℕ)). SeesIar cs fact h e' e'') (sym f.causes_are) sees)

    pub fact_stops : (torn : Option Line) (added : List Line) → BreaksOff (try_of p g selector scope cores (aim.WithoutFact fact)) s added
        → Gets was now torn added → StopsAfter w more was now torn
    fact_stops torn added x gets = try_stops w more (aim.WithoutFact fact) in_cause s.was.used s cores (AtIar s.was.used) e o.follows begun refl in_budget
        (iar_line w more s.old cores e s.was.used o place fact own_below own_fact uncut not_refuted not_spent unsettled) was now torn added
        (own_breaks (aim.WithoutFact fact) added x) gets

  -- the AR try
  module _ (used : ℕ) (o : FollowsOpen w more s.old cores (AtIar used) e) (iar : IarIsOver causes e)
      (unsettled : is_undecided (verdict_in e question.Ar) ≡ true)
      (none_used : s.was.used ≡ 0) (all : Bor (List (List ℕ))) (over : all.now ≡ causes) where
    own_iar : IarIsOver w.asked.causes e
    own_iar = subst (λ (cs : List (List ℕ)). IarIsOver cs e) (sym f.causes_are) iar

    pub ar_follows : (e' e'' : Evidence) (h : How) → Tries (try_of p g selector scope cores (aim.WithoutCauses all)) s causes e e' was now h → SeesAr h e' e''
        → GoesOn w more s.new (cores_after h cores) AtEnd e'' was now
    ar_follows e' e'' h x sees = ar_goes w more all (over ∙ sym f.causes_are) 0 used s cores e own_iar
        (ar_begins w more s.old cores e used o unsettled) none_used in_budget was now e' e'' h (own_tries (aim.WithoutCauses all) e' h x) sees

    pub ar_stops : (torn : Option Line) (added : List Line) → BreaksOff (try_of p g selector scope cores (aim.WithoutCauses all)) s added
        → Gets was now torn added → StopsAfter w more was now torn
    ar_stops torn added x gets = try_stops w more (aim.WithoutCauses all) (over ∙ sym f.causes_are) 0 s cores (AtIar used) e o.follows
        (ar_begins w more s.old cores e used o unsettled) none_used in_budget (ar_line w more s.old cores e used o unsettled) was now torn added
        (own_breaks (aim.WithoutCauses all) added x) gets
