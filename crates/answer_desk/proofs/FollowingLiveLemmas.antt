-- The clauses of a solver are the live ones of the lines of its open answer.
use Rattle.std.proofs.Common.{◌≡◌, ℕ, ◌+◌, ◌<◌, inl, inr, List, [], ◌∷◌, ◌++◌, length, All, Contains, true, sym, subst, ap, ◌∙◌}
use Rattle.std.proofs.lemmas.List.Elements.{All-contains}
use Rattle.cq_meaning.specs.Repairs.{IsAcyclic}
use Rattle.priority_graph.specs.Inputs.{IsPriorityOf}
use Rattle.cdcl_core.specs.State.{State, LiveIn}
use Rattle.report_text.specs.declared.line.Line.{Line}
use Rattle.report_rules.specs.declared.place.Place.TheVariants.{InTry}
use Rattle.report_rules.specs.Inputs.{Input, AreFacts, selector_of}
use Rattle.report_rules.specs.Clauses.{IsBaseClause, IsCauseClause}
use Rattle.report_rules.specs.Order.{place_of, is_open}
use Rattle.report_rules.specs.Told.{mode_of, budget_of}
use Rattle.report_rules.specs.Tries.{Asked, asked}
use Rattle.report_rules.specs.Live.{Learned, learned, Live}
use Rattle.report_laws.specs.OpenAnswers.{IsRightAnswer, start_of, LearnedHold, IsAmong, Tells}
use Rattle.report_laws.specs.Scopes.{scope_of, AreComponents, LearnedApart}
use Rattle.report_laws.specs.SolverSteps.{IsSolving}
use Rattle.report_laws.proofs.BaseClauseLemmas.{means}
use Rattle.report_laws.proofs.PriorityLemmas.{base_of_priority}
use Rattle.report_laws.proofs.BoundLemmas.{graph_tells}
use Rattle.report_laws.proofs.OverPriorityLemmas.{conflicts_of_priority}
use Rattle.report_laws.proofs.StartLemmas.{starts_carry, starts_carry_apart}
use Rattle.report_laws.proofs.DeskLemmas.{added_answer, added_learn, options_stay}
use Rattle.answer_evidence.specs.FreeCauses.{IsFreeCause}
use Rattle.answer_desk.specs.Following.{Frame, own_selector, own_scope, lines_on, IsBaseOf, Follows}
use Rattle.answer_desk.proofs.LiveLemmas.{live_cases, live_from}

-- ---- an answer behind lines that tell its start

pub record IsAt (w : Frame) (more : List Line) (input : Input) (before : List Line) : Type 0 where
  pub right : IsRightAnswer input (lines_on w more before)
  pub starts : start_of (lines_on w more before) ≡ before
  pub asks : asked (lines_on w more before) ≡ w.asked
  pub is_opened : is_open (lines_on w more before) ≡ true
  pub same_mode : mode_of (lines_on w more before) ≡ w.start.mode
  pub same_budget : budget_of (lines_on w more before) ≡ w.start.budget
  pub lives : learned (length input.kb.facts) (lines_on w more before) ≡ w.start.learned ++ learned w.better.facts more
  pub selects : own_selector w ≡ selector_of input.kb (asked (lines_on w more before)).candidate
  pub scoped : own_scope w ≡ scope_of input.kb (asked (lines_on w more before)) w.facts
  pub acyclic : IsAcyclic input.kb (mode_of (lines_on w more before))

module _ (w : Frame) (more : List Line) (state : State) (f : Follows w more state) (input : Input) (before : List Line) (of : IsBaseOf w input.kb)
    (told : Tells (length input.kb.facts) w.start before) where
  pub at : IsAt w more input before
  at =
      let a = added_answer input w.asked w.members before more (f.answered input before of told) in
      let o = options_stay input (lines_on w more before) a.0 in
      let mode = o.1 ∙ (ap mode_of a.1 ∙ told.mode) in
      let selects : own_selector w ≡ selector_of input.kb (asked (lines_on w more before)).candidate =
      ap (λ (n : ℕ). n + w.asked.candidate) of.facts ∙ ap (λ (x : Asked). selector_of input.kb x.candidate) (sym a.2) in
      record {
        right = a.0;
        starts = a.1;
        asks = a.2;
        is_opened = o.0;
        same_mode = mode;
        same_budget = o.2 ∙ (ap budget_of a.1 ∙ told.budget);
        lives = added_learn input w.asked w.members before more (f.answered input before of told) (length input.kb.facts)
            ∙ (ap (λ (xs : List Learned). xs ++ learned (length input.kb.facts) more) told.learned
            ∙ ap (λ (n : ℕ). w.start.learned ++ learned n more) (sym of.facts));
        selects = selects;
        scoped = ap (λ (n : ℕ). w.facts ++ n ∷ []) selects;
        acyclic = subst (IsAcyclic input.kb) (sym mode) ((means input.kb w.start.mode w.better of).acyclic.0 f.frame.priority.acyclic);
      }

  -- the clauses of the solver are the live ones
  pub live_there : (c : List ℕ) → LiveIn state c → Live input.kb (lines_on w more before) c
  live_there c m = elim (live_cases state.live c m) [
    | inl g ↦ elim ((f.given c).0 g) [
      | inl base ↦ inl (w.better, subst (λ x. IsPriorityOf input.kb x w.better) (sym at.same_mode) of, base)
      | inr cause ↦ inr (inl (at.is_opened, is_cause cause))
    ]
    | inr l ↦ inr (inr (subst (λ (xs : List Learned). IsAmong xs c) (f.learned_are ∙ sym at.lives) l))
  ]
    where
      is_cause : IsCauseClause (own_selector w) w.asked.causes c
          → IsCauseClause (selector_of input.kb (asked (lines_on w more before)).candidate) (asked (lines_on w more before)).causes c
      is_cause h = subst (λ (x : Asked). IsCauseClause (selector_of input.kb (asked (lines_on w more before)).candidate) x.causes c) (sym at.asks)
          (subst (λ (n : ℕ). IsCauseClause n w.asked.causes c) at.selects h)

  pub live_back : (c : List ℕ) → Live input.kb (lines_on w more before) c → LiveIn state c
  live_back c (inl base) = live_from state.live c (inl ((f.given c).1 (inl ((base_of_priority input.kb w.start.mode w.better of c).0
      (subst (λ x. IsBaseClause input.kb x c) at.same_mode base)))))
  live_back c (inr (inl (o, h))) = live_from state.live c (inl ((f.given c).1 (inr (subst (λ (n : ℕ). IsCauseClause n w.asked.causes c) (sym at.selects)
      (subst (λ (x : Asked). IsCauseClause (selector_of input.kb (asked (lines_on w more before)).candidate) x.causes c) at.asks h)))))
  live_back c (inr (inr l)) = live_from state.live c (inr (subst (λ (xs : List Learned). IsAmong xs c) (at.lives ∙ sym f.learned_are) l))

  -- so the answer is a try that goes on, with these clauses
  pub solving : place_of (lines_on w more before) ≡ InTry → IsSolving input (lines_on w more before) w.facts (LiveIn state)
  solving trying = record {
    right = at.right;
    trying = trying;
    start = subst (LearnedHold input) (sym at.starts) ((starts_carry input w.start before told).0 (f.frame.hold input.kb of));
    apart = subst (LearnedApart input.kb) (sym at.starts) ((starts_carry_apart input.kb w.start before told).0 (f.frame.apart input.kb of));
    causes_known = subst (λ (x : Asked). (cause : List ℕ) → Contains x.causes cause → AreFacts input.kb cause) (sym at.asks) known;
    components = subst (λ (x : Asked). AreComponents input.kb x.causes w.facts) (sym at.asks)
        (((graph_tells input.kb w.conflicts (conflicts_of_priority input.kb w.start.mode w.better w.conflicts of f.frame.over)).reached w.asked.causes
        w.facts).0 f.frame.reached);
    keeps = f.keeps input.kb of before told;
    live = live_there;
    loaded = λ c l inside. live_back c l;
  }
    where
      known : (cause : List ℕ) → Contains w.asked.causes cause → AreFacts input.kb cause
      known cause m = subst (λ (n : ℕ). All (λ i. i < n) cause) of.facts
          (All-contains (IsFreeCause w.better) w.asked.causes cause f.frame.causes_are m).known
