-- An answer begins: its `ask` line alone, with no evidence.
use Rattle.std.proofs.Common.{◌≡◌, ℕ, zero, suc, ◌<◌, ◌⊎◌, ◌↔◌, inl, inr, List, [], ◌∷◌, map, length, All, Contains, true, false, refl, sym, subst, ap}
use Rattle.std.proofs.Common.{◌∙◌, arith}
use Rattle.std.proofs.Common.{Bool, true≢false}
use Rattle.std.specs.Prelude.{slice_index_or}
use Rattle.std.proofs.lemmas.List.{length-map, append-nil}
use Rattle.std.proofs.lemmas.List.Elements.{All-contains}
use Rattle.cq_terms.specs.Knowledge.{Knowledge}
use Rattle.cq_meaning.proofs.Members.{Contains-head, Contains-cases, Contains-nil}
use Rattle.clause_meaning.specs.Refutation.{IsWithin}
use Rattle.repair_clauses.specs.BaseClauses.{AllFacts, IsBaseClause}
use Rattle.cdcl_core.specs.State.{State}
use Rattle.report_text.specs.declared.line.Line.{Line}
use Rattle.report_text.specs.declared.line.Line.TheVariants as line
use Rattle.report_rules.specs.Clauses.{IsCauseClause}
use Rattle.report_rules.specs.Evidence.{SomeCore, Meets}
use Rattle.report_laws.specs.Scopes.{IsScope}
use Rattle.report_laws.specs.DeskAnswers.{ask_line}
use Rattle.report_laws.proofs.BoundLemmas.{graph_tells}
use Rattle.report_laws.proofs.OverPriorityLemmas.{conflicts_of_priority}
use Rattle.report_laws.proofs.ScopeLemmas.{components_scope}
use Rattle.report_laws.proofs.ScopeLines.{scope_begins}
use Rattle.report_laws.proofs.StartLemmas.{starts_carry_apart}
use Rattle.answer_evidence.specs.declared.evidence.Evidence.{Evidence}
use Rattle.answer_desk.specs.Desks.{given_in, learned_in}
use Rattle.answer_evidence.specs.FreeCauses.{IsFreeCause}
use Rattle.answer_evidence.specs.Sets.{SomeWithin, EachMeets}
use Rattle.answer_evidence.specs.Shown.{ShowsNothing}
use Rattle.answer_desk.specs.Following.{Frame, own_selector, IsToldBefore, IsBaseOf, IsFrame, ShowsCores, ShowsTries, AtBrave, Shows, FollowsOpen}

-- ---- no line shows anything

-- nothing is shown where the test is false
not_shown : (b : Bool) (P : Type 0) → b ≡ false → (P → ⊥) → (b ≡ true) ↔ P
not_shown b P f none = ((λ t. absurd (true≢false (sym t ∙ f))), (λ p. absurd (none p)))

-- what there is none of
neither : (P Q : Type 0) → (P → ⊥) → (Q → ⊥) → P ↔ Q
neither P Q p q = ((λ h. absurd (p h)), (λ h. absurd (q h)))

none_true : (xs : List (List ℕ)) (i : ℕ) → slice_index_or (map (λ _. false) xs) i false ≡ false
none_true [] i = refl
none_true (x ∷ xs) zero = refl
none_true (x ∷ xs) (suc i) = none_true xs i

-- a cause has a fact, and so isn't within no facts
not_within_none : (w : Frame) → IsFrame w → SomeWithin w.asked.causes [] → ⊥
not_within_none w frame (cause, m, within) = go cause (All-contains (IsFreeCause w.better) w.asked.causes cause frame.causes_are m).some within
  where
    go : (cause : List ℕ) → 0 < length cause → IsWithin cause [] → ⊥
    go [] l h = omega arith
    go (f ∷ cause) l h = Contains-nil f (h f (Contains-head f cause))

module _ (w : Frame) (frame : IsFrame w) (e : Evidence) (shows : ShowsNothing w.asked.causes e) (before : List Line) (told : IsToldBefore w before) where
  no_core : (P : List ℕ → List ℕ → Type 0) → SomeCore (ask_line w.asked w.members ∷ before) [] P → ⊥
  no_core P (n, kept, dropped, inl named, m, p) = named
  no_core P (n, kept, dropped, inr listed, m, p) = Contains-nil n listed

  begin_cores : ShowsCores w.asked.causes e (ask_line w.asked w.members ∷ before)
  begin_cores = record {
    keeps = not_shown e.keeps (SomeCore (ask_line w.asked w.members ∷ before) [] (λ kept dropped. SomeWithin w.asked.causes kept)) shows.keeps
        (no_core (λ kept dropped. SomeWithin w.asked.causes kept));
    drops_all = not_shown e.drops_all (SomeCore (ask_line w.asked w.members ∷ before) [] (λ kept dropped. EachMeets w.asked.causes dropped))
        shows.drops_all (no_core (λ kept dropped. EachMeets w.asked.causes dropped));
    all = ap length shows.none_cut ∙ length-map w.asked.causes (λ (c : List ℕ). false);
    cut = λ i below. not_shown (slice_index_or e.cut.items i false)
        (SomeCore (ask_line w.asked w.members ∷ before) [] (λ kept dropped. Meets (slice_index_or w.asked.causes i []) dropped))
        (ap (λ (xs : List Bool). slice_index_or xs i false) shows.none_cut ∙ none_true w.asked.causes i)
        (no_core (λ kept dropped. Meets (slice_index_or w.asked.causes i []) dropped));
  }

  begin_tries : ShowsTries w e (ask_line w.asked w.members ∷ before)
  begin_tries = record {
    refuted = λ i. neither (Contains e.refuted i) ⊥ (λ m. Contains-nil i (subst (λ (xs : List ℕ). Contains xs i) shows.refuted m)) (λ h. h);
    spent = λ i. neither (Contains e.spent i) ⊥ (λ m. Contains-nil i (subst (λ (xs : List ℕ). Contains xs i) shows.spent m)) (λ h. h);
    sure = not_shown e.sure (SomeWithin w.asked.causes e.refuted) shows.sure
        (λ h. not_within_none w frame (subst (SomeWithin w.asked.causes) shows.refuted h));
    ar_refuted = not_shown e.ar_refuted ⊥ shows.ar_refuted (λ h. h);
    brave_spent = not_shown e.brave_spent ((cause : List ℕ) × Contains w.asked.causes cause × ⊥) shows.brave_spent (λ h. h.2);
    brave_over = λ t. absurd (true≢false (sym t ∙ shows.brave_over));
  }

  begin_shows : Shows w e (AtBrave [] 0) (ask_line w.asked w.members ∷ before)
  begin_shows = record {
    between = refl;
    asks = refl;
    cores_numbered = λ n kept dropped m. elim (Contains-cases (ask_line w.asked w.members) before (line.Core n kept dropped) m)
        [ inl e ↦ absurd (cc) | inr l ↦ told.cores_numbered n kept dropped l ];
    named = λ n. ((λ h. absurd h), (λ h. absurd (let same = told.cores in let least = h.0 in let below = h.1 in omega arith)));
    named_is = λ n h. absurd h;
    over = record { tried = λ q assume h t. absurd t; ended = λ q assume t. absurd t; once = λ q assume h h' t u. absurd t; shown = λ q assume t. absurd t };
    cores = begin_cores;
    tries = begin_tries;
    stands = record {
      used_is = refl;
      none_used = (refl, refl);
      only = λ q assume t. absurd t;
      each = λ cause m. absurd (Contains-nil cause m);
      none_named = λ n h. h;
    };
  }

-- an answer begins with the clauses of its causes beside the base clauses and those that it starts with
pub begin_following : (w : Frame) (state : State) (cores : ℕ) (e : Evidence) → IsFrame w
    → ((clause : List ℕ) → Contains (given_in state.live) clause
    ↔ (IsBaseClause w.better (AllFacts w.better) clause ⊎ IsCauseClause (own_selector w) w.asked.causes clause))
    → learned_in state.live ≡ w.start.learned → state.next ≡ w.start.clauses → cores ≡ w.start.cores → ShowsNothing w.asked.causes e
    → FollowsOpen w [] state cores (AtBrave [] 0) e
begin_following w state cores e frame given learned next first shows = record {
  follows = record {
    frame = frame;
    given = given;
    learned_are = learned ∙ sym (append-nil w.start.learned);
    next = next ∙ omega arith;
    answered = λ input before of told. tt;
    numbered = tt;
    keeps = λ kb of before told. scope_begins kb before ((starts_carry_apart kb w.start before told).0 (frame.apart kb of)) w.asked.candidate w.asked.tuple
        w.asked.causes w.members w.facts (scope kb of);
  };
  cores_are = first ∙ omega arith;
  shows = λ before told. begin_shows w frame e shows before told;
}
  where
    scope : (kb : Knowledge) → IsBaseOf w kb → IsScope kb w.asked.causes w.facts
    scope kb of = components_scope kb w.asked.causes w.facts (λ cause m. subst (λ (n : ℕ). All (λ i. i < n) cause) of.facts
        (All-contains (IsFreeCause w.better) w.asked.causes cause frame.causes_are m).known)
        (((graph_tells kb w.conflicts (conflicts_of_priority kb w.start.mode w.better w.conflicts of frame.over)).reached w.asked.causes w.facts).0
        frame.reached)
