-- After right lines an open answer is right by itself and starts with what is true; so each live clause is true of every chosen repair.
use Rattle.std.proofs.Common.{◌≡◌, ℕ, inl, inr, List, [], ◌∷◌, length, Contains, Bool, true, false, not, true≢false, refl, sym, subst, ap, ◌∙◌}
use Rattle.std.proofs.lemmas.Bool.{cases_Bool}
use Rattle.cq_meaning.specs.Repairs.{IsChosen}
use Rattle.cq_meaning.proofs.Members.{Contains-cases, Contains-nil}
use Rattle.clause_meaning.specs.Assignments.{SatisfiesAll}
use Rattle.priority_graph.specs.Split.{has}
use Rattle.report_text.specs.declared.line.Line.{Line}
use Rattle.report_text.specs.declared.line.Line.TheVariants as line
use Rattle.report_rules.specs.Inputs.{Input}
use Rattle.report_rules.specs.Order.{place_of, is_answering, is_open}
use Rattle.report_rules.specs.Told.{mode_of}
use Rattle.report_rules.specs.Tries.{count_cores}
use Rattle.report_rules.specs.Live.{learned, count_learned, IsLearned, Live}
use Rattle.report_rules.specs.TryRules.{LearnIsRight, CoreIsRight}
use Rattle.report_rules.specs.Accepted.{AreRight}
use Rattle.report_laws.specs.Readings.{Reads}
use Rattle.report_laws.specs.OpenAnswers.{start_of, IsRightAnswer, LearnedHold, CoresHold}
use Rattle.report_laws.specs.OpenLaws.{RestsOnTruth}
use Rattle.report_laws.proofs.ListLemmas.{Contains-filter}
use Rattle.report_laws.proofs.PlaceLemmas.{block_closed, over_closed, between_closed, ask_closed, try_open, starts_empty, asked_right}
use Rattle.report_laws.proofs.LiveLemmas.{base_of, open_true, answer_keeps, is_core, cores_more, open_cores, answer_cores}

module _ (input : Input) where
  -- ---- right lines

  -- what right lines keep: between answers the learned clauses and the cores hold, and an open answer is right and begins with such
  record IsHeld (before : List Line) : Type 0 where
    closed : is_open before ≡ false → LearnedHold input before × CoresHold input before
    opened : is_open before ≡ true → IsRightAnswer input before × LearnedHold input (start_of before) × CoresHold input (start_of before)

  -- a line between answers after which no learned clause is new
  stays : (x : Line) (b : List Line) → is_core x ≡ false → mode_of (x ∷ b) ≡ mode_of b → is_open (x ∷ b) ≡ false
      → ((clause : List ℕ) → IsLearned input.kb (x ∷ b) clause → IsLearned input.kb b clause) → LearnedHold input b × CoresHold input b → IsHeld (x ∷ b)
  stays x b f e shut less w = record {
    closed = λ o. (
      (λ R v c a clause m. w.0 R v (subst (λ z. IsChosen input.kb z R) e c) a clause (less clause m)),
      cores_more input x b f e w.1,
    );
    opened = λ o. absurd (true≢false (sym o ∙ shut));
  }

  -- a line of the open answer
  goes_on : (x : Line) (b : List Line) → is_open (x ∷ b) ≡ true → IsRightAnswer input (x ∷ b) → LearnedHold input (start_of (x ∷ b))
      × CoresHold input (start_of (x ∷ b)) → IsHeld (x ∷ b)
  goes_on x b o r w = record { closed = λ f. absurd (true≢false (sym o ∙ f)); opened = λ e. (r, w.0, w.1) }

  -- without its number
  learn_unnumbered : (b : List Line) (number : ℕ) (clause : List ℕ) → LearnIsRight input b number clause → LearnIsRight input b (count_learned b) clause
  learn_unnumbered b number clause own = record {
    counts = refl;
    in_budget = own.in_budget;
    not_empty = own.not_empty;
    ascending = own.ascending;
    distinct = own.distinct;
    literals = own.literals;
    follows = own.follows;
    new = own.new;
    needed = own.needed;
  }

  core_unnumbered : (b : List Line) (number : ℕ) (kept dropped : List ℕ) → CoreIsRight input b number kept dropped
      → CoreIsRight input b (count_cores b) kept dropped
  core_unnumbered b number kept dropped own = record {
    counts = refl;
    kept_ascending = own.kept_ascending;
    kept_facts = own.kept_facts;
    dropped_ascending = own.dropped_ascending;
    dropped_facts = own.dropped_facts;
    core = own.core;
  }

  held : (before : List Line) → AreRight input before → IsHeld before
  held [] r = record {
    closed = λ o. (
      (λ R v c a clause (n, m). absurd (Contains-nil (record { number = n; clause = clause }) m)),
      (λ n kept dropped m. absurd (Contains-nil (line.Core n kept dropped) m)),
    );
    opened = λ o. absurd (true≢false (sym o));
  }
  held (line.Head axioms budget facts keep repairs version ∷ b) (r, rs) = record {
    closed = λ o. (
      (λ R v c a clause (n, m). absurd (Contains-nil (record { number = n; clause = clause })
          (subst (λ x. Contains (learned (length input.kb.facts) x) (record { number = n; clause = clause })) (starts_empty b r.order) m))),
      (λ n kept dropped m. elim (Contains-cases _ b _ m) [
        | inl e ↦ absurd (cc)
        | inr h ↦ absurd (Contains-nil (line.Core n kept dropped) (subst (λ x. Contains x (line.Core n kept dropped)) (starts_empty b r.order) h))
      ]),
    );
    opened = λ o. absurd (true≢false (sym o));
  }
  held (line.Cq o query step ∷ b) (r, rs) = stays (line.Cq o query step) b refl refl refl (λ c m. m)
      ((held b rs).closed (block_closed input.form input.kb.axioms (place_of b) o r.order))
  held (line.Conflict facts rule member ∷ b) (r, rs) = stays (line.Conflict facts rule member) b refl refl refl (λ c m. m)
      ((held b rs).closed (over_closed input.form input.kb.axioms (place_of b) r.order))
  held (line.End answers brave ar iar undecided ∷ b) (r, rs) =
      stays (line.End answers brave ar iar undecided) b refl refl refl (λ c m. m)
      ((held b rs).closed (between_closed input.form input.kb.axioms (place_of b) r.order))
  held (line.Forget clauses ∷ b) (r, rs) = stays (line.Forget clauses) b refl refl refl
      (λ c (n, m). (n, (Contains-filter (λ x. not (has clauses x.number)) (learned (length input.kb.facts) b) (record { number = n; clause = c }) m).0))
      ((held b rs).closed (between_closed input.form input.kb.axioms (place_of b) r.order))
  held (line.Ask candidate tuple causes members ∷ b) (r, rs) =
      goes_on (line.Ask candidate tuple causes members) b refl tt ((held b rs).closed (ask_closed input.form input.kb.axioms (place_of b) r.order))
  held (line.Try question assume ∷ b) (r, rs) =
      let w = (held b rs).opened (ap is_answering r.order) in goes_on (line.Try question assume) b refl (record { order = r.order; own = r.own }, w.0)
      (w.1, w.2)
  held (line.Learn number clause ∷ b) (r, rs) =
      let w = (held b rs).opened (ap is_answering r.order) in
      goes_on (line.Learn number clause) b refl (record { order = r.order; own = learn_unnumbered b number clause r.own }, w.0) (w.1, w.2)
  held (line.Core number kept dropped ∷ b) (r, rs) =
      let w = (held b rs).opened (ap is_answering r.order) in
      goes_on (line.Core number kept dropped) b refl (record { order = r.order; own = core_unnumbered b number kept dropped r.own }, w.0) (w.1, w.2)
  held (line.Done how core ∷ b) (r, rs) =
      let w = (held b rs).opened (try_open (place_of b) r.order) in
      goes_on (line.Done how core) b refl (record { order = r.order; own = r.own }, w.0) (w.1, w.2)
  held (line.Answer brave ar iar cores names tuple ∷ b) (r, rs) =
      let w = (held b rs).opened (ap is_answering r.order) in
      record {
        closed = λ o. (
          answer_keeps input b w.0 w.1 brave ar iar cores names tuple,
          answer_cores input b (open_cores input b w.0 w.2) brave ar iar cores names tuple,
        );
        opened = λ o. absurd (true≢false (sym o));
      }

  -- an open answer after right lines is right by itself, in place, and begins with what holds
  pub opens_rightly : (before : List Line) → AreRight input before → is_open before ≡ true → IsRightAnswer input before × RestsOnTruth input before
  opens_rightly before r o = let w = (held before r).opened o in (w.0, record { in_place = asked_right input before r o; learned = w.1; cores = w.2 })

  -- between answers the learned clauses and the cores hold
  pub right_hold : (before : List Line) → AreRight input before → is_open before ≡ false → LearnedHold input before × CoresHold input before
  right_hold before r f = (held before r).closed f

  -- after right lines each live clause is true of every chosen repair
  pub live_true : (before : List Line) → AreRight input before → (R : ℕ → Bool) → IsChosen input.kb (mode_of before) R → (v : ℕ → Bool)
      → Reads input before R v → SatisfiesAll v (Live input.kb before)
  live_true before r R c v w = elim (cases_Bool (is_open before)) [
    | inl o ↦ (let h = opens_rightly before r o in open_true input before h.0 h.1.in_place h.1.learned R v c w)
    | inr f ↦ between f ((right_hold before r f).0 R v c w.facts)
  ]
    where
      between : is_open before ≡ false → SatisfiesAll v (IsLearned input.kb before) → SatisfiesAll v (Live input.kb before)
      between f h clause (inl base) = base_of input (mode_of before) R v c w.facts clause base
      between f h clause (inr (inl (o, m))) = absurd (true≢false (sym o ∙ f))
      between f h clause (inr (inr m)) = h clause m
