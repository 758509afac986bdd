-- The clauses and cores of one open answer: what is true of every chosen repair, and what the answer leaves.
use Rattle.std.proofs.Common.{◌≡◌, ◌≢◌, ℕ, ◌<◌, ◌≤◌, ◌+◌, ◌⊎◌, inl, inr, List, [], ◌∷◌, ◌++◌, length, Contains, Bool, true, false, not, eqb, ◌||◌}
use Rattle.std.proofs.Common.{if◌then◌else◌, true≢false, refl, sym, subst, ap, ◌∙◌, arith}
use Rattle.std.specs.Prelude.{nat_lt}
use Rattle.std.proofs.lemmas.Bool.{cases_Bool, cases_lt, ltb-true, eq-eqb, eqb-true}
use Rattle.std.proofs.lemmas.List.Elements.{Contains-push, Contains-push_cases, Contains-append_left}
use Rattle.cq_terms.specs.declared.facts.Repairs.{Repairs}
use Rattle.cq_terms.specs.Knowledge.{Knowledge}
use Rattle.cq_meaning.specs.Conflicts.{In, AreConsistent, FactsEntail}
use Rattle.cq_meaning.specs.Cores.{IsCore}
use Rattle.cq_meaning.specs.Repairs.{IsChosen}
use Rattle.cq_meaning.proofs.Members.{Contains-cases, Contains-nil}
use Rattle.clause_meaning.specs.Literals.{variable_of}
use Rattle.clause_meaning.specs.Assignments.{Satisfies, SatisfiesAll}
use Rattle.clause_meaning.proofs.Members.{Contains-map}
use Rattle.clause_meaning.proofs.Truth.{following_is_true}
use Rattle.priority_graph.specs.Split.{has}
use Rattle.repair_clauses.specs.BaseClauses.{absent}
use Rattle.repair_clauses.specs.CauseClauses.{cause_clause}
use Rattle.report_text.specs.declared.line.Line.{Line}
use Rattle.report_text.specs.declared.line.Line.TheVariants as line
use Rattle.report_text.specs.declared.line.Verdict.{Verdict}
use Rattle.report_rules.specs.Inputs.{Input, selector_of}
use Rattle.report_rules.specs.Clauses.{IsBaseClause, IsCauseClause}
use Rattle.report_rules.specs.Order.{is_open}
use Rattle.report_rules.specs.Told.{query_of, mode_of}
use Rattle.report_rules.specs.Tries.{Asked, asked}
use Rattle.report_rules.specs.Live.{Learned, learned, has_variable, IsLearned, Live}
use Rattle.report_laws.specs.Readings.{Reads}
use Rattle.report_laws.specs.Scopes.{goes_beyond}
use Rattle.report_laws.specs.OpenAnswers.{start_of, IsRightAnswer, IsInPlace, HoldInChosen, LearnedHold, CoresHold}
use Rattle.report_laws.proofs.ListLemmas.{Contains-filter}
use Rattle.repair_clauses.proofs.LiteralLemmas.{absent_true}
use Rattle.report_laws.proofs.BaseClauseLemmas.{base_true, agree_chosen}
use Rattle.report_laws.proofs.CauseLemmas.{Has, Misses, has_or_misses, misses_or_has, listed_within, cause_entails, entails_cause}

-- a selector is no fact
pub no_fact : (kb : Knowledge) (candidate i : ℕ) → i < length kb.facts → i ≡ selector_of kb candidate → ⊥
no_fact kb candidate i l e = omega arith

-- ---- readings

pick : {n i : ℕ} → (i < n) ⊎ (n ≤ i) → Bool → Bool → Bool
pick (inl h) a b = a
pick (inr h) a b = b

-- the numbers below n as in R, and all others as b
pub reading : ℕ → (ℕ → Bool) → Bool → ℕ → Bool
reading n R b i = pick (cases_lt i n) (R i) b

pub reading_fact : (n : ℕ) (R : ℕ → Bool) (b : Bool) (i : ℕ) → i < n → reading n R b i ≡ R i
unfolding reading pick
reading_fact n R b i l = go (cases_lt i n)
  where
    go : (s : (i < n) ⊎ (n ≤ i)) → pick s (R i) b ≡ R i
    go (inl h) = refl
    go (inr h) = absurd (omega arith)

pub reading_selector : (n : ℕ) (R : ℕ → Bool) (b : Bool) (c : ℕ) → reading n R b (n + c) ≡ b
unfolding reading pick
reading_selector n R b c = go (cases_lt (n + c) n)
  where
    go : (s : (n + c < n) ⊎ (n ≤ n + c)) → pick s (R (n + c)) b ≡ b
    go (inl h) = absurd (omega arith)
    go (inr h) = refl

-- as v, but false for one variable
passing : ℕ → (ℕ → Bool) → ℕ → Bool
passing s v i = if eqb i s then false else v i

passing_other : (s : ℕ) (v : ℕ → Bool) (i : ℕ) → i ≢ s → passing s v i ≡ v i
unfolding passing
passing_other s v i d = go (eqb i s) refl
  where
    go : (b : Bool) → eqb i s ≡ b → (if b then false else v i) ≡ v i
    go true e = absurd (d (eqb-true i s e))
    go false e = refl

passing_own : (s : ℕ) (v : ℕ → Bool) → passing s v s ≡ false
unfolding passing
passing_own s v = ap (λ b. if b then false else v s) (eq-eqb s s refl)

-- a clause without the variable has no literal of it
pub lacks : (v : ℕ) (clause : List ℕ) → not (has_variable v clause) ≡ true → (l : ℕ) → Contains clause l → variable_of l ≢ v
lacks v [] e l m = absurd (Contains-nil l m)
lacks v (x ∷ clause) e l m =
    let w = split (eqb (variable_of x) v) (has_variable v clause) e in
    elim (Contains-cases x clause l m) [
      | inl h ↦ (λ s. true≢false (sym (eq-eqb (variable_of x) v (ap variable_of h ∙ s)) ∙ w.0))
      | inr h ↦
          lacks v clause w.1 l h
    ]
  where
    split : (a b : Bool) → not (a || b) ≡ true → (a ≡ false) × (not b ≡ true)
    split true b e = absurd (true≢false (sym e))
    split false b e = (refl, e)

-- a clause that doesn't go beyond the facts has facts alone
pub on_facts : (n : ℕ) (clause : List ℕ) → not (goes_beyond n clause) ≡ true → (l : ℕ) → Contains clause l → variable_of l < n
on_facts n [] e l m = absurd (Contains-nil l m)
on_facts n (x ∷ clause) e l m =
    let w = split (nat_lt (variable_of x) n) (goes_beyond n clause) e in
    elim (Contains-cases x clause l m) [ inl h ↦ subst (λ y. variable_of y < n) h (ltb-true (variable_of x) n w.0) | inr h ↦ on_facts n clause w.1 l h ]
  where
    split : (a b : Bool) → not (not a || b) ≡ true → (a ≡ true) × (not b ≡ true)
    split true b e = (refl, e)
    split false b e = absurd (true≢false (sym e))

-- the clause of a cause has the absent selector, and the absent literal of each fact
pub selector_in : (selector : ℕ) (cause : List ℕ) → Contains (cause_clause selector cause) (absent selector)
selector_in selector cause = Contains-map absent (cause ++ selector ∷ []) selector (Contains-push cause selector)

fact_in : (selector : ℕ) (cause : List ℕ) (i : ℕ) → Contains cause i → Contains (cause_clause selector cause) (absent i)
fact_in selector cause i m = Contains-map absent (cause ++ selector ∷ []) i (Contains-append_left cause (selector ∷ []) i m)

-- whether it is a core line
abbrev pub is_core : Line → Bool
is_core (line.Core number kept dropped) = true
is_core _ = false

module _ (input : Input) where
  -- some assignment reads a chosen repair; where the selector is false, the repair entails the tuple
  pub reading_exists : (before : List Line) → IsInPlace input before → (R : ℕ → Bool) → AreConsistent input.kb (In R)
      → (v : ℕ → Bool) × Reads input before R v × (v (selector_of input.kb (asked before).candidate) ≡ false
      → FactsEntail input.kb (In R) (query_of input before) (asked before).tuple)
  reading_exists before w R c = go (misses_or_has R (asked before).causes)
    where
      there : (cause : List ℕ) → Contains (asked before).causes cause → Has R cause → FactsEntail input.kb (In R) (query_of input before) (asked before).tuple
      there cause m h = cause_entails input.kb (query_of input before) (asked before).tuple (asked before).causes w.causes_are cause m (In R) h

      none : ((cause : List ℕ) → Contains (asked before).causes cause → Misses R cause)
          → ¬ FactsEntail input.kb (In R) (query_of input before) (asked before).tuple
      none miss e =
          let (cause, m, h) = entails_cause input.kb (query_of input before) (asked before).tuple (asked before).causes w.causes_are (In R) c e in
          let (i, k, f) = miss cause m in
          true≢false (sym (h i k) ∙ f)

      selected : (b : Bool) → reading (length input.kb.facts) R b (selector_of input.kb (asked before).candidate) ≡ b
      selected b = reading_selector (length input.kb.facts) R b (asked before).candidate

      go : ((cause : List ℕ) → Contains (asked before).causes cause → Misses R cause) ⊎ ((cause : List ℕ) × Contains (asked before).causes cause × Has R cause)
          → (v : ℕ → Bool) × Reads input before R v × (v (selector_of input.kb (asked before).candidate) ≡ false
          → FactsEntail input.kb (In R) (query_of input before) (asked before).tuple)
      go (inl miss) = (
        reading (length input.kb.facts) R true,
        record { facts = λ i l. reading_fact (length input.kb.facts) R true i l; selector = λ e. ((λ t. none miss), (λ k. selected true)) },
        (λ f. absurd (true≢false (sym (selected true) ∙ f))),
      )
      go (inr (cause, m, h)) = (
        reading (length input.kb.facts) R false,
        record {
          facts = λ i l. reading_fact (length input.kb.facts) R false i l;
          selector = λ e. ((λ t. absurd (true≢false (sym t ∙ selected false))), (λ k. absurd (k (there cause m h))));
        },
        (λ f. there cause m h),
      )

  -- the clauses of the causes are true of every reading
  causes_true : (before : List Line) → is_open before ≡ true → IsInPlace input before → (R v : ℕ → Bool) → Reads input before R v
      → SatisfiesAll v (IsCauseClause (selector_of input.kb (asked before).candidate) (asked before).causes)
  causes_true before o p R v w clause (cause, m, e) = subst (Satisfies v) (sym e) (go (cases_Bool (v sel)) (has_or_misses v cause))
    where
      sel : ℕ
      sel = selector_of input.kb (asked before).candidate

      within : (i : ℕ) → Contains cause i → i < length input.kb.facts
      within = listed_within input.kb (query_of input before) (asked before).tuple (asked before).causes p.causes_are cause m

      entails : Has v cause → FactsEntail input.kb (In R) (query_of input before) (asked before).tuple
      entails h = cause_entails input.kb (query_of input before) (asked before).tuple (asked before).causes p.causes_are cause m (In R)
          (λ i k. sym (w.facts i (within i k)) ∙ h i k)

      go : (v sel ≡ true) ⊎ (v sel ≡ false) → Has v cause ⊎ Misses v cause → Satisfies v (cause_clause sel cause)
      go (inr f) s = (absent sel, selector_in sel cause, absent_true v sel f)
      go (inl t) (inr (i, k, f)) = (absent i, fact_in sel cause i k, absent_true v i f)
      go (inl t) (inl h) = absurd ((w.selector o).0 t (entails h))

  -- they are true where the selector is false, whatever the causes are
  causes_passed : (a : Asked) (v : ℕ → Bool) → v (selector_of input.kb a.candidate) ≡ false
      → SatisfiesAll v (IsCauseClause (selector_of input.kb a.candidate) a.causes)
  causes_passed a v f clause (cause, m, e) = subst (Satisfies v) (sym e)
      (absent (selector_of input.kb a.candidate), selector_in (selector_of input.kb a.candidate) cause, absent_true v (selector_of input.kb a.candidate) f)

  -- an assignment that satisfies all that an open answer starts with: base clauses, clauses of causes, learned ones
  abbrev pub SatisfiesStart : List Line → (ℕ → Bool) → Type 0
  SatisfiesStart before v = SatisfiesAll v (IsBaseClause input.kb (mode_of before))
      × SatisfiesAll v (IsCauseClause (selector_of input.kb (asked before).candidate) (asked before).causes)
      × SatisfiesAll v (IsLearned input.kb (start_of before))

  live_from : (before : List Line) (v : ℕ → Bool) → SatisfiesStart before v → SatisfiesAll v (IsLearned input.kb before) → SatisfiesAll v (Live input.kb before)
  live_from before v w h clause (inl base) = w.0 clause base
  live_from before v w h clause (inr (inl (o, c))) = w.1 clause c
  live_from before v w h clause (inr (inr m)) = h clause m

  -- satisfies what the answer learns
  learned_from : (before : List Line) → IsRightAnswer input before → (v : ℕ → Bool) → SatisfiesStart before v → SatisfiesAll v (IsLearned input.kb before)
  learned_from [] r v w = absurd r
  learned_from (line.Ask candidate tuple causes members ∷ b) r v w = w.2
  learned_from (line.Try question assume ∷ b) (r, rs) v w = learned_from b rs v w
  learned_from (line.Core number kept dropped ∷ b) (r, rs) v w = learned_from b rs v w
  learned_from (line.Done how core ∷ b) (r, rs) v w = learned_from b rs v w
  learned_from (line.Learn number clause ∷ b) (r, rs) v w = added (learned_from b rs v w)
    where
      added : SatisfiesAll v (IsLearned input.kb b) → SatisfiesAll v (IsLearned input.kb (line.Learn number clause ∷ b))
      added h c (n, m) = elim (Contains-push_cases (learned (length input.kb.facts) b) (record { number = number; clause = clause })
          (record { number = n; clause = c }) m) [
            | inl old ↦ h c (n, old)
            | inr new ↦ subst (Satisfies v) (ap (λ (e : Learned). e.clause) new)
                (following_is_true (Live input.kb b) clause r.own.follows v (live_from b v w h))
          ]
  learned_from (line.Head axioms budget facts keep repairs version ∷ b) (r, rs) v w = absurd r.own
  learned_from (line.Cq o query step ∷ b) (r, rs) v w = absurd r.own
  learned_from (line.Conflict facts rule member ∷ b) (r, rs) v w = absurd r.own
  learned_from (line.Forget clauses ∷ b) (r, rs) v w = absurd r.own
  learned_from (line.Answer brave ar iar cores names tuple ∷ b) (r, rs) v w = absurd r.own
  learned_from (line.End answers brave ar iar undecided ∷ b) (r, rs) v w = absurd r.own

  -- and all that lives
  pub satisfies_live : (before : List Line) → IsRightAnswer input before → (v : ℕ → Bool) → SatisfiesStart before v → SatisfiesAll v (Live input.kb before)
  satisfies_live before r v w = live_from before v w (learned_from before r v w)

  -- in an open answer the options are those of its start
  pub start_mode : (before : List Line) → IsRightAnswer input before → mode_of (start_of before) ≡ mode_of before
  start_mode [] r = absurd r
  start_mode (line.Ask candidate tuple causes members ∷ b) r = refl
  start_mode (line.Try question assume ∷ b) (r, rs) = start_mode b rs
  start_mode (line.Learn number clause ∷ b) (r, rs) = start_mode b rs
  start_mode (line.Core number kept dropped ∷ b) (r, rs) = start_mode b rs
  start_mode (line.Done how core ∷ b) (r, rs) = start_mode b rs
  start_mode (line.Head axioms budget facts keep repairs version ∷ b) (r, rs) = absurd r.own
  start_mode (line.Cq o query step ∷ b) (r, rs) = absurd r.own
  start_mode (line.Conflict facts rule member ∷ b) (r, rs) = absurd r.own
  start_mode (line.Forget clauses ∷ b) (r, rs) = absurd r.own
  start_mode (line.Answer brave ar iar cores names tuple ∷ b) (r, rs) = absurd r.own
  start_mode (line.End answers brave ar iar undecided ∷ b) (r, rs) = absurd r.own

  -- and the answer is open
  pub answer_open : (before : List Line) → IsRightAnswer input before → is_open before ≡ true
  answer_open [] r = absurd r
  answer_open (line.Ask candidate tuple causes members ∷ b) r = refl
  answer_open (line.Try question assume ∷ b) (r, rs) = refl
  answer_open (line.Learn number clause ∷ b) (r, rs) = refl
  answer_open (line.Core number kept dropped ∷ b) (r, rs) = refl
  answer_open (line.Done how core ∷ b) (r, rs) = refl
  answer_open (line.Head axioms budget facts keep repairs version ∷ b) (r, rs) = absurd r.own
  answer_open (line.Cq o query step ∷ b) (r, rs) = absurd r.own
  answer_open (line.Conflict facts rule member ∷ b) (r, rs) = absurd r.own
  answer_open (line.Forget clauses ∷ b) (r, rs) = absurd r.own
  answer_open (line.Answer brave ar iar cores names tuple ∷ b) (r, rs) = absurd r.own
  answer_open (line.End answers brave ar iar undecided ∷ b) (r, rs) = absurd r.own

  -- an assignment that agrees with a chosen repair on the facts satisfies the base clauses, and what the answer starts with
  pub base_of : (mode : Repairs) (R v : ℕ → Bool) → IsChosen input.kb mode R → ((i : ℕ) → i < length input.kb.facts → v i ≡ R i)
      → SatisfiesAll v (IsBaseClause input.kb mode)
  base_of mode R v c a = base_true input.kb mode v (agree_chosen input.kb mode R v a c)

  held_at : (before : List Line) → IsRightAnswer input before → LearnedHold input (start_of before)
      → HoldInChosen input.kb (mode_of before) (IsLearned input.kb (start_of before))
  held_at before r h = subst (λ m. HoldInChosen input.kb m (IsLearned input.kb (start_of before))) (start_mode before r) h

  -- a reading of a chosen repair satisfies what an answer in place starts with
  pub reading_starts : (before : List Line) → IsRightAnswer input before → IsInPlace input before → LearnedHold input (start_of before)
      → (R v : ℕ → Bool) → IsChosen input.kb (mode_of before) R → Reads input before R v → SatisfiesStart before v
  reading_starts before r p h R v c w = (
    base_of (mode_of before) R v c w.facts,
    causes_true before (answer_open before r) p R v w,
    held_at before r h R v c w.facts,
  )

  -- so does, in place or not, the reading in which the selector is false
  pub passing_starts : (before : List Line) → IsRightAnswer input before → LearnedHold input (start_of before)
      → (R v : ℕ → Bool) → IsChosen input.kb (mode_of before) R → ((i : ℕ) → i < length input.kb.facts → v i ≡ R i)
      → v (selector_of input.kb (asked before).candidate) ≡ false → SatisfiesStart before v
  passing_starts before r h R v c a f = (base_of (mode_of before) R v c a, causes_passed (asked before) v f, held_at before r h R v c a)

  -- each live clause of an open answer is true of every chosen repair
  pub open_true : (before : List Line) → IsRightAnswer input before → IsInPlace input before → LearnedHold input (start_of before)
      → (R v : ℕ → Bool) → IsChosen input.kb (mode_of before) R → Reads input before R v → SatisfiesAll v (Live input.kb before)
  open_true before r p h R v c w = satisfies_live before r v (reading_starts before r p h R v c w)

  -- ---- what an answer leaves

  -- the learned clauses without the selector are true of every chosen repair, in place or not
  pub left_hold : (before : List Line) → IsRightAnswer input before → LearnedHold input (start_of before)
      → HoldInChosen input.kb (mode_of before) (λ clause. IsLearned input.kb before clause
      × (not (has_variable (selector_of input.kb (asked before).candidate) clause) ≡ true))
  left_hold before r h R v c a clause (m, k) =
      let own : ℕ = selector_of input.kb (asked before).candidate in
      let u : ℕ → Bool = passing own v in
      let same : (i : ℕ) → i < length input.kb.facts → u i ≡ R i =
      λ i l. passing_other own v i (λ e. no_fact input.kb (asked before).candidate i l e) ∙ a i l in
      let t = learned_from before r u (passing_starts before r h R u c same (passing_own own v)) clause m in
      (t.0, t.1, sym (passing_other own v (variable_of t.0) (lacks own clause k t.0 t.1)) ∙ t.2)

  pub answer_keeps : (before : List Line) → IsRightAnswer input before → LearnedHold input (start_of before)
      → (brave ar iar : Verdict) (cores : List ℕ) (names : List (List ℕ)) (tuple : List ℕ)
      → LearnedHold input (line.Answer brave ar iar cores names tuple ∷ before)
  answer_keeps before r h brave ar iar cores names tuple R v c a clause (n, m) =
      let k = Contains-filter (λ x. not (has_variable (selector_of input.kb (asked before).candidate) x.clause)) (learned (length input.kb.facts) before)
      (record { number = n; clause = clause }) m in
      left_hold before r h R v c a clause ((n, k.0), k.1)

  -- ---- cores

  -- a line of another kind adds none
  pub cores_more : (x : Line) (b : List Line) → is_core x ≡ false → mode_of (x ∷ b) ≡ mode_of b → CoresHold input b → CoresHold input (x ∷ b)
  cores_more x b f e h n kept dropped m = elim (Contains-cases x b (line.Core n kept dropped) m) [
    | inl s ↦ absurd (true≢false (sym (ap is_core s) ∙ f))
    | inr l ↦ subst (λ z. IsCore input.kb z (has kept) (has dropped)) (sym e) (h n kept dropped l)
  ]

  -- a right core line is one
  core_more : (b : List Line) (number : ℕ) (kept dropped : List ℕ) → IsCore input.kb (mode_of b) (has kept) (has dropped) → CoresHold input b
      → CoresHold input (line.Core number kept dropped ∷ b)
  core_more b number kept' dropped' core h n kept dropped m = elim (Contains-cases (line.Core number kept' dropped') b (line.Core n kept dropped) m) [
    | inl e ↦ (let same_kept : kept' ≡ kept = cc in
        let same_dropped : dropped' ≡ dropped = cc in
        subst (λ d. IsCore input.kb (mode_of b) (has kept) (has d)) same_dropped
        (subst (λ k. IsCore input.kb (mode_of b) (has k) (has dropped')) same_kept core))
    | inr l ↦ h n kept dropped l
  ]

  pub open_cores : (before : List Line) → IsRightAnswer input before → CoresHold input (start_of before) → CoresHold input before
  open_cores [] r h = absurd r
  open_cores (line.Ask candidate tuple causes members ∷ b) r h = cores_more _ b refl refl h
  open_cores (line.Try question assume ∷ b) (r, rs) h = cores_more _ b refl refl (open_cores b rs h)
  open_cores (line.Learn number clause ∷ b) (r, rs) h = cores_more _ b refl refl (open_cores b rs h)
  open_cores (line.Done how core ∷ b) (r, rs) h = cores_more _ b refl refl (open_cores b rs h)
  open_cores (line.Core number kept dropped ∷ b) (r, rs) h = core_more b number kept dropped r.own.core (open_cores b rs h)
  open_cores (line.Head axioms budget facts keep repairs version ∷ b) (r, rs) h = absurd r.own
  open_cores (line.Cq o query step ∷ b) (r, rs) h = absurd r.own
  open_cores (line.Conflict facts rule member ∷ b) (r, rs) h = absurd r.own
  open_cores (line.Forget clauses ∷ b) (r, rs) h = absurd r.own
  open_cores (line.Answer brave ar iar cores names tuple ∷ b) (r, rs) h = absurd r.own
  open_cores (line.End answers brave ar iar undecided ∷ b) (r, rs) h = absurd r.own

  pub answer_cores : (before : List Line) → CoresHold input before → (brave ar iar : Verdict) (cores : List ℕ) (names : List (List ℕ)) (tuple : List ℕ)
      → CoresHold input (line.Answer brave ar iar cores names tuple ∷ before)
  answer_cores before h brave ar iar cores names tuple = cores_more _ before refl refl h
