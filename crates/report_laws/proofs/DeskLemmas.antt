-- What one call answers over a priority: true, and decided where it has to be.
use Rattle.std.proofs.Common.{◌≡◌, ◌<◌, ◌≤◌, ◌^◌, ℕ, suc, List, [], ◌∷◌, ◌++◌, length, All, Contains, true, refl, sym, subst, ap, ◌∙◌, filter, not}
use Rattle.std.proofs.lemmas.List.{append-nil, append_assoc}
use Rattle.cq_terms.specs.declared.facts.Repairs.TheVariants as mode
use Rattle.cq_terms.specs.Conflicts.{ConflictGraph}
use Rattle.cq_terms.specs.Knowledge.{Knowledge}
use Rattle.cq_terms.specs.Query.{Query}
use Rattle.cq_meaning.specs.Candidates.{Every, AreCauses}
use Rattle.cq_meaning.specs.Conflicts.{FactsEntail}
use Rattle.cq_meaning.specs.Repairs.{IsAcyclic}
use Rattle.priority_graph.specs.Priority.{Priority, IsPriority, IsOver}
use Rattle.priority_graph.specs.Inputs.{IsPriorityOf}
use Rattle.report_text.specs.declared.line.Line.{Line}
use Rattle.report_text.specs.declared.line.Line.TheVariants as line
use Rattle.report_text.specs.declared.line.Question.{Question}
use Rattle.report_text.specs.declared.line.Question.TheVariants as question
use Rattle.report_text.specs.declared.line.Verdict.{Verdict}
use Rattle.report_text.specs.declared.line.Verdict.TheVariants as verdict
use Rattle.report_rules.specs.Inputs.{Input, report_on, query_at, selector_of}
use Rattle.report_rules.specs.ConflictLists.{AreConflictFacts}
use Rattle.report_rules.specs.Order.{is_open}
use Rattle.report_rules.specs.Told.{mode_of, budget_of, query_of, count_ends}
use Rattle.report_rules.specs.Tries.{Asked, asked}
use Rattle.report_rules.specs.Live.{Learned, learned, has_variable}
use Rattle.report_laws.specs.Scopes.{AreApart, KeepsScope}
use Rattle.report_laws.specs.Readings.{Holds, IsTrueVerdict, IsDecided}
use Rattle.report_laws.specs.OpenAnswers.{IsRightAnswer, start_of, HoldInChosen, LearnedHold, CoresHold, AreConsistentLists, Start, IsAmong, Tells}
use Rattle.report_laws.specs.Bounds.{IsAtLeastBound}
use Rattle.report_laws.specs.OverPriority.{FitsMode, AreFreeLists}
use Rattle.report_laws.specs.DeskAnswers.{ask_line, AreRightInside, IsAnsweredOver, IsSaidOver, left_after}
use Rattle.report_laws.proofs.BaseClauseLemmas.{means}
use Rattle.report_laws.proofs.BoundLemmas.{graph_tells}
use Rattle.report_laws.proofs.BudgetLemmas.{open_decided}
use Rattle.report_laws.proofs.EasyLemmas.{open_all_decides}
use Rattle.report_laws.proofs.LiveLemmas.{answer_open, start_mode, answer_keeps}
use Rattle.report_laws.proofs.ScopeLines.{scope_ends}
use Rattle.report_laws.proofs.OverPriorityLemmas.{conflicts_of_priority, some_base}
use Rattle.report_laws.proofs.StartLemmas.{start_told, starts_carry}
use Rattle.report_laws.proofs.VerdictLemmas.{verdict_true}

-- ---- options

start_budget : (input : Input) (before : List Line) → IsRightAnswer input before → budget_of before ≡ budget_of (start_of before)
start_budget input [] r = absurd r
start_budget input (line.Ask candidate tuple causes members ∷ b) r = refl
start_budget input (line.Try question assume ∷ b) (r, rs) = start_budget input b rs
start_budget input (line.Learn number clause ∷ b) (r, rs) = start_budget input b rs
start_budget input (line.Core number kept dropped ∷ b) (r, rs) = start_budget input b rs
start_budget input (line.Done how core ∷ b) (r, rs) = start_budget input b rs
start_budget input (line.Head axioms budget facts keep repairs version ∷ b) (r, rs) = absurd r.own
start_budget input (line.Cq o query step ∷ b) (r, rs) = absurd r.own
start_budget input (line.Conflict facts rule member ∷ b) (r, rs) = absurd r.own
start_budget input (line.Forget clauses ∷ b) (r, rs) = absurd r.own
start_budget input (line.Answer brave ar iar cores names tuple ∷ b) (r, rs) = absurd r.own
start_budget input (line.End answers brave ar iar undecided ∷ b) (r, rs) = absurd r.own

start_ends : (input : Input) (before : List Line) → IsRightAnswer input before → count_ends before ≡ count_ends (start_of before)
start_ends input [] r = absurd r
start_ends input (line.Ask candidate tuple causes members ∷ b) r = refl
start_ends input (line.Try question assume ∷ b) (r, rs) = start_ends input b rs
start_ends input (line.Learn number clause ∷ b) (r, rs) = start_ends input b rs
start_ends input (line.Core number kept dropped ∷ b) (r, rs) = start_ends input b rs
start_ends input (line.Done how core ∷ b) (r, rs) = start_ends input b rs
start_ends input (line.Head axioms budget facts keep repairs version ∷ b) (r, rs) = absurd r.own
start_ends input (line.Cq o query step ∷ b) (r, rs) = absurd r.own
start_ends input (line.Conflict facts rule member ∷ b) (r, rs) = absurd r.own
start_ends input (line.Forget clauses ∷ b) (r, rs) = absurd r.own
start_ends input (line.Answer brave ar iar cores names tuple ∷ b) (r, rs) = absurd r.own
start_ends input (line.End answers brave ar iar undecided ∷ b) (r, rs) = absurd r.own

pub options_stay : (input : Input) (before : List Line) → IsRightAnswer input before → (is_open before ≡ true) × (mode_of before ≡ mode_of (start_of before))
    × (budget_of before ≡ budget_of (start_of before)) × (query_of input before ≡ query_of input (start_of before))
options_stay input before r = (
  answer_open input before r,
  sym (start_mode input before r),
  start_budget input before r,
  ap (query_at input.queries) (start_ends input before r),
)

-- ---- added lines

record IsAnswerOf (input : Input) (a : Asked) (before lines : List Line) : Type 0 where
  right : IsRightAnswer input lines
  starts : start_of lines ≡ before
  asks : asked lines ≡ a

answers : (input : Input) (a : Asked) (members : List ℕ) (before more : List Line) → AreRightInside input (ask_line a members ∷ before) more
    → IsAnswerOf input a before (more ++ ask_line a members ∷ before)
answers input a members before [] r = record { right = tt; starts = refl; asks = refl }
answers input a members before (line.Try question assume ∷ more) (r, rs) = let w = answers input a members before more rs in
    record { right = (r, w.right); starts = w.starts; asks = w.asks }
answers input a members before (line.Learn number clause ∷ more) (r, rs) = let w = answers input a members before more rs in
    record { right = (r, w.right); starts = w.starts; asks = w.asks }
answers input a members before (line.Core number kept dropped ∷ more) (r, rs) = let w = answers input a members before more rs in
    record { right = (r, w.right); starts = w.starts; asks = w.asks }
answers input a members before (line.Done how core ∷ more) (r, rs) = let w = answers input a members before more rs in
    record { right = (r, w.right); starts = w.starts; asks = w.asks }
answers input a members before (line.Ask candidate tuple causes others ∷ more) (r, rs) = absurd r.own
answers input a members before (line.Head axioms budget facts keep repairs version ∷ more) (r, rs) = absurd r.own
answers input a members before (line.Cq o query step ∷ more) (r, rs) = absurd r.own
answers input a members before (line.Conflict facts rule member ∷ more) (r, rs) = absurd r.own
answers input a members before (line.Forget clauses ∷ more) (r, rs) = absurd r.own
answers input a members before (line.Answer brave ar iar cores names tuple ∷ more) (r, rs) = absurd r.own
answers input a members before (line.End counted brave ar iar undecided ∷ more) (r, rs) = absurd r.own

pub added_answer : (input : Input) (a : Asked) (members : List ℕ) (before more : List Line) → AreRightInside input (ask_line a members ∷ before) more
    → IsRightAnswer input (more ++ ask_line a members ∷ before) × (start_of (more ++ ask_line a members ∷ before) ≡ before)
    × (asked (more ++ ask_line a members ∷ before) ≡ a)
added_answer input a members before more r = let w = answers input a members before more r in (w.right, w.starts, w.asks)

-- what they learn comes behind what lived
pub added_learn : (input : Input) (a : Asked) (members : List ℕ) (before more : List Line) → AreRightInside input (ask_line a members ∷ before) more → (n : ℕ)
    → learned n (more ++ ask_line a members ∷ before) ≡ learned n before ++ learned n more
added_learn input a members before [] r n = sym (append-nil (learned n before))
added_learn input a members before (line.Try question assume ∷ more) (r, rs) n = added_learn input a members before more rs n
added_learn input a members before (line.Core number kept dropped ∷ more) (r, rs) n = added_learn input a members before more rs n
added_learn input a members before (line.Done how core ∷ more) (r, rs) n = added_learn input a members before more rs n
added_learn input a members before (line.Learn number clause ∷ more) (r, rs) n =
    ap (λ (xs : List Learned). xs ++ record { number = number; clause = clause } ∷ []) (added_learn input a members before more rs n)
    ∙ append_assoc (learned n before) (learned n more) (record { number = number; clause = clause } ∷ [])
added_learn input a members before (line.Ask candidate tuple causes others ∷ more) (r, rs) n = absurd r.own
added_learn input a members before (line.Head axioms budget facts keep repairs version ∷ more) (r, rs) n = absurd r.own
added_learn input a members before (line.Cq o query step ∷ more) (r, rs) n = absurd r.own
added_learn input a members before (line.Conflict facts rule member ∷ more) (r, rs) n = absurd r.own
added_learn input a members before (line.Forget clauses ∷ more) (r, rs) n = absurd r.own
added_learn input a members before (line.Answer brave ar iar cores names tuple ∷ more) (r, rs) n = absurd r.own
added_learn input a members before (line.End counted brave ar iar undecided ∷ more) (r, rs) n = absurd r.own

-- ---- over lines that tell the start

module _ (p : Priority) (h : IsPriority p) (start : Start) (few : length start.learned ≤ start.clauses) (a : Asked) (members : List ℕ) (more : List Line)
    (answered : IsAnsweredOver p start a members more) where
  -- the answer on a knowledge base with the priority, behind lines that tell the start
  record IsTold (kb : Knowledge) (query : Query) : Type 0 where
    before : List Line
    tells : Tells (length kb.facts) start before
    cores : CoresHold (report_on kb [] query) before
    right : IsRightAnswer (report_on kb [] query) (more ++ ask_line a members ∷ before)
    starts : start_of (more ++ ask_line a members ∷ before) ≡ before
    asks : asked (more ++ ask_line a members ∷ before) ≡ a
    same_mode : mode_of (more ++ ask_line a members ∷ before) ≡ start.mode
    same_budget : budget_of (more ++ ask_line a members ∷ before) ≡ start.budget
    same_query : query_of (report_on kb [] query) (more ++ ask_line a members ∷ before) ≡ query

  told : (kb : Knowledge) (query : Query) → IsPriorityOf kb start.mode p → IsTold kb query
  told kb query of =
      let (b, tells, ends, cores) = start_told (report_on kb [] query) start few in
      let w = answers (report_on kb [] query) a members b more (answered (report_on kb [] query) b of tells) in
      let o = options_stay (report_on kb [] query) (more ++ ask_line a members ∷ b) w.right in
      record {
        before = b;
        tells = tells;
        cores = cores;
        right = w.right;
        starts = w.starts;
        asks = w.asks;
        same_mode = o.1 ∙ (ap mode_of w.starts ∙ tells.mode);
        same_budget = o.2 ∙ (ap budget_of w.starts ∙ tells.budget);
        same_query = o.3 ∙ (ap (query_of (report_on kb [] query)) w.starts ∙ ap (query_at (query ∷ [])) ends);
      }

  pub answered_true : (kb : Knowledge) (query : Query) → IsPriorityOf kb start.mode p → HoldInChosen kb start.mode (IsAmong start.learned)
      → FactsEntail kb Every query a.tuple → AreCauses kb query a.tuple a.causes → (cores : List ℕ) (q : Question) (said : Verdict)
      → IsSaidOver p start a members more cores q said
      → IsTrueVerdict (Holds kb start.mode query a.tuple q) said
  answered_true kb query of holds entailed causes cores q said asked_for = go (told kb query of)
    where
      go : IsTold kb query → IsTrueVerdict (Holds kb start.mode query a.tuple q) said
      go w =
          let input : Input = report_on kb [] query in
          let lines : List Line = more ++ ask_line a members ∷ w.before in
          let learned : LearnedHold input (start_of lines) = subst (LearnedHold input) (sym w.starts) ((starts_carry input start w.before w.tells).0 holds) in
          let cores_hold : CoresHold input (start_of lines) = subst (CoresHold input) (sym w.starts) w.cores in
          let acyclic : IsAcyclic kb (mode_of lines) = subst (IsAcyclic kb) (sym w.same_mode) ((means kb start.mode p of).acyclic.0 h.acyclic) in
          subst (λ m. IsTrueVerdict (Holds kb m query a.tuple q) said) w.same_mode
          (subst (λ x. IsTrueVerdict (Holds kb (mode_of lines) x a.tuple q) said) w.same_query
          (subst (λ (x : Asked). IsTrueVerdict (Holds kb (mode_of lines) (query_of input lines) x.tuple q) said) w.asks
          (verdict_true input lines w.right (record {
            in_place = record {
              entailed = subst (λ x. FactsEntail kb Every x (asked lines).tuple) (sym w.same_query)
                  (subst (λ (x : Asked). FactsEntail kb Every query x.tuple) (sym w.asks) entailed);
              causes_are = subst (λ x. AreCauses kb x (asked lines).tuple (asked lines).causes) (sym w.same_query)
                  (subst (λ (x : Asked). AreCauses kb query x.tuple x.causes) (sym w.asks) causes);
            };
            learned = learned;
            cores = cores_hold;
          }) acyclic cores q said (asked_for kb w.before of w.tells))))

  no_query : Query
  no_query = record { head = []; body = [] }

  pub answered_decided : (g : ConflictGraph) → IsOver p g → FitsMode p start.mode → IsAtLeastBound g a.causes start.budget
      → (cores : List ℕ) (q : Question) (said : Verdict) → IsSaidOver p start a members more cores q said → IsDecided said
  answered_decided g over fits (facts, bound, large) cores q said asked_for = go (some_base p h start.mode fits)
    where
      go : (kb : Knowledge) × IsPriorityOf kb start.mode p → IsDecided said
      go (kb, of) = by (told kb no_query of)
        where
          by : IsTold kb no_query → IsDecided said
          by w =
              let lines : List Line = more ++ ask_line a members ∷ w.before in
              let exact : AreConflictFacts kb a.causes facts = ((graph_tells kb g (conflicts_of_priority kb start.mode p g of over)).bound a.causes facts).0
              bound in
              open_decided (report_on kb [] no_query) lines w.right facts (subst (λ (x : Asked). AreConflictFacts kb x.causes facts) (sym w.asks) exact)
              (subst (λ n. 3 ^ suc (length facts) ≤ n) (sym w.same_budget) large) cores q said (asked_for kb w.before of w.tells)

  pub answered_in_all : start.mode ≡ mode.All → FitsMode p mode.All → AreFreeLists p a.causes → (cores : List ℕ) (brave ar iar : Verdict)
      → IsSaidOver p start a members more cores question.Brave brave → IsSaidOver p start a members more cores question.Ar ar
      → IsSaidOver p start a members more cores question.Iar iar
      → IsDecided brave × IsDecided iar × (((c d : List ℕ) → Contains a.causes c → Contains a.causes d → c ≡ d) → IsDecided ar)
  answered_in_all all fits free cores brave ar iar bv av iv = go (some_base p h mode.All fits)
    where
      go : (kb : Knowledge) × IsPriorityOf kb mode.All p → IsDecided brave × IsDecided iar
          × (((c d : List ℕ) → Contains a.causes c → Contains a.causes d → c ≡ d) → IsDecided ar)
      go (kb, of) = by (subst (λ m. IsPriorityOf kb m p) (sym all) of)
        where
          lists : AreConsistentLists kb a.causes
          lists cause m = (subst (λ n. All (λ i. i < n) cause) of.facts (free cause m).0, ((means kb mode.All p of).free_list cause).0 (free cause m).1)

          by : IsPriorityOf kb start.mode p → IsDecided brave × IsDecided iar
              × (((c d : List ℕ) → Contains a.causes c → Contains a.causes d → c ≡ d) → IsDecided ar)
          by of' = at (told kb no_query of')
            where
              at : IsTold kb no_query → IsDecided brave × IsDecided iar × (((c d : List ℕ) → Contains a.causes c → Contains a.causes d → c ≡ d) → IsDecided ar)
              at w =
                  let lines : List Line = more ++ ask_line a members ∷ w.before in
                  let said = open_all_decides (report_on kb [] no_query) lines w.right (w.same_mode ∙ all)
                  (subst (λ (x : Asked). AreConsistentLists kb x.causes) (sym w.asks) lists) cores brave ar iar
                  (bv kb w.before of' w.tells) (av kb w.before of' w.tells) (iv kb w.before of' w.tells) in (
                    said.0,
                    said.1,
                    λ single. said.2 (subst (λ (x : Asked). (c d : List ℕ) → Contains x.causes c → Contains x.causes d → c ≡ d) (sym w.asks)
                        single),
                  )

  -- what the call leaves is what lives behind its answer line
  left_is : (kb : Knowledge) → IsPriorityOf kb start.mode p → (w : IsTold kb no_query)
      → filter (λ (c : Learned). not (has_variable (selector_of kb (asked (more ++ ask_line a members ∷ w.before)).candidate) c.clause))
      (learned (length kb.facts) (more ++ ask_line a members ∷ w.before))
      ≡ left_after (length kb.facts) start a.candidate more
  left_is kb of w = ap (λ (x : Asked). filter (λ (c : Learned). not (has_variable (selector_of kb x.candidate) c.clause))
      (learned (length kb.facts) (more ++ ask_line a members ∷ w.before))) w.asks
      ∙ ap (λ (xs : List Learned). filter (λ (c : Learned). not (has_variable (selector_of kb a.candidate) c.clause)) xs)
      (added_learn (report_on kb [] no_query) a members w.before more (answered (report_on kb [] no_query) w.before of w.tells) (length kb.facts)
      ∙ ap (λ (xs : List Learned). xs ++ learned (length kb.facts) more) w.tells.learned)

  pub answered_keeps : (kb : Knowledge) → IsPriorityOf kb start.mode p → HoldInChosen kb start.mode (IsAmong start.learned)
      → HoldInChosen kb start.mode (IsAmong (left_after (length kb.facts) start a.candidate more))
      × ((facts : List ℕ) → ((before : List Line) → Tells (length kb.facts) start before → KeepsScope kb (more ++ ask_line a members ∷ before) facts)
      → AreApart kb (IsAmong (left_after (length kb.facts) start a.candidate more)))
  answered_keeps kb of holds = go (told kb no_query of)
    where
      go : IsTold kb no_query → HoldInChosen kb start.mode (IsAmong (left_after (length kb.facts) start a.candidate more))
          × ((facts : List ℕ) → ((before : List Line) → Tells (length kb.facts) start before → KeepsScope kb (more ++ ask_line a members ∷ before) facts)
          → AreApart kb (IsAmong (left_after (length kb.facts) start a.candidate more)))
      go w =
          let input : Input = report_on kb [] no_query in
          let lines : List Line = more ++ ask_line a members ∷ w.before in
          let start_holds : LearnedHold input (start_of lines) = subst (LearnedHold input) (sym w.starts)
          ((starts_carry input start w.before w.tells).0 holds) in
          let kept = answer_keeps input lines w.right start_holds verdict.Undecided verdict.Undecided verdict.Undecided [] [] [] in
          let left : HoldInChosen kb (mode_of lines) (IsAmong (left_after (length kb.facts) start a.candidate more)) =
          subst (λ (xs : List Learned). HoldInChosen kb (mode_of lines) (IsAmong xs)) (left_is kb of w) kept in (
            subst (λ m. HoldInChosen kb m (IsAmong (left_after (length kb.facts) start a.candidate more))) w.same_mode left,
            (λ facts keeps. subst (λ (xs : List Learned). AreApart kb (IsAmong xs)) (left_is kb of w)
                (scope_ends kb lines facts (keeps w.before w.tells) verdict.Undecided verdict.Undecided verdict.Undecided [] [] [])),
          )
