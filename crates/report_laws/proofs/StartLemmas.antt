-- What an answer starts with: lines that tell it, and what these carry.
use Rattle.std.proofs.Common.{◌≡◌, ℕ, zero, suc, ◌<◌, ◌≤◌, ◌+◌, ◌-◌, ◌⊎◌, ◌↔◌, inl, inr, List, [], ◌∷◌, ◌++◌, length, Contains, true, false, not, eqb, filter}
use Rattle.std.proofs.Common.{true≢false, refl, sym, subst, ap, ◌∙◌, arith}
use Rattle.std.proofs.lemmas.Bool.{eq-eqb}
use Rattle.std.proofs.lemmas.List.{append-nil, append_assoc}
use Rattle.cq_terms.specs.declared.facts.Repairs.{Repairs}
use Rattle.cq_terms.specs.Knowledge.{Knowledge}
use Rattle.cq_meaning.specs.Cores.{IsCore}
use Rattle.cq_meaning.proofs.Members.{Contains-cases, Contains-nil}
use Rattle.clause_meaning.specs.Literals.{variable_of}
use Rattle.priority_graph.specs.Split.{has}
use Rattle.repair_clauses.specs.BaseClauses.{absent}
use Rattle.repair_clauses.proofs.LiteralLemmas.{variable_of-absent}
use Rattle.report_text.specs.declared.line.Line.{Line}
use Rattle.report_text.specs.declared.line.Line.TheVariants as line
use Rattle.report_text.specs.declared.line.Verdict.TheVariants as verdict
use Rattle.report_rules.specs.declared.place.Place.{Place}
use Rattle.report_rules.specs.declared.place.Place.TheVariants.{InAnswer, InTry, AfterCore}
use Rattle.report_rules.specs.Inputs.{Input}
use Rattle.report_rules.specs.Order.{place_of}
use Rattle.report_rules.specs.Told.{count_ends}
use Rattle.report_rules.specs.Tries.{count_cores}
use Rattle.report_rules.specs.Live.{Learned, learned, has_variable, IsLearned, count_learned}
use Rattle.report_rules.specs.Blocks.{LeavesClosed}
use Rattle.report_rules.specs.Accepted.{Right}
use Rattle.report_laws.specs.OpenAnswers.{RightInside, HasNextNumber, HoldInChosen, LearnedHold, CoresHold, Start, IsAmong, Tells}
use Rattle.report_laws.specs.Scopes.{AreApart, LearnedApart}
use Rattle.report_laws.proofs.BaseClauseLemmas.{means}
use Rattle.report_laws.proofs.ConflictsExist.{priority_exists}

-- ---- a line that is right inside an answer

not_in_block : (p : Place) (input : Input) (before : List Line) (l : Line) → place_of before ≡ p → (p ≡ InAnswer) ⊎ ((p ≡ InTry) ⊎ (p ≡ AfterCore))
    → LeavesClosed input before l
not_in_block p input before l e (inl h) o b = absurd (cc)
not_in_block p input before l e (inr (inl h)) o b = absurd (cc)
not_in_block p input before l e (inr (inr h)) o b = absurd (cc)

pub inside_right : (input : Input) (before : List Line) (l : Line) → RightInside input before l → HasNextNumber before l → Right input before l
inside_right input before (line.Try question assume) r n =
    record {
      order = r.order;
      query_left = tt;
      closed = not_in_block (place_of before) input before (line.Try question assume) refl (inl r.order);
      complete =
          tt;
      own = r.own;
    }
inside_right input before (line.Learn number clause) r n = record {
  order = r.order;
  query_left = tt;
  closed = not_in_block (place_of before) input before (line.Learn number clause) refl (inr (inl r.order));
  complete = tt;
  own = record {
    counts = n;
    in_budget = r.own.in_budget;
    not_empty = r.own.not_empty;
    ascending = r.own.ascending;
    distinct = r.own.distinct;
    literals = r.own.literals;
    follows = r.own.follows;
    new = r.own.new;
    needed = r.own.needed;
  };
}
inside_right input before (line.Core number kept dropped) r n = record {
  order = r.order;
  query_left = tt;
  closed = not_in_block (place_of before) input before (line.Core number kept dropped) refl (inr (inl r.order));
  complete = tt;
  own = record {
    counts = n;
    kept_ascending = r.own.kept_ascending;
    kept_facts = r.own.kept_facts;
    dropped_ascending = r.own.dropped_ascending;
    dropped_facts = r.own.dropped_facts;
    core = r.own.core;
  };
}
inside_right input before (line.Done how core) r n =
    record {
      order = r.order;
      query_left = tt;
      closed = not_in_block (place_of before) input before (line.Done how core) refl (inr r.order);
      complete =
          tt;
      own = r.own;
    }
inside_right input before (line.Head axioms budget facts keep repairs version) r n = absurd r.own
inside_right input before (line.Cq o query step) r n = absurd r.own
inside_right input before (line.Conflict facts rule member) r n = absurd r.own
inside_right input before (line.Ask candidate tuple causes members) r n = absurd r.own
inside_right input before (line.Forget clauses) r n = absurd r.own
inside_right input before (line.Answer brave ar iar cores names tuple) r n = absurd r.own
inside_right input before (line.End answers brave ar iar undecided) r n = absurd r.own

-- ---- what a start carries

there : (entries others : List Learned) → entries ≡ others → (clause : List ℕ) → IsAmong entries clause → IsAmong others clause
there entries others e clause m = subst (λ xs. IsAmong xs clause) e m

pub starts_carry : (input : Input) (start : Start) (before : List Line) → Tells (length input.kb.facts) start before
    → HoldInChosen input.kb start.mode (IsAmong start.learned) ↔ LearnedHold input before
starts_carry input start before told = (
  (λ h. subst (λ m. HoldInChosen input.kb m (IsLearned input.kb before)) (sym told.mode)
      (λ R v c a clause m. h R v c a clause (there (learned (length input.kb.facts) before) start.learned told.learned clause m))),
  (λ h. subst (λ m. HoldInChosen input.kb m (IsAmong start.learned)) told.mode
      (λ R v c a clause m. h R v c a clause (there start.learned (learned (length input.kb.facts) before) (sym told.learned) clause m))),
)

pub starts_carry_apart : (kb : Knowledge) (start : Start) (before : List Line) → Tells (length kb.facts) start before → AreApart kb (IsAmong start.learned)
    ↔ LearnedApart kb before
starts_carry_apart kb start before told = (
  (λ h clause m. h clause (there (learned (length kb.facts) before) start.learned told.learned clause m)),
  (λ h clause m. h clause (there start.learned (learned (length kb.facts) before) (sym told.learned) clause m)),
)

-- ---- lines that tell a start

-- so many core lines of empty cores
core_lines : ℕ → List Line
core_lines zero = []
core_lines (suc k) = line.Core 0 [] [] ∷ core_lines k

-- so many learned clauses with a selector, each of an answer that is over
closed_lines : ℕ → ℕ → List Line → List Line
closed_lines n zero b = b
closed_lines n (suc k) b = line.Answer verdict.Undecided verdict.Undecided verdict.Undecided [] [] [] ∷ line.Learn 0 (absent n ∷ []) ∷ line.Ask 0 [] [] []
    ∷ closed_lines n k b

-- the learned clauses that live
learn_lines : List Learned → List Line → List Line
learn_lines [] b = b
learn_lines (c ∷ entries) b = learn_lines entries (line.Learn c.number c.clause ∷ b)

-- what is counted in the lines
record Counts (n : ℕ) (b : List Line) (entries : List Learned) (clauses cores : ℕ) : Type 0 where
  learned_is : learned n b ≡ entries
  clauses_are : count_learned b ≡ clauses
  cores_are : count_cores b ≡ cores
  ends_are : count_ends b ≡ 0
  empty : (m : ℕ) (kept dropped : List ℕ) → Contains b (line.Core m kept dropped) → (m < cores) × (kept ≡ []) × (dropped ≡ [])

cores_counted : (n k : ℕ) → Counts n (core_lines k) [] 0 k
unfolding core_lines
cores_counted n zero = record {
  learned_is = refl;
  clauses_are = refl;
  cores_are = refl;
  ends_are = refl;
  empty =
      λ m kept dropped h. absurd (Contains-nil (line.Core m kept dropped) h);
}
cores_counted n (suc k) = let w = cores_counted n k in record {
  learned_is = w.learned_is;
  clauses_are = w.clauses_are;
  cores_are = ap suc w.cores_are;
  ends_are = w.ends_are;
  empty = λ m kept dropped h. elim (Contains-cases (line.Core 0 [] []) (core_lines k) (line.Core m kept dropped) h) [
    | inl e ↦ (let n : 0 ≡ m = cc in let a : kept ≡ [] = cc in let b : dropped ≡ [] = cc in (omega arith, a, b))
    | inr l ↦ (let x = w.empty m kept dropped l in let less = x.0 in (omega arith, x.1, x.2))
  ];
}

-- a clause with the first selector has it
selected : (n : ℕ) → not (has_variable (n + 0) (absent n ∷ [])) ≡ false
selected n =
    let own : eqb (variable_of (absent n)) (n + 0) ≡ true = eq-eqb (variable_of (absent n)) (n + 0) (variable_of-absent n ∙ omega arith) in
    rw own refl

closed_counted : (n k : ℕ) (b : List Line) (clauses cores : ℕ) → Counts n b [] clauses cores → Counts n (closed_lines n k b) [] (clauses + k) cores
unfolding closed_lines
closed_counted n zero b clauses cores w = record {
  learned_is = w.learned_is;
  clauses_are = w.clauses_are ∙ omega arith;
  cores_are = w.cores_are;
  ends_are =
      w.ends_are;
  empty = w.empty;
}
closed_counted n (suc k) b clauses cores w = let again = closed_counted n k b clauses cores w in record {
  learned_is = dropped_all (learned n (closed_lines n k b)) again.learned_is;
  clauses_are = ap suc again.clauses_are ∙ omega arith;
  cores_are = again.cores_are;
  ends_are = again.ends_are;
  empty = λ m kept dropped h. elim (Contains-cases (line.Answer verdict.Undecided verdict.Undecided verdict.Undecided [] [] [])
      (line.Learn 0 (absent n ∷ []) ∷ line.Ask 0 [] [] [] ∷ closed_lines n k b) (line.Core m kept dropped) h) [
        | inl e ↦ absurd (cc)
        | inr l ↦ elim (Contains-cases (line.Learn 0 (absent n ∷ [])) (line.Ask 0 [] [] [] ∷ closed_lines n k b) (line.Core m kept dropped) l) [
          | inl e ↦ absurd (cc)
          | inr i ↦ elim (Contains-cases (line.Ask 0 [] [] []) (closed_lines n k b) (line.Core m kept dropped) i)
              [ inl e ↦ absurd (cc) | inr j ↦ again.empty m kept dropped j ]
        ]
      ];
}
  where
    one : Learned
    one = record { number = 0; clause = absent n ∷ [] }

    dropped_all : (entries : List Learned) → entries ≡ [] → filter (λ (c : Learned). not (has_variable (n + 0) c.clause)) (entries ++ one ∷ []) ≡ []
    dropped_all entries e = ap (λ (xs : List Learned). filter (λ (c : Learned). not (has_variable (n + 0) c.clause)) (xs ++ one ∷ [])) e ∙ rw (selected n) refl

learns_counted : (n : ℕ) (entries : List Learned) (b : List Line) (before : List Learned) (clauses cores : ℕ) → Counts n b before clauses cores
    → Counts n (learn_lines entries b) (before ++ entries) (clauses + length entries) cores
unfolding learn_lines
learns_counted n [] b before clauses cores w = record {
  learned_is = w.learned_is ∙ sym (append-nil before);
  clauses_are =
      w.clauses_are ∙ omega arith;
  cores_are = w.cores_are;
  ends_are = w.ends_are;
  empty = w.empty;
}
learns_counted n (c ∷ entries) b before clauses cores w =
    let again = learns_counted n entries (line.Learn c.number c.clause ∷ b) (before ++ c ∷ []) (suc clauses) cores (record {
      learned_is = ap (λ (xs : List Learned). xs ++ c ∷ []) w.learned_is;
      clauses_are = ap suc w.clauses_are;
      cores_are = w.cores_are;
      ends_are = w.ends_are;
      empty = λ m kept dropped h. elim (Contains-cases (line.Learn c.number c.clause) b (line.Core m kept dropped) h)
          [ inl e ↦ absurd (cc) | inr l ↦ w.empty m kept dropped l ];
    }) in
    record {
      learned_is = again.learned_is ∙ append_assoc before (c ∷ []) entries;
      clauses_are = again.clauses_are ∙ omega arith;
      cores_are = again.cores_are;
      ends_are = again.ends_are;
      empty = again.empty;
    }

-- the empty core is one
empty_core : (kb : Knowledge) (mode : Repairs) → IsCore kb mode (has []) (has [])
empty_core kb mode =
    let (p, of) = priority_exists kb mode in
    record {
      consistent = ((means kb mode p of).free (has [])).0 (record { own = λ i t o. true≢false (sym t); pairs = λ i j t u c. true≢false (sym t) });
      drops = λ i j il jl t c. absurd (true≢false (sym t));
      blocked = λ j jl t. absurd (true≢false (sym t));
    }

pub start_told : (input : Input) (start : Start) → length start.learned ≤ start.clauses
    → (before : List Line) × Tells (length input.kb.facts) start before × (count_ends before ≡ 0) × CoresHold input before
start_told input start few =
    let n : ℕ = length input.kb.facts in
    let extra : ℕ = start.clauses - length start.learned in
    let below : List Line = closed_lines n extra (core_lines start.cores) in
    let w = learns_counted n start.learned below [] (0 + extra) start.cores
    (closed_counted n extra (core_lines start.cores) 0 start.cores (cores_counted n start.cores)) in
    let whole : List Line = learn_lines start.learned below in
    let empty : (m : ℕ) (kept dropped : List ℕ) → Contains (line.Head 0 start.budget 0 start.keep start.mode 1 ∷ whole) (line.Core m kept dropped)
    → (m < start.cores) × (kept ≡ []) × (dropped ≡ []) = (λ m kept dropped h.
    elim (Contains-cases (line.Head 0 start.budget 0 start.keep start.mode 1) whole (line.Core m kept dropped) h)
    [ inl e ↦ absurd (cc) | inr l ↦ w.empty m kept dropped l ]) in (
      line.Head 0 start.budget 0 start.keep start.mode 1 ∷ whole,
      record {
        closed = refl;
        mode = refl;
        budget = refl;
        keep = refl;
        learned = w.learned_is;
        clauses = w.clauses_are ∙ omega arith;
        cores = w.cores_are;
        cores_numbered = λ m kept dropped h. subst (λ c. m < c) (sym w.cores_are) (empty m kept dropped h).0;
        cores_unique = λ m k d k' d' h h'. let x = empty m k d h in let y = empty m k' d' h' in (x.1 ∙ sym y.1, x.2 ∙ sym y.2);
      },
      w.ends_are,
      (λ m kept dropped h. let e = empty m kept dropped h in
          subst (λ k. IsCore input.kb start.mode (has k) (has dropped)) (sym e.1)
          (subst (λ d. IsCore input.kb start.mode (has []) (has d)) (sym e.2) (empty_core input.kb start.mode))),
    )
