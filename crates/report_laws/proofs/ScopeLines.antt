-- Scopes along the lines of an answer: what begins, stays and ends apart, and that its selector is absent alone.
use Rattle.std.proofs.Common.{◌≡◌, ◌≢◌, ℕ, ◌<◌, inl, inr, List, [], ◌∷◌, ◌++◌, length, Contains, not, true≢false, sym, subst, ap, ◌∙◌, arith}
use Rattle.std.proofs.lemmas.List.Elements.{All-contains, Contains-push_cases}
use Rattle.cq_terms.specs.Knowledge.{Knowledge}
use Rattle.cq_meaning.proofs.ByLists.{Conflict-within}
use Rattle.clause_meaning.specs.Literals.{variable_of}
use Rattle.clause_meaning.specs.Assignments.{Separates}
use Rattle.clause_meaning.proofs.Members.{Contains-map_cases}
use Rattle.priority_graph.specs.Split.{has}
use Rattle.repair_clauses.specs.BaseClauses.{present, absent}
use Rattle.repair_clauses.proofs.LiteralLemmas.{variable_of-present, variable_of-absent}
use Rattle.report_text.specs.declared.line.Line.{Line}
use Rattle.report_text.specs.declared.line.Line.TheVariants as line
use Rattle.report_text.specs.declared.line.Verdict.{Verdict}
use Rattle.report_rules.specs.Inputs.{Input, selector_of}
use Rattle.report_rules.specs.Told.{mode_of}
use Rattle.report_rules.specs.Tries.{Asked, asked}
use Rattle.report_rules.specs.Live.{Learned, learned, has_variable, IsLearned, Live}
use Rattle.report_rules.specs.TryRules.{MayLearn}
use Rattle.report_laws.specs.OpenAnswers.{start_of, IsRightAnswer}
use Rattle.report_laws.specs.Scopes.{scope_of, IsScope, IsApart, goes_beyond, LearnedApart, KeepsTo, KeepsScope}
use Rattle.report_laws.proofs.ListLemmas.{Contains-filter}
use Rattle.report_laws.proofs.LiveLemmas.{no_fact, on_facts, lacks, selector_in}
use Rattle.report_laws.proofs.ScopeLemmas.{not_false, base_apart, base_known, apart_sided, causes_inside, kept_sided, kept_apart}

-- ---- the lines of an answer

pub scope_begins : (kb : Knowledge) (before : List Line) → LearnedApart kb before
    → (candidate : ℕ) (tuple : List ℕ) (causes : List (List ℕ)) (members facts : List ℕ) → IsScope kb causes facts
    → KeepsScope kb (line.Ask candidate tuple causes members ∷ before) facts
scope_begins kb before h candidate tuple causes members facts scope = record {
  scope = scope;
  learned = λ clause m. record { apart = λ f. (h clause m).1; inside = λ t. absurd (true≢false (sym t ∙ (h clause m).0)) };
}

pub scope_learns : (kb : Knowledge) (before : List Line) (facts : List ℕ) → KeepsScope kb before facts → (number : ℕ) (clause : List ℕ)
    → KeepsTo kb (scope_of kb (asked before) facts) clause
    → KeepsScope kb (line.Learn number clause ∷ before) facts
scope_learns kb before facts w number clause k = record { scope = w.scope; learned = added }
  where
    added : (c : List ℕ) → IsLearned kb (line.Learn number clause ∷ before) c → KeepsTo kb (scope_of kb (asked before) facts) c
    added c (n, m) = elim (Contains-push_cases (learned (length kb.facts) before) (record { number = number; clause = clause })
        (record { number = n; clause = c }) m) [
          | inl old ↦ w.learned c (n, old)
          | inr new ↦ subst (KeepsTo kb (scope_of kb (asked before) facts)) (ap (λ (e : Learned). e.clause) new) k
        ]

pub scope_ends : (kb : Knowledge) (before : List Line) (facts : List ℕ) → KeepsScope kb before facts
    → (brave ar iar : Verdict) (cores : List ℕ) (names : List (List ℕ)) (tuple : List ℕ)
    → LearnedApart kb (line.Answer brave ar iar cores names tuple ∷ before)
scope_ends kb before facts w brave ar iar cores names tuple clause (n, m) =
    let own : ℕ = selector_of kb (asked before).candidate in
    let k = Contains-filter (λ x. not (has_variable own x.clause)) (learned (length kb.facts) before) (record { number = n; clause = clause }) m in
    kept_apart kb (asked before) facts w.scope clause (w.learned clause (n, k.0)) (lacks own clause k.1)

pub forgotten : (kb : Knowledge) (before : List Line) (numbers clause : List ℕ) → IsLearned kb (line.Forget numbers ∷ before) clause
    → IsLearned kb before clause
forgotten kb before numbers clause (n, m) = (
  n,
  (Contains-filter (λ x. not (has numbers x.number)) (learned (length kb.facts) before)
      (record { number = n; clause = clause }) m).0,
)

pub scope_separates : (input : Input) (before : List Line) (facts : List ℕ) → KeepsScope input.kb before facts
    → Separates (has (scope_of input.kb (asked before) facts)) (Live input.kb before)
scope_separates input before facts w clause (inl base) = apart_sided input.kb (asked before) facts w.scope clause
    (base_apart input.kb (mode_of before) clause base)
scope_separates input before facts w clause (inr (inl (o, c))) = inl (causes_inside input.kb (asked before) facts w.scope clause c)
scope_separates input before facts w clause (inr (inr m)) = kept_sided input.kb (asked before) facts w.scope clause (w.learned clause m)

pub live_apart : (input : Input) (before : List Line) (facts : List ℕ) → KeepsScope input.kb before facts → (clause : List ℕ) → Live input.kb before clause
    → ((l : ℕ) → Contains clause l → variable_of l ≢ selector_of input.kb (asked before).candidate) → IsApart input.kb clause
live_apart input before facts w clause (inl base) free = base_apart input.kb (mode_of before) clause base
live_apart input before facts w clause (inr (inl (o, (cause, m, e)))) free =
    absurd (free (absent (selector_of input.kb (asked before).candidate))
    (subst (λ (xs : List ℕ). Contains xs (absent (selector_of input.kb (asked before).candidate))) (sym e)
    (selector_in (selector_of input.kb (asked before).candidate) cause))
    (variable_of-absent (selector_of input.kb (asked before).candidate)))
live_apart input before facts w clause (inr (inr m)) free = (kept_apart input.kb (asked before) facts w.scope clause (w.learned clause m) free).1

-- ---- the selector is absent alone

not_absent : (s i : ℕ) → present s ≡ absent i → ⊥
not_absent s i e = omega arith

may_learn_absent : (kb : Knowledge) (a : Asked) → MayLearn kb a (present (selector_of kb a.candidate)) → ⊥
may_learn_absent kb a (inl (i, inl e, (j, c), inside)) = no_fact kb a.candidate i (Conflict-within kb i j c) (same i e)
  where
    same : (i : ℕ) → present (selector_of kb a.candidate) ≡ present i → i ≡ selector_of kb a.candidate
    same i e = omega arith
may_learn_absent kb a (inl (i, inr e, conflict, inside)) = not_absent (selector_of kb a.candidate) i e
may_learn_absent kb a (inr e) = not_absent (selector_of kb a.candidate) (selector_of kb a.candidate) e

-- a clause over facts alone has no literal of a selector
known_absent : (kb : Knowledge) (candidate : ℕ) (clause : List ℕ) → ((l : ℕ) → Contains clause l → variable_of l < length kb.facts)
    → Contains clause (present (selector_of kb candidate)) → ⊥
known_absent kb candidate clause h m = no_fact kb candidate (variable_of (present (selector_of kb candidate))) (h (present (selector_of kb candidate)) m)
    (variable_of-present (selector_of kb candidate))

learned_absent : (input : Input) (before : List Line) → IsRightAnswer input before → LearnedApart input.kb (start_of before) → (clause : List ℕ)
    → IsLearned input.kb before clause → Contains clause (present (selector_of input.kb (asked before).candidate)) → ⊥
learned_absent input [] r h clause m k = absurd r
learned_absent input (line.Ask candidate tuple causes members ∷ b) r h clause m k =
    known_absent input.kb candidate clause (on_facts (length input.kb.facts) clause (not_false (goes_beyond (length input.kb.facts) clause) (h clause m).0)) k
learned_absent input (line.Try q assume ∷ b) (r, rs) h clause m k = learned_absent input b rs h clause m k
learned_absent input (line.Core number kept dropped ∷ b) (r, rs) h clause m k = learned_absent input b rs h clause m k
learned_absent input (line.Done d core ∷ b) (r, rs) h clause m k = learned_absent input b rs h clause m k
learned_absent input (line.Learn number c ∷ b) (r, rs) h clause (n, m) k =
    elim (Contains-push_cases (learned (length input.kb.facts) b) (record { number = number; clause = c }) (record { number = n; clause = clause }) m) [
      | inl old ↦ learned_absent input b rs h clause (n, old) k
      | inr new ↦ may_learn_absent input.kb (asked b) (All-contains (MayLearn input.kb (asked b)) c (present (selector_of input.kb (asked b).candidate))
          r.own.literals
          (subst (λ (xs : List ℕ). Contains xs (present (selector_of input.kb (asked b).candidate))) (sym (ap (λ (e : Learned). e.clause) new)) k))
    ]
learned_absent input (line.Head axioms budget facts keep repairs version ∷ b) (r, rs) h clause m k = absurd r.own
learned_absent input (line.Cq o query step ∷ b) (r, rs) h clause m k = absurd r.own
learned_absent input (line.Conflict facts rule member ∷ b) (r, rs) h clause m k = absurd r.own
learned_absent input (line.Forget clauses ∷ b) (r, rs) h clause m k = absurd r.own
learned_absent input (line.Answer brave ar iar cores names tuple ∷ b) (r, rs) h clause m k = absurd r.own
learned_absent input (line.End answers brave ar iar undecided ∷ b) (r, rs) h clause m k = absurd r.own

pub selector_absent : (input : Input) (before : List Line) → IsRightAnswer input before → LearnedApart input.kb (start_of before) → (clause : List ℕ)
    → Live input.kb before clause
    → Contains clause (present (selector_of input.kb (asked before).candidate)) → ⊥
selector_absent input before r h clause (inl base) k = known_absent input.kb (asked before).candidate clause
    (base_known input.kb (mode_of before) clause base) k
selector_absent input before r h clause (inr (inl (o, (cause, m, e)))) k =
    let sel : ℕ = selector_of input.kb (asked before).candidate in
    let (x, d, f) = Contains-map_cases absent (cause ++ sel ∷ []) (present sel) (subst (λ (xs : List ℕ). Contains xs (present sel)) e k) in
    not_absent sel x (sym f)
selector_absent input before r h clause (inr (inr m)) k = learned_absent input before r h clause m k
