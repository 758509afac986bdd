-- An answer has few tries and cores, and learns few clauses.
use Rattle.std.proofs.Common.{◌≡◌, ◌≢◌, ℕ, suc, ◌<◌, ◌≤◌, ◌+◌, ◌*◌, inl, inr, List, [], ◌∷◌, ◌++◌, length, map, Contains, AllPairs, refl, sym, subst, ap}
use Rattle.std.proofs.Common.{cond, arith}
use Rattle.std.proofs.lemmas.List.{length-map, length-append}
use Rattle.std.proofs.lemmas.List.Kept.{AllPairs-cons}
use Rattle.cq_terms.specs.Knowledge.{Knowledge}
use Rattle.cq_meaning.proofs.Ascending.{All-of}
use Rattle.cq_meaning.proofs.Listed.{append_left, append_right, removed}
use Rattle.cq_meaning.proofs.Members.{Contains-head, Contains-later, Contains-cases, Contains-nil}
use Rattle.clause_meaning.proofs.Members.{Contains-map}
use Rattle.repair_clauses.specs.BaseClauses.{present, absent}
use Rattle.report_text.specs.declared.line.Line.{Line}
use Rattle.report_text.specs.declared.line.Line.TheVariants as line
use Rattle.report_text.specs.declared.line.Question.{Question}
use Rattle.report_text.specs.declared.line.Question.TheVariants as question
use Rattle.report_rules.specs.Inputs.{Input, selector_of}
use Rattle.report_rules.specs.declared.place.Place.TheVariants.{InTry}
use Rattle.report_rules.specs.Order.{place_of}
use Rattle.report_rules.specs.Told.{budget_of}
use Rattle.report_rules.specs.Tries.{Asked, asked, question_of, Tried}
use Rattle.report_rules.specs.Live.{same_question, learned_for}
use Rattle.report_rules.specs.TryRules.{MayAssume}
use Rattle.report_laws.specs.OpenAnswers.{IsRightAnswer}
use Rattle.report_laws.specs.Counting.{count_tries, count_clauses, count_try_cores, HasFactsOf}
use Rattle.report_laws.proofs.ListLemmas.{AllPairs-head, AllPairs-tail}

-- ---- distinct members of a list are not more than it has

fewer_than : {X : Type 0} (xs ys : List X) → AllPairs (λ x y. x ≢ y) xs → ((x : X) → Contains xs x → Contains ys x) → length xs ≤ length ys
fewer_than [] ys distinct inside = omega arith
fewer_than (x ∷ xs) ys distinct inside =
    let (zs, less, rest) = removed ys x (inside x (Contains-head x xs)) in
    let again = fewer_than xs zs (AllPairs-tail (λ a b. a ≢ b) x xs distinct) (λ u m. elim (rest u (inside u (Contains-later x xs u m))) [
      | inl e ↦ absurd (AllPairs-head (λ a b. a ≢ b) x xs distinct u m (sym e))
      | inr k ↦ k
    ]) in
    omega arith

-- ---- the tries of an answer

abbrev pair_of : Question → List ℕ → Question × List ℕ
pair_of q assume = (q, assume)

-- with their questions and assumptions, newest first
abbrev tries_of : List Line → List (Question × List ℕ)
tries_of [] = []
tries_of (line.Ask candidate tuple causes members ∷ b) = []
tries_of (line.Try q assume ∷ b) = pair_of q assume ∷ tries_of b
tries_of (_ ∷ b) = tries_of b

-- what is said of the tries of an open answer
record AreTries (input : Input) (b : List Line) : Type 0 where
  counted : length (tries_of b) ≡ count_tries b
  tried : (q : Question) (assume : List ℕ) → Contains (tries_of b) (q, assume) → Tried q assume b
  distinct : AllPairs (λ s t. s ≢ t) (tries_of b)
  may : (q : Question) (assume : List ℕ) → Contains (tries_of b) (q, assume) → MayAssume input.kb (asked b) q assume

tries_are : (input : Input) (b : List Line) → IsRightAnswer input b → AreTries input b
tries_are input (line.Ask candidate tuple causes members ∷ b) r = record {
  counted = refl;
  tried = λ q assume m. Contains-nil (pair_of q assume) m;
  distinct = λ i j d a l. absurd (omega arith);
  may = λ q assume m. absurd (Contains-nil (pair_of q assume) m);
}
tries_are input (line.Try q assume ∷ b) (r, rs) = added (tries_are input b rs)
  where
    same : (s : Question) (a : List ℕ) → pair_of q assume ≡ pair_of s a → (q ≡ s) × (assume ≡ a)
    same s a e = (ap (λ (p : Question × List ℕ). p.0) e, ap (λ (p : Question × List ℕ). p.1) e)

    added : AreTries input b → AreTries input (line.Try q assume ∷ b)
    added w = record {
      counted = ap suc w.counted;
      tried = λ s a m. elim (Contains-cases (pair_of q assume) (tries_of b) (pair_of s a) m) [ inl e ↦ inl (same s a e) | inr k ↦ inr (w.tried s a k) ];
      distinct = AllPairs-cons (λ s t. s ≢ t) (pair_of q assume) (tries_of b)
          (All-of (λ t. pair_of q assume ≢ t) (tries_of b) (λ t k e. r.own.new (w.tried q assume (subst (Contains (tries_of b)) (sym e) k)))) w.distinct;
      may = λ s a m. elim (Contains-cases (pair_of q assume) (tries_of b) (pair_of s a) m) [
        | inl e ↦ (let (d, f) = same s a e in subst (λ x. MayAssume input.kb (asked b) x a) d (subst (MayAssume input.kb (asked b) q) f r.own.assumes))
        | inr k ↦ w.may s a k
      ];
    }
tries_are input (line.Learn number clause ∷ b) (r, rs) = let w = tries_are input b rs in
    record { counted = w.counted; tried = w.tried; distinct = w.distinct; may = w.may }
tries_are input (line.Core number kept dropped ∷ b) (r, rs) = let w = tries_are input b rs in
    record { counted = w.counted; tried = w.tried; distinct = w.distinct; may = w.may }
tries_are input (line.Done how core ∷ b) (r, rs) = let w = tries_are input b rs in
    record { counted = w.counted; tried = w.tried; distinct = w.distinct; may = w.may }
tries_are input [] r = absurd r
tries_are input (line.Head axioms budget facts keep repairs version ∷ b) (r, rs) = absurd r.own
tries_are input (line.Cq origin query step ∷ b) (r, rs) = absurd r.own
tries_are input (line.Conflict facts rule member ∷ b) (r, rs) = absurd r.own
tries_are input (line.Forget clauses ∷ b) (r, rs) = absurd r.own
tries_are input (line.Answer brave ar iar cores names tuple ∷ b) (r, rs) = absurd r.own
tries_are input (line.End answers brave ar iar undecided ∷ b) (r, rs) = absurd r.own

-- ---- all that may be tried

-- for each cause a brave try
abbrev brave_tries : Asked → List (Question × List ℕ)
brave_tries a = map (λ (cause : List ℕ). pair_of question.Brave (map present cause)) a.causes

-- for each fact an IAR try
abbrev iar_tries : List ℕ → List (Question × List ℕ)
iar_tries facts = map (λ (i : ℕ). pair_of question.Iar (absent i ∷ [])) facts

-- and the AR try
abbrev ar_tries : Knowledge → Asked → List (Question × List ℕ)
ar_tries kb a = pair_of question.Ar (present (selector_of kb a.candidate) ∷ []) ∷ []

abbrev possible : Knowledge → Asked → List ℕ → List (Question × List ℕ)
possible kb a facts = brave_tries a ++ (iar_tries facts ++ ar_tries kb a)

in_possible : (kb : Knowledge) (a : Asked) (facts : List ℕ) → HasFactsOf a.causes facts → (q : Question) (assume : List ℕ) → MayAssume kb a q assume
    → Contains (possible kb a facts) (pair_of q assume)
in_possible kb a facts has question.Brave assume (cause, m, e) =
    append_left (brave_tries a) (iar_tries facts ++ ar_tries kb a) (pair_of question.Brave assume)
    (subst (λ (x : List ℕ). Contains (brave_tries a) (pair_of question.Brave x)) (sym e)
    (Contains-map (λ (c : List ℕ). pair_of question.Brave (map present c)) a.causes cause m))
in_possible kb a facts has question.Iar assume (cause, i, m, k, e) =
    append_right (brave_tries a) (iar_tries facts ++ ar_tries kb a) (pair_of question.Iar assume)
    (append_left (iar_tries facts) (ar_tries kb a) (pair_of question.Iar assume)
    (subst (λ (x : List ℕ). Contains (iar_tries facts) (pair_of question.Iar x)) (sym e)
    (Contains-map (λ (i : ℕ). pair_of question.Iar (absent i ∷ [])) facts i (has cause i m k))))
in_possible kb a facts has question.Ar assume e =
    append_right (brave_tries a) (iar_tries facts ++ ar_tries kb a) (pair_of question.Ar assume)
    (append_right (iar_tries facts) (ar_tries kb a) (pair_of question.Ar assume)
    (subst (λ (x : List ℕ). Contains (ar_tries kb a) (pair_of question.Ar x)) (sym e)
    (Contains-head (pair_of question.Ar (present (selector_of kb a.candidate) ∷ [])) [])))

length-possible : (kb : Knowledge) (a : Asked) (facts : List ℕ) → length (possible kb a facts) ≡ length a.causes + length facts + 1
length-possible kb a facts =
    let whole = length-append (brave_tries a) (iar_tries facts ++ ar_tries kb a) in
    let part = length-append (iar_tries facts) (ar_tries kb a) in
    let brave = length-map a.causes (λ (cause : List ℕ). pair_of question.Brave (map present cause)) in
    let iar = length-map facts (λ (i : ℕ). pair_of question.Iar (absent i ∷ [])) in
    omega arith

pub tries_are_few : (input : Input) (before : List Line) → IsRightAnswer input before → (facts : List ℕ) → HasFactsOf (asked before).causes facts
    → count_tries before ≤ length (asked before).causes + length facts + 1
tries_are_few input before r facts has =
    let w = tries_are input before r in
    let few = fewer_than (tries_of before) (possible input.kb (asked before) facts) w.distinct
    (λ t m. in_possible input.kb (asked before) facts has t.0 t.1 (w.may t.0 t.1 m)) in
    omega (arith, w.counted, length-possible input.kb (asked before) facts)

-- ---- learned clauses

-- in no question more than the budget
record WithinBudget (b : List Line) : Type 0 where
  counted : count_clauses b ≡ learned_for question.Brave b + learned_for question.Iar b + learned_for question.Ar b
  within : (q : Question) → learned_for q b ≤ budget_of b

-- one more clause in one of the three questions
one_more : (q : Question) (n x y z : ℕ) → n ≡ x + y + z → suc n
    ≡ cond (same_question question.Brave q) (suc x) x + cond (same_question question.Iar q) (suc y) y + cond (same_question question.Ar q) (suc z) z
one_more question.Brave n x y z e = omega arith
one_more question.Iar n x y z e = omega arith
one_more question.Ar n x y z e = omega arith

still_within : (q p : Question) (n m budget : ℕ) → n ≤ budget → m < budget → (q ≡ p → n ≡ m) → cond (same_question q p) (suc n) n ≤ budget
still_within question.Brave question.Brave n m budget l k e = let s = e refl in omega arith
still_within question.Iar question.Iar n m budget l k e = let s = e refl in omega arith
still_within question.Ar question.Ar n m budget l k e = let s = e refl in omega arith
still_within question.Brave question.Iar n m budget l k e = l
still_within question.Brave question.Ar n m budget l k e = l
still_within question.Iar question.Brave n m budget l k e = l
still_within question.Iar question.Ar n m budget l k e = l
still_within question.Ar question.Brave n m budget l k e = l
still_within question.Ar question.Iar n m budget l k e = l

clauses_within : (input : Input) (b : List Line) → IsRightAnswer input b → WithinBudget b
clauses_within input (line.Ask candidate tuple causes members ∷ b) r = record { counted = refl; within = λ q. omega arith }
clauses_within input (line.Learn number clause ∷ b) (r, rs) =
    let w = clauses_within input b rs in
    record {
      counted = one_more (question_of b) (count_clauses b) (learned_for question.Brave b) (learned_for question.Iar b) (learned_for question.Ar b) w.counted;
      within = λ q. still_within q (question_of b) (learned_for q b) (learned_for (question_of b) b) (budget_of b) (w.within q) r.own.in_budget
          (λ e. ap (λ x. learned_for x b) e);
    }
clauses_within input (line.Try q assume ∷ b) (r, rs) = let w = clauses_within input b rs in record { counted = w.counted; within = w.within }
clauses_within input (line.Core number kept dropped ∷ b) (r, rs) = let w = clauses_within input b rs in record { counted = w.counted; within = w.within }
clauses_within input (line.Done how core ∷ b) (r, rs) = let w = clauses_within input b rs in record { counted = w.counted; within = w.within }
clauses_within input [] r = absurd r
clauses_within input (line.Head axioms budget facts keep repairs version ∷ b) (r, rs) = absurd r.own
clauses_within input (line.Cq origin query step ∷ b) (r, rs) = absurd r.own
clauses_within input (line.Conflict facts rule member ∷ b) (r, rs) = absurd r.own
clauses_within input (line.Forget clauses ∷ b) (r, rs) = absurd r.own
clauses_within input (line.Answer brave ar iar cores names tuple ∷ b) (r, rs) = absurd r.own
clauses_within input (line.End answers brave ar iar undecided ∷ b) (r, rs) = absurd r.own

pub clauses_are_few : (input : Input) (before : List Line) → IsRightAnswer input before → count_clauses before ≤ 3 * budget_of before
clauses_are_few input before r =
    let w = clauses_within input before r in
    omega (arith, w.counted, w.within question.Brave, w.within question.Iar, w.within question.Ar)

-- ---- cores

-- a try has at most one core line, and none where a line of the try may still be learned
record FewCores (b : List Line) : Type 0 where
  none : place_of b ≡ InTry → count_try_cores b ≡ 0
  few : count_try_cores b ≤ 1

few_cores : (input : Input) (b : List Line) → IsRightAnswer input b → FewCores b
few_cores input [] r = absurd r
few_cores input (line.Ask candidate tuple causes members ∷ b) r = record { none = λ e. refl; few = omega arith }
few_cores input (line.Try q assume ∷ b) (r, rs) = record { none = λ e. refl; few = omega arith }
few_cores input (line.Learn number clause ∷ b) (r, rs) = let w = few_cores input b rs in record { none = λ e. w.none r.order; few = w.few }
few_cores input (line.Core number kept dropped ∷ b) (r, rs) = let e = (few_cores input b rs).none r.order in
    record { none = λ p. absurd (cc); few = omega arith }
few_cores input (line.Done how core ∷ b) (r, rs) = let w = few_cores input b rs in record { none = λ p. absurd (cc); few = w.few }
few_cores input (line.Head axioms budget facts keep repairs version ∷ b) (r, rs) = absurd r.own
few_cores input (line.Cq origin query step ∷ b) (r, rs) = absurd r.own
few_cores input (line.Conflict facts rule member ∷ b) (r, rs) = absurd r.own
few_cores input (line.Forget clauses ∷ b) (r, rs) = absurd r.own
few_cores input (line.Answer brave ar iar cores names tuple ∷ b) (r, rs) = absurd r.own
few_cores input (line.End answers brave ar iar undecided ∷ b) (r, rs) = absurd r.own

pub cores_are_few : (input : Input) (before : List Line) → IsRightAnswer input before → count_try_cores before ≤ 1
cores_are_few input before r = (few_cores input before r).few
