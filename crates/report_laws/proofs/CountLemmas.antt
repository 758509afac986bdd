-- A large enough budget decides: the clauses learned in one question of an answer are fewer than 3 to the number of variables.
use Rattle.std.proofs.Common.{◌≡◌, ◌≢◌, ℕ, suc, ◌<◌, ◌≤◌, ◌^◌, inl, inr, List, [], ◌∷◌, length, map, Contains, All, Bool, true, false, Some, None, eqb, refl}
use Rattle.std.proofs.Common.{sym, subst, ap, cond, arith}
use Rattle.std.specs.List.{IsDistinct}
use Rattle.std.proofs.lemmas.List.Elements.{All-contains, Contains-append_left, Contains-push}
use Rattle.cq_terms.specs.Knowledge.{Knowledge}
use Rattle.cq_meaning.proofs.Members.{Contains-head, Contains-cases, Contains-nil}
use Rattle.clause_meaning.specs.Literals.{HaveDistinctVariables}
use Rattle.clause_meaning.specs.Refutation.{IsWithin}
use Rattle.report_text.specs.declared.line.Line.{Line}
use Rattle.report_text.specs.declared.line.Line.TheVariants as line
use Rattle.report_text.specs.declared.line.Question.{Question}
use Rattle.report_text.specs.declared.line.Question.TheVariants as question
use Rattle.report_text.specs.declared.line.How.TheVariants as how
use Rattle.report_rules.specs.Inputs.{Input}
use Rattle.report_rules.specs.Told.{budget_of}
use Rattle.report_rules.specs.Tries.{asked, Asked, question_of, Ended}
use Rattle.report_rules.specs.Live.{same_question, learned_for, learned, IsLearned}
use Rattle.report_rules.specs.Evidence.{IsSpent}
use Rattle.report_rules.specs.TryRules.{MayLearn}
use Rattle.report_laws.specs.OpenAnswers.{IsRightAnswer}
use Rattle.report_laws.proofs.CodeLemmas.{code, IsOf, code_positive, same_code, distinct_more, distinct_none, fewer}

-- ---- the clauses of one question in one answer

-- newest first
clauses_for : Question → List Line → List (List ℕ)
clauses_for q [] = []
clauses_for q (line.Ask candidate tuple causes members ∷ b) = []
clauses_for q (line.Learn number clause ∷ b) = cond (same_question q (question_of b)) (clause ∷ clauses_for q b) (clauses_for q b)
clauses_for q (_ ∷ b) = clauses_for q b

length-clauses_for : (q : Question) (b : List Line) → length (clauses_for q b) ≡ learned_for q b
unfolding clauses_for
length-clauses_for q [] = refl
length-clauses_for q (line.Ask candidate tuple causes members ∷ b) = refl
length-clauses_for q (line.Learn number clause ∷ b) = go (same_question q (question_of b)) (length-clauses_for q b)
  where
    go : (t : Bool) → length (clauses_for q b) ≡ learned_for q b
        → length (cond t (clause ∷ clauses_for q b) (clauses_for q b)) ≡ cond t (suc (learned_for q b)) (learned_for q b)
    go true e = ap suc e
    go false e = e
length-clauses_for q (line.Head axioms budget facts keep repairs version ∷ b) = length-clauses_for q b
length-clauses_for q (line.Cq origin query step ∷ b) = length-clauses_for q b
length-clauses_for q (line.Conflict facts rule member ∷ b) = length-clauses_for q b
length-clauses_for q (line.Try question assume ∷ b) = length-clauses_for q b
length-clauses_for q (line.Core number kept dropped ∷ b) = length-clauses_for q b
length-clauses_for q (line.Done how core ∷ b) = length-clauses_for q b
length-clauses_for q (line.Forget clauses ∷ b) = length-clauses_for q b
length-clauses_for q (line.Answer brave ar iar cores names tuple ∷ b) = length-clauses_for q b
length-clauses_for q (line.End answers brave ar iar undecided ∷ b) = length-clauses_for q b

-- what is needed of a learned clause
record IsFine (kb : Knowledge) (a : Asked) (c : List ℕ) : Type 0 where
  not_empty : 0 < length c
  distinct : HaveDistinctVariables c
  literals : All (MayLearn kb a) c

-- each of them is fine, and lives to the end of the answer
fine_for : (input : Input) (q : Question) (b : List Line) → IsRightAnswer input b → (d : List ℕ) → Contains (clauses_for q b) d → IsFine input.kb (asked b) d
    × IsLearned input.kb b d
unfolding clauses_for
fine_for input q (line.Ask candidate tuple causes members ∷ b) r d m = absurd (Contains-nil d m)
fine_for input q (line.Try question assume ∷ b) (r, rs) d m = fine_for input q b rs d m
fine_for input q (line.Core number kept dropped ∷ b) (r, rs) d m = fine_for input q b rs d m
fine_for input q (line.Done how core ∷ b) (r, rs) d m = fine_for input q b rs d m
fine_for input q (line.Learn number clause ∷ b) (r, rs) d m = go (same_question q (question_of b)) m (λ k. fine_for input q b rs d k)
  where
    later : IsFine input.kb (asked b) d × IsLearned input.kb b d → IsFine input.kb (asked b) d × IsLearned input.kb (line.Learn number clause ∷ b) d
    later (f, (i, k)) = (f, (i, Contains-append_left (learned (length input.kb.facts) b) (record { number = number; clause = clause } ∷ []) _ k))

    new : clause ≡ d → IsFine input.kb (asked b) d × IsLearned input.kb (line.Learn number clause ∷ b) d
    new e = subst (λ x. IsFine input.kb (asked b) x × IsLearned input.kb (line.Learn number clause ∷ b) x) e (
      record { not_empty = r.own.not_empty; distinct = r.own.distinct; literals = r.own.literals },
      (number, Contains-push (learned (length input.kb.facts) b) (record { number = number; clause = clause })),
    )

    go : (t : Bool) → Contains (cond t (clause ∷ clauses_for q b) (clauses_for q b)) d
        → (Contains (clauses_for q b) d → IsFine input.kb (asked b) d × IsLearned input.kb b d)
        → IsFine input.kb (asked b) d × IsLearned input.kb (line.Learn number clause ∷ b) d
    go true k again = elim (Contains-cases clause (clauses_for q b) d k) [ inl e ↦ new e | inr h ↦ later (again h) ]
    go false k again = later (again k)
fine_for input q [] r d m = absurd r
fine_for input q (line.Head axioms budget facts keep repairs version ∷ b) (r, rs) d m = absurd r.own
fine_for input q (line.Cq origin query step ∷ b) (r, rs) d m = absurd r.own
fine_for input q (line.Conflict facts rule member ∷ b) (r, rs) d m = absurd r.own
fine_for input q (line.Forget clauses ∷ b) (r, rs) d m = absurd r.own
fine_for input q (line.Answer brave ar iar cores names tuple ∷ b) (r, rs) d m = absurd r.own
fine_for input q (line.End answers brave ar iar undecided ∷ b) (r, rs) d m = absurd r.own

-- ---- their numbers

-- each literal that may be learned is of one of the variables
abbrev pub Covers : Knowledge → List ℕ → Asked → Type 0
Covers kb variables a = (l : ℕ) → MayLearn kb a l → (x : ℕ) × Contains variables x × IsOf l x

-- a clause of the same number has all literals of a learned one
same_code_within : (kb : Knowledge) (variables : List ℕ) (a : Asked) → Covers kb variables a → (c d : List ℕ) → IsFine kb a d
    → code variables c ≡ code variables d → IsWithin d c
same_code_within kb variables a cover c d fd e l m =
    let (x, k, o) = cover l (All-contains (MayLearn kb a) d l fd.literals m) in
    same_code variables c d fd.distinct e x l k o m

-- no learned clause has the number 0
fine_positive : (kb : Knowledge) (variables : List ℕ) (a : Asked) → Covers kb variables a → (c : List ℕ) → IsFine kb a c → 0 < code variables c
fine_positive kb variables a cover [] f = absurd (let h = f.not_empty in omega arith)
fine_positive kb variables a cover (l ∷ c) f =
    let (x, k, o) = cover l (All-contains (MayLearn kb a) (l ∷ c) l f.literals (Contains-head l c)) in
    code_positive variables (l ∷ c) x l k o (Contains-head l c)

-- they have different numbers, since none contains a live clause
distinct_codes : (input : Input) (variables : List ℕ) (q : Question) (b : List Line) → IsRightAnswer input b → Covers input.kb variables (asked b)
    → IsDistinct eqb (map (code variables) (clauses_for q b))
unfolding clauses_for
distinct_codes input variables q (line.Ask candidate tuple causes members ∷ b) r cover = distinct_none variables
distinct_codes input variables q (line.Try question assume ∷ b) (r, rs) cover = distinct_codes input variables q b rs cover
distinct_codes input variables q (line.Core number kept dropped ∷ b) (r, rs) cover = distinct_codes input variables q b rs cover
distinct_codes input variables q (line.Done how core ∷ b) (r, rs) cover = distinct_codes input variables q b rs cover
distinct_codes input variables q (line.Learn number clause ∷ b) (r, rs) cover =
    go (same_question q (question_of b)) (distinct_codes input variables q b rs cover)
  where
    new : (d : List ℕ) → Contains (clauses_for q b) d → code variables clause ≢ code variables d
    new d m e =
        let w = fine_for input q b rs d m in
        r.own.new (d, inr (inr w.1), same_code_within input.kb variables (asked b) cover clause d w.0 e)

    go : (t : Bool) → IsDistinct eqb (map (code variables) (clauses_for q b))
        → IsDistinct eqb (map (code variables) (cond t (clause ∷ clauses_for q b) (clauses_for q b)))
    go true h = distinct_more variables clause (clauses_for q b) new h
    go false h = h
distinct_codes input variables q [] r cover = absurd r
distinct_codes input variables q (line.Head axioms budget facts keep repairs version ∷ b) (r, rs) cover = absurd r.own
distinct_codes input variables q (line.Cq origin query step ∷ b) (r, rs) cover = absurd r.own
distinct_codes input variables q (line.Conflict facts rule member ∷ b) (r, rs) cover = absurd r.own
distinct_codes input variables q (line.Forget clauses ∷ b) (r, rs) cover = absurd r.own
distinct_codes input variables q (line.Answer brave ar iar cores names tuple ∷ b) (r, rs) cover = absurd r.own
distinct_codes input variables q (line.End answers brave ar iar undecided ∷ b) (r, rs) cover = absurd r.own

-- they are fewer than 3 to the number of variables
learned_fewer : (input : Input) (variables : List ℕ) (q : Question) (b : List Line) → IsRightAnswer input b → Covers input.kb variables (asked b)
    → learned_for q b < 3 ^ length variables
learned_fewer input variables q b r cover =
    let few = fewer variables (clauses_for q b) (λ d m. fine_positive input.kb variables (asked b) cover d (fine_for input q b r d m).0)
    (distinct_codes input variables q b r cover) in
    omega (arith, length-clauses_for q b)

-- ---- spent tries

-- a spent try stands after lines of this answer with the whole budget of clauses
record SpentBefore (input : Input) (b : List Line) : Type 0 where
  early : List Line
  right : IsRightAnswer input early
  same_asked : asked early ≡ asked b
  question : Question
  all : learned_for question early ≡ budget_of b

spent_before : (input : Input) (b : List Line) → IsRightAnswer input b → (q : Question) (assume : List ℕ) → Ended q assume how.Spent b → SpentBefore input b
spent_before input (line.Ask candidate tuple causes members ∷ b) r q assume e = absurd e
spent_before input (line.Try question assume' ∷ b) (r, rs) q assume e = let w = spent_before input b rs q assume e in
    record { early = w.early; right = w.right; same_asked = w.same_asked; question = w.question; all = w.all }
spent_before input (line.Learn number clause ∷ b) (r, rs) q assume e = let w = spent_before input b rs q assume e in
    record { early = w.early; right = w.right; same_asked = w.same_asked; question = w.question; all = w.all }
spent_before input (line.Core number kept dropped ∷ b) (r, rs) q assume e = let w = spent_before input b rs q assume e in
    record { early = w.early; right = w.right; same_asked = w.same_asked; question = w.question; all = w.all }
spent_before input (line.Done how.Spent None ∷ b) (r, rs) q assume (inl (eq, ea, eh)) =
    record { early = b; right = rs; same_asked = refl; question = question_of b; all = r.own.budget }
spent_before input (line.Done how.Spent (Some n) ∷ b) (r, rs) q assume (inl (eq, ea, eh)) = absurd r.own
spent_before input (line.Done how.Model core ∷ b) (r, rs) q assume (inl (eq, ea, eh)) = absurd (cc)
spent_before input (line.Done how.Refuted core ∷ b) (r, rs) q assume (inl (eq, ea, eh)) = absurd (cc)
spent_before input (line.Done h core ∷ b) (r, rs) q assume (inr e) = let w = spent_before input b rs q assume e in
    record { early = w.early; right = w.right; same_asked = w.same_asked; question = w.question; all = w.all }
spent_before input [] r q assume e = absurd e
spent_before input (line.Head axioms budget facts keep repairs version ∷ b) (r, rs) q assume e = absurd r.own
spent_before input (line.Cq origin query step ∷ b) (r, rs) q assume e = absurd r.own
spent_before input (line.Conflict facts rule member ∷ b) (r, rs) q assume e = absurd r.own
spent_before input (line.Forget clauses ∷ b) (r, rs) q assume e = absurd r.own
spent_before input (line.Answer brave ar iar cores names tuple ∷ b) (r, rs) q assume e = absurd r.own
spent_before input (line.End answers brave ar iar undecided ∷ b) (r, rs) q assume e = absurd r.own

-- no try is spent under a large enough budget
none_spent : (input : Input) (variables : List ℕ) (b : List Line) → IsRightAnswer input b → Covers input.kb variables (asked b)
    → 3 ^ length variables ≤ budget_of b
    → (q : Question) (assume : List ℕ) → Ended q assume how.Spent b → ⊥
none_spent input variables b r cover large q assume e =
    let w = spent_before input b r q assume e in
    let few = learned_fewer input variables w.question w.early w.right (subst (Covers input.kb variables) (sym w.same_asked) cover) in
    omega (arith, w.all)

-- and no question
pub no_verdict_open : (input : Input) (variables : List ℕ) (b : List Line) → IsRightAnswer input b → Covers input.kb variables (asked b)
    → 3 ^ length variables ≤ budget_of b
    → (cores : List ℕ) (q : Question) → ¬ IsSpent input.kb b cores q
no_verdict_open input variables b r cover large cores question.Brave (all, (cause, m, e)) = none_spent input variables b r cover large question.Brave _ e
no_verdict_open input variables b r cover large cores question.Ar e = none_spent input variables b r cover large question.Ar _ e
no_verdict_open input variables b r cover large cores question.Iar (all, (i, e)) = none_spent input variables b r cover large question.Iar _ e
