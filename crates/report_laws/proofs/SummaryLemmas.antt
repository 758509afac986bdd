-- The counts of verdicts.
use Rattle.std.proofs.Common.{◌≡◌, ℕ, suc, ◌≤◌, ◌+◌, ◌^◌, ◌↔◌, inl, inr, List, [], ◌∷◌, ◌++◌, length, Bool, true, false, ◌||◌, filter, cond, true≢false, refl}
use Rattle.std.proofs.Common.{sym, subst, ap, ◌∙◌, arith, All}
use Rattle.std.proofs.lemmas.Bool.{cases_lt, or_cases}
use Rattle.std.proofs.lemmas.List.{length-append}
use Rattle.std.proofs.lemmas.List.Elements.{All-head, All-tail, filter-append}
use Rattle.cq_terms.specs.declared.facts.Repairs.{Repairs}
use Rattle.cq_terms.specs.Knowledge.{Knowledge}
use Rattle.cq_terms.specs.Query.{Query}
use Rattle.cq_meaning.specs.Candidates.{AreCauses}
use Rattle.cq_meaning.specs.Repairs.{IsAcyclic}
use Rattle.report_text.specs.declared.line.Line.{Line}
use Rattle.report_text.specs.declared.line.Line.TheVariants as line
use Rattle.report_text.specs.declared.line.Question.{Question}
use Rattle.report_text.specs.declared.line.Question.TheVariants as question
use Rattle.report_text.specs.declared.line.Verdict.{Verdict}
use Rattle.report_text.specs.declared.line.Verdict.TheVariants as verdict
use Rattle.report_rules.specs.Inputs.{Input}
use Rattle.report_rules.specs.ConflictLists.{AreConflictFacts}
use Rattle.report_rules.specs.Order.{is_answering}
use Rattle.report_rules.specs.Told.{mode_of, query_of, budget_of, answered, count_answers}
use Rattle.report_rules.specs.Tries.{asked}
use Rattle.report_rules.specs.Rules.{is_yes, is_undecided, AnswerIsRight}
use Rattle.report_rules.specs.Accepted.{AreRight}
use Rattle.report_laws.specs.Readings.{Holds, IsTrueVerdict, IsDecided}
use Rattle.report_rules.specs.Evidence.{IsVerdict}
use Rattle.report_laws.specs.OpenAnswers.{IsRightAnswer}
use Rattle.report_laws.specs.OpenLaws.{RestsOnTruth}
use Rattle.report_laws.specs.Summaries.{yes_to, any_open, count_passing, TellsHolding, CountsTell, PassesAboveBudget, Said, said_to, count_said, tuples_said}
use Rattle.report_laws.proofs.BoundLemmas.{bound_exists}
use Rattle.report_laws.proofs.BudgetLemmas.{open_decided}
use Rattle.report_laws.proofs.CauseLemmas.{listed_within}
use Rattle.report_laws.proofs.HeldLemmas.{opens_rightly}
use Rattle.report_laws.proofs.PlaceLemmas.{starts_empty}
use Rattle.report_laws.proofs.VerdictLemmas.{verdict_true}

-- one more tuple
count-push : (test : List ℕ → Bool) (tuples : List (List ℕ)) (tuple : List ℕ)
    → count_passing test (tuples ++ tuple ∷ []) ≡ count_passing test tuples + cond (test tuple) 1 0
count-push test tuples tuple = ap length (filter-append test tuples (tuple ∷ []))
    ∙ (length-append (filter test tuples) (filter test (tuple ∷ [])) ∙ ap (λ n. count_passing test tuples + n) (one (test tuple)))
  where
    one : (b : Bool) → length (cond b (tuple ∷ []) []) ≡ cond b 1 0
    one true = refl
    one false = refl

-- what one more verdict does to the counts
counted_more : (P : Type 0) (said : Verdict) (any t : Bool) (c y z : ℕ) → IsTrueVerdict P said → (t ≡ true) ↔ P → (said ≡ verdict.Undecided → any ≡ true)
    → y ≤ c → c ≤ y + z
    → (cond (is_yes said) (suc y) y ≤ c + cond t 1 0) × (c + cond t 1 0 ≤ cond (is_yes said) (suc y) y + cond any (suc z) z)
counted_more P verdict.Yes any true c y z h tells u l m = (omega arith, grow any)
  where
    grow : (any : Bool) → c + 1 ≤ suc y + cond any (suc z) z
    grow true = omega arith
    grow false = omega arith
counted_more P verdict.Yes any false c y z h tells u l m = absurd (true≢false (sym (tells.1 h)))
counted_more P verdict.No any true c y z h tells u l m = absurd (h (tells.0 refl))
counted_more P verdict.No any false c y z h tells u l m = (omega arith, grow any)
  where
    grow : (any : Bool) → c + 0 ≤ y + cond any (suc z) z
    grow true = omega arith
    grow false = omega arith
counted_more P verdict.Undecided true t c y z h tells u l m = (least t, most t)
  where
    least : (t : Bool) → y ≤ c + cond t 1 0
    least true = omega arith
    least false = omega arith

    most : (t : Bool) → c + cond t 1 0 ≤ y + suc z
    most true = omega arith
    most false = omega arith
counted_more P verdict.Undecided false t c y z h tells u l m = absurd (true≢false (sym (u refl)))

-- the verdict on a question
verdict_on : Question → Verdict → Verdict → Verdict → Verdict
verdict_on question.Brave brave ar iar = brave
verdict_on question.Ar brave ar iar = ar
verdict_on question.Iar brave ar iar = iar

yes-verdict_on : (q : Question) (brave ar iar : Verdict) → yes_to q brave ar iar ≡ is_yes (verdict_on q brave ar iar)
unfolding verdict_on
yes-verdict_on question.Brave brave ar iar = refl
yes-verdict_on question.Ar brave ar iar = refl
yes-verdict_on question.Iar brave ar iar = refl

or_left : (b c : Bool) → b ≡ true → (b || c) ≡ true
or_left true c e = refl
or_left false c e = absurd (true≢false (sym e))

or_right : (b c : Bool) → c ≡ true → (b || c) ≡ true
or_right true c e = refl
or_right false c e = e

-- an open one leaves some open
open_one : (q : Question) (brave ar iar : Verdict) → verdict_on q brave ar iar ≡ verdict.Undecided → any_open brave ar iar ≡ true
unfolding verdict_on
open_one question.Brave brave ar iar e = or_left (is_undecided brave) (is_undecided ar || is_undecided iar) (ap is_undecided e)
open_one question.Ar brave ar iar e = or_right (is_undecided brave) (is_undecided ar || is_undecided iar)
    (or_left (is_undecided ar) (is_undecided iar) (ap is_undecided e))
open_one question.Iar brave ar iar e = or_right (is_undecided brave) (is_undecided ar || is_undecided iar)
    (or_right (is_undecided ar) (is_undecided iar) (ap is_undecided e))

-- what a right answer line says of each question
said_is : (input : Input) (b : List Line) (brave ar iar : Verdict) (cores : List ℕ) (names : List (List ℕ)) (tuple : List ℕ)
    → AnswerIsRight input b brave ar iar cores names tuple
    → (q : Question) → IsVerdict input.kb b cores q (verdict_on q brave ar iar)
unfolding verdict_on
said_is input b brave ar iar cores names tuple w question.Brave = w.brave_is
said_is input b brave ar iar cores names tuple w question.Ar = w.ar_is
said_is input b brave ar iar cores names tuple w question.Iar = w.iar_is

pub answers_counted : (input : Input) (before : List Line) → AreRight input before → IsAcyclic input.kb (mode_of before)
    → (q : Question) (test : List ℕ → Bool) → TellsHolding input before q test → CountsTell before q test
answers_counted input [] r acyclic q test tells = record { least = omega arith; most = omega arith }
answers_counted input (line.Head axioms budget facts keep repairs version ∷ b) (r, rs) acyclic q test tells =
    subst (λ x. CountsTell (line.Head axioms budget facts keep repairs version ∷ x) q test) (sym (starts_empty b r.order))
    (record { least = omega arith; most = omega arith })
answers_counted input (line.End answers brave ar iar undecided ∷ b) r acyclic q test tells = record { least = omega arith; most = omega arith }
answers_counted input (line.Answer brave ar iar cores names tuple ∷ b) (r, rs) acyclic q test tells = more (answers_counted input b rs acyclic q test tells)
  where
    truth : IsTrueVerdict (Holds input.kb (mode_of b) (query_of input b) tuple q) (verdict_on q brave ar iar)
    truth =
        let h = opens_rightly input b rs (ap is_answering r.order) in
        subst (λ t. IsTrueVerdict (Holds input.kb (mode_of b) (query_of input b) t q) (verdict_on q brave ar iar)) (sym r.own.same_tuple)
        (verdict_true input b h.0 h.1 acyclic cores q (verdict_on q brave ar iar) (said_is input b brave ar iar cores names tuple r.own q))

    more : CountsTell b q test → CountsTell (line.Answer brave ar iar cores names tuple ∷ b) q test
    more w =
        let step = counted_more (Holds input.kb (mode_of b) (query_of input b) tuple q) (verdict_on q brave ar iar) (any_open brave ar iar) (test tuple)
        (count_passing test (answered b)) (count_answers (yes_to q) b) (count_answers any_open b) truth (tells tuple) (open_one q brave ar iar) w.least
        w.most in
        let yes = ap (λ (t : Bool). cond t (suc (count_answers (yes_to q) b)) (count_answers (yes_to q) b)) (yes-verdict_on q brave ar iar) in
        let all = count-push test (answered b) tuple in
        record { least = omega (arith, step.0, yes, all); most = omega (arith, step.1, yes, all) }
answers_counted input (line.Cq o query step ∷ b) (r, rs) acyclic q test tells = let w = answers_counted input b rs acyclic q test tells in
    record { least = w.least; most = w.most }
answers_counted input (line.Conflict facts rule member ∷ b) (r, rs) acyclic q test tells = let w = answers_counted input b rs acyclic q test tells in
    record { least = w.least; most = w.most }
answers_counted input (line.Ask candidate tuple causes members ∷ b) (r, rs) acyclic q test tells = let w = answers_counted input b rs acyclic q test tells in
    record { least = w.least; most = w.most }
answers_counted input (line.Try question assume ∷ b) (r, rs) acyclic q test tells = let w = answers_counted input b rs acyclic q test tells in
    record { least = w.least; most = w.most }
answers_counted input (line.Learn number clause ∷ b) (r, rs) acyclic q test tells = let w = answers_counted input b rs acyclic q test tells in
    record { least = w.least; most = w.most }
answers_counted input (line.Core number kept dropped ∷ b) (r, rs) acyclic q test tells = let w = answers_counted input b rs acyclic q test tells in
    record { least = w.least; most = w.most }
answers_counted input (line.Done how core ∷ b) (r, rs) acyclic q test tells = let w = answers_counted input b rs acyclic q test tells in
    record { least = w.least; most = w.most }
answers_counted input (line.Forget clauses ∷ b) (r, rs) acyclic q test tells = let w = answers_counted input b rs acyclic q test tells in
    record { least = w.least; most = w.most }

-- ---- those left open

is_open_one : (said : Verdict) → is_undecided said ≡ true → IsDecided said → ⊥
is_open_one verdict.Yes e d = true≢false (sym e)
is_open_one verdict.No e d = true≢false (sym e)
is_open_one verdict.Undecided e d = d

open_more : (any t : Bool) (c z : ℕ) → (any ≡ true → t ≡ true) → z ≤ c → cond any (suc z) z ≤ c + cond t 1 0
open_more true true c z h l = omega arith
open_more true false c z h l = absurd (true≢false (sym (h refl)))
open_more false true c z h l = omega arith
open_more false false c z h l = omega arith

pub open_counted : (input : Input) (before : List Line) → AreRight input before → (test : List ℕ → Bool) → PassesAboveBudget input before test
    → count_answers any_open before ≤ count_passing test (answered before)
unfolding verdict_on
open_counted input [] r test above = omega arith
open_counted input (line.Head axioms budget facts keep repairs version ∷ b) (r, rs) test above =
    subst (λ x. count_answers any_open x ≤ count_passing test (answered x)) (sym (starts_empty b r.order)) (omega arith)
open_counted input (line.End answers brave ar iar undecided ∷ b) r test above = omega arith
open_counted input (line.Answer brave ar iar cores names tuple ∷ b) (r, rs) test above =
    let step = open_more (any_open brave ar iar) (test tuple) (count_passing test (answered b)) (count_answers any_open b) passes
    (open_counted input b rs test above) in
    omega (arith, step, count-push test (answered b) tuple)
  where
    h : IsRightAnswer input b × RestsOnTruth input b
    h = opens_rightly input b rs (ap is_answering r.order)

    bound : (facts : List ℕ) × AreConflictFacts input.kb (asked b).causes facts
    bound = bound_exists input.kb (asked b).causes (λ cause i m k. listed_within input.kb (query_of input b) (asked b).tuple (asked b).causes
        h.1.in_place.causes_are cause m i k)

    decided : 3 ^ suc (length bound.0) ≤ budget_of b → (q : Question) → IsDecided (verdict_on q brave ar iar)
    decided large q = open_decided input b h.0 bound.0 bound.1 large cores q (verdict_on q brave ar iar)
        (said_is input b brave ar iar cores names tuple r.own q)

    none_open : 3 ^ suc (length bound.0) ≤ budget_of b → any_open brave ar iar ≡ true → ⊥
    none_open large e = elim (or_cases (is_undecided brave) (is_undecided ar || is_undecided iar) e) [
      | inl x ↦ is_open_one brave x (decided large question.Brave)
      | inr y ↦ elim (or_cases (is_undecided ar) (is_undecided iar) y)
          [ inl x ↦ is_open_one ar x (decided large question.Ar) | inr x ↦ is_open_one iar x (decided large question.Iar) ]
    ]

    causes_are : AreCauses input.kb (query_of input b) tuple (asked b).causes
    causes_are = subst (λ t. AreCauses input.kb (query_of input b) t (asked b).causes) (sym r.own.same_tuple) h.1.in_place.causes_are

    passes : any_open brave ar iar ≡ true → test tuple ≡ true
    passes e = elim (cases_lt (budget_of b) (3 ^ suc (length bound.0))) [
      | inl less ↦ above tuple (asked b).causes bound.0 causes_are bound.1 less
      | inr large ↦ absurd (none_open large e)
    ]
open_counted input (line.Cq o query step ∷ b) (r, rs) test above = open_counted input b rs test above
open_counted input (line.Conflict facts rule member ∷ b) (r, rs) test above = open_counted input b rs test above
open_counted input (line.Ask candidate tuple causes members ∷ b) (r, rs) test above = open_counted input b rs test above
open_counted input (line.Try question assume ∷ b) (r, rs) test above = open_counted input b rs test above
open_counted input (line.Learn number clause ∷ b) (r, rs) test above = open_counted input b rs test above
open_counted input (line.Core number kept dropped ∷ b) (r, rs) test above = open_counted input b rs test above
open_counted input (line.Done how core ∷ b) (r, rs) test above = open_counted input b rs test above
open_counted input (line.Forget clauses ∷ b) (r, rs) test above = open_counted input b rs test above

-- ---- answers that no report tells

-- one more in front
length-cond : {X : Type 0} (b : Bool) (x : X) (xs : List X) → length (cond b (x ∷ xs) xs) ≡ cond b (suc (length xs)) (length xs)
length-cond true x xs = refl
length-cond false x xs = refl

suc-or : (b : Bool) (n : ℕ) → cond b (suc n) n ≡ n + cond b 1 0
suc-or true n = omega arith
suc-or false n = omega arith

yes-said_to : (q : Question) (s : Said) → yes_to q s.brave s.ar s.iar ≡ is_yes (said_to q s)
yes-said_to question.Brave s = refl
yes-said_to question.Ar s = refl
yes-said_to question.Iar s = refl

open_said : (q : Question) (s : Said) → said_to q s ≡ verdict.Undecided → any_open s.brave s.ar s.iar ≡ true
unfolding verdict_on
open_said question.Brave s e = open_one question.Brave s.brave s.ar s.iar e
open_said question.Ar s e = open_one question.Ar s.brave s.ar s.iar e
open_said question.Iar s e = open_one question.Iar s.brave s.ar s.iar e

pub said_counted : (kb : Knowledge) (mode : Repairs) (query : Query) (q : Question) (said : List Said)
    → All (λ s. IsTrueVerdict (Holds kb mode query s.tuple q) (said_to q s)) said
    → (test : List ℕ → Bool) → ((tuple : List ℕ) → (test tuple ≡ true) ↔ Holds kb mode query tuple q)
    → (count_said (yes_to q) said ≤ count_passing test (tuples_said said))
    × (count_passing test (tuples_said said) ≤ count_said (yes_to q) said + count_said any_open said)
said_counted kb mode query q [] truths test tells = (omega arith, omega arith)
said_counted kb mode query q (s ∷ said) truths test tells =
    let again = said_counted kb mode query q said (All-tail (λ s. IsTrueVerdict (Holds kb mode query s.tuple q) (said_to q s)) s said truths) test tells in
    let truth : IsTrueVerdict (Holds kb mode query s.tuple q) (said_to q s) =
    All-head (λ s. IsTrueVerdict (Holds kb mode query s.tuple q) (said_to q s)) s said truths in
    let step = counted_more (Holds kb mode query s.tuple q) (said_to q s) (any_open s.brave s.ar s.iar) (test s.tuple)
    (count_passing test (tuples_said said)) (count_said (yes_to q) said) (count_said any_open said) truth (tells s.tuple) (open_said q s) again.0 again.1 in
    let yes = ap (λ (t : Bool). cond t (suc (count_said (yes_to q) said)) (count_said (yes_to q) said)) (yes-said_to q s) in
    let yes_more = length-cond (yes_to q s.brave s.ar s.iar) s (filter (λ (s : Said). yes_to q s.brave s.ar s.iar) said) in
    let open_more = length-cond (any_open s.brave s.ar s.iar) s (filter (λ (s : Said). any_open s.brave s.ar s.iar) said) in
    let passing_more = length-cond (test s.tuple) s.tuple (filter test (tuples_said said)) ∙ suc-or (test s.tuple) (count_passing test (tuples_said said)) in
    (omega (arith, step.0, yes, yes_more, passing_more), omega (arith, step.1, yes, yes_more, open_more, passing_more))

pub open_said_counted : (said : List Said) (test : List ℕ → Bool) → All (λ s. any_open s.brave s.ar s.iar ≡ true → test s.tuple ≡ true) said
    → count_said any_open said ≤ count_passing test (tuples_said said)
open_said_counted [] test h = omega arith
open_said_counted (s ∷ said) test h =
    let again = open_said_counted said test (All-tail (λ s. any_open s.brave s.ar s.iar ≡ true → test s.tuple ≡ true) s said h) in
    let here : any_open s.brave s.ar s.iar ≡ true → test s.tuple ≡ true = All-head (λ s. any_open s.brave s.ar s.iar ≡ true → test s.tuple ≡ true) s said h in
    let step = open_more (any_open s.brave s.ar s.iar) (test s.tuple) (count_passing test (tuples_said said)) (count_said any_open said) here again in
    let more = length-cond (any_open s.brave s.ar s.iar) s (filter (λ (s : Said). any_open s.brave s.ar s.iar) said) in
    let passing_more = length-cond (test s.tuple) s.tuple (filter test (tuples_said said)) ∙ suc-or (test s.tuple) (count_passing test (tuples_said said)) in
    omega (arith, step, more, passing_more)
