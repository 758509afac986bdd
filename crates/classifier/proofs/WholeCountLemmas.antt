-- Counts of verdicts: of those that are answered, and of those that lines tell.
use Rattle.std.proofs.Common.{◌≡◌, ℕ, suc, ◌+◌, ◌≤◌, ◌<◌, ◌^◌, List, [], ◌∷◌, ◌++◌, length, filter, cond, Contains, Bool, true, false, refl, sym, ap, ◌∙◌}
use Rattle.std.proofs.Common.{subst, arith, inl, inr, true≢false}
use Rattle.std.specs.Prelude.{if◌then◌else◌, ◌||◌}
use Rattle.std.specs.List.{AllZip, AllByRecursion}
use Rattle.std.proofs.lemmas.Bool.{cases_lt}
use Rattle.std.proofs.lemmas.List.{length-append}
use Rattle.std.proofs.lemmas.List.Elements.{filter-append, All-from_recursion}
use Rattle.cq_terms.specs.declared.facts.Repairs.TheVariants as mode
use Rattle.cq_terms.specs.Conflicts.{ConflictGraph}
use Rattle.cq_terms.specs.Knowledge.{Knowledge}
use Rattle.cq_terms.specs.Query.{Query}
use Rattle.cq_meaning.specs.Candidates.{Every, AreCauses}
use Rattle.cq_meaning.specs.Conflicts.{FactsEntail}
use Rattle.cq_meaning.proofs.Members.{Contains-head, Contains-later, Contains-nil}
use Rattle.priority_graph.specs.Priority.{Priority}
use Rattle.priority_graph.specs.Inputs.{IsPriorityOf}
use Rattle.cause_finder.specs.declared.candidate.Candidate.{Candidate}
use Rattle.report_text.specs.declared.line.Question.{Question}
use Rattle.report_text.specs.declared.line.Question.TheVariants as question
use Rattle.report_text.specs.declared.line.Verdict.{Verdict}
use Rattle.report_text.specs.declared.line.Verdict.TheVariants as verdict
use Rattle.report_rules.specs.Rules.{is_yes, is_undecided}
use Rattle.report_laws.specs.Readings.{Holds, IsTrueVerdict, IsDecided}
use Rattle.report_laws.specs.Bounds.{AreBoundFacts, IsAtLeastBound}
use Rattle.report_laws.specs.Summaries.{Said, yes_to, any_open, said_to, count_said, count_passing, tuples_said}
use Rattle.report_laws.proofs.ListLemmas.{only_one}
use Rattle.report_laws.proofs.SummaryLemmas.{said_counted}
use Rattle.answer_desk.specs.declared.plan.Plan.{Plan}
use Rattle.classifier.specs.declared.summary.Summary.{Summary}
use Rattle.answer_desk.specs.declared.plan.Verdicts.{Verdicts}
use Rattle.answer_desk.specs.Answering.{AreTrueVerdicts, TellTruth, DecideOverAll, DecideByBudget, has_undecided}
use Rattle.answer_desk.specs.Desks.{DeskState}
use Rattle.classifier.specs.WholeReports.{one_if, no_summary, with_verdicts, AreAtMostAnswers, yes_count, IsSummaryOf, said_of, IsSaidOf}
use Rattle.classifier.specs.WholeReports.{IsSummaryOver, tuples_of, CountsHolding, OpenAboveBudget, OpenOfManyCauses}

-- ---- one more

pub one_if_small : (b : Bool) → one_if b ≤ 1
one_if_small true = omega arith
one_if_small false = omega arith

-- a count with one more where the test passes
pub count_step : (b : Bool) (n m : ℕ) → n ≡ m → n + one_if b ≡ (if b then suc m else m)
count_step true n m e = omega (arith, e)
count_step false n m e = omega (arith, e)

pub at_most_more : (s : Summary) (v : Verdicts) → AreAtMostAnswers s → AreAtMostAnswers (with_verdicts s v)
at_most_more s v w =
    let brave = one_if_small (is_yes v.brave) in
    let ar = one_if_small (is_yes v.ar) in
    let iar = one_if_small (is_yes v.iar) in
    let undecided = one_if_small (has_undecided v) in
    record {
      brave = omega (arith, w.brave, brave);
      ar = omega (arith, w.ar, ar);
      iar = omega (arith, w.iar, iar);
      undecided = omega (arith, w.undecided, undecided);
    }

pub at_most_none : AreAtMostAnswers no_summary
at_most_none = record { brave = omega arith; ar = omega arith; iar = omega arith; undecided = omega arith }

pub yes_more : (q : Question) (s : Summary) (v : Verdicts) → yes_count q (with_verdicts s v) ≡ yes_count q s + one_if (yes_to q v.brave v.ar v.iar)
yes_more question.Brave s v = refl
yes_more question.Ar s v = refl
yes_more question.Iar s v = refl

-- ---- what is said

length_one : (b : Bool) (s : Said) → length (cond b (s ∷ []) []) ≡ one_if b
length_one true s = refl
length_one false s = refl

said_more : (test : Verdict → Verdict → Verdict → Bool) (said : List Said) (s : Said)
    → count_said test (said ++ s ∷ []) ≡ count_said test said + one_if (test s.brave s.ar s.iar)
said_more test said s =
    ap (λ (xs : List Said). length xs) (filter-append (λ (x : Said). test x.brave x.ar x.iar) said (s ∷ []))
    ∙ (length-append (filter (λ (x : Said). test x.brave x.ar x.iar) said) (filter (λ (x : Said). test x.brave x.ar x.iar) (s ∷ []))
    ∙ ap (λ (n : ℕ). count_said test said + n) (length_one (test s.brave s.ar s.iar) s))

none_said : (q : Question) → yes_count q no_summary ≡ count_said (yes_to q) []
none_said question.Brave = refl
none_said question.Ar = refl
none_said question.Iar = refl

pub summary_none : IsSummaryOf [] no_summary
summary_none = record { answers = refl; yes = none_said; undecided = refl }

pub summary_more : (said : List Said) (s : Summary) (tuple : List ℕ) (v : Verdicts) → IsSummaryOf said s
    → IsSummaryOf (said ++ said_of tuple v ∷ []) (with_verdicts s v)
summary_more said s tuple v w = record {
  answers = ap (λ (n : ℕ). n + 1) w.answers ∙ sym (length-append said (said_of tuple v ∷ []));
  yes = λ q. yes_more q s v ∙ (ap (λ (n : ℕ). n + one_if (yes_to q v.brave v.ar v.iar)) (w.yes q) ∙ sym (said_more (yes_to q) said (said_of tuple v)));
  undecided = ap (λ (n : ℕ). n + one_if (has_undecided v)) w.undecided ∙ sym (said_more any_open said (said_of tuple v));
}

-- what a desk answers is said of the candidate
pub said_one : (desk : DeskState) (g : ConflictGraph) (p : Priority) (plan : Plan) (c : Candidate) (v : Verdicts) → desk.conflicts ≡ g → desk.better ≡ p
    → desk.plan ≡ plan → TellTruth desk c.tuple c.causes v → DecideOverAll desk c.causes v → DecideByBudget desk c.causes v
    → IsSaidOf g p plan c (said_of c.tuple v)
said_one desk g p plan c v same_conflicts same_better same_plan truth over_all by_budget = record {
  tuple = refl;
  truth = λ kb q priority entailed causes. subst (λ (x : Plan). AreTrueVerdicts kb x.repairs q c.tuple v) same_plan (truth kb q (record {
    priority = subst (λ (x : Plan). IsPriorityOf kb x.repairs desk.better) (sym same_plan) (subst (IsPriorityOf kb plan.repairs) (sym same_better) priority);
    entailed = entailed;
    causes_are = causes;
  }));
  over_all = λ in_all. over_all (ap (λ (x : Plan). x.repairs) same_plan ∙ in_all);
  by_budget = λ bound. by_budget (subst (λ (x : Plan). IsAtLeastBound desk.conflicts c.causes x.budget) (sym same_plan)
      (subst (λ (x : ConflictGraph). IsAtLeastBound x c.causes plan.budget) (sym same_conflicts) bound));
}

-- ---- of how many candidates

said_tuples : (g : ConflictGraph) (p : Priority) (plan : Plan) (candidates : List Candidate) (said : List Said)
    → AllZip (IsSaidOf g p plan) candidates said → tuples_said said ≡ tuples_of candidates
said_tuples g p plan [] [] h = refl
said_tuples g p plan [] (s ∷ said) h = absurd h
said_tuples g p plan (c ∷ candidates) [] h = absurd h
said_tuples g p plan (c ∷ candidates) (s ∷ said) h =
    ap (λ (t : List ℕ). t ∷ tuples_said said) h.0.tuple ∙ ap (λ (ts : List (List ℕ)). c.tuple ∷ ts) (said_tuples g p plan candidates said h.1)

pub said_length : (g : ConflictGraph) (p : Priority) (plan : Plan) (candidates : List Candidate) (said : List Said)
    → AllZip (IsSaidOf g p plan) candidates said → length said ≡ length candidates
said_length g p plan [] [] h = refl
said_length g p plan [] (s ∷ said) h = absurd h
said_length g p plan (c ∷ candidates) [] h = absurd h
said_length g p plan (c ∷ candidates) (s ∷ said) h = ap (λ (n : ℕ). suc n) (said_length g p plan candidates said h.1)

pub answers_counted : (g : ConflictGraph) (p : Priority) (plan : Plan) (candidates : List Candidate) (s : Summary)
    → IsSummaryOver g p plan candidates s → s.answers ≡ length candidates
answers_counted g p plan candidates s (said, zip, of) = of.answers ∙ said_length g p plan candidates said zip

truth_to : (kb : Knowledge) (plan : Plan) (query : Query) (s : Said) (tuple : List ℕ) → s.tuple ≡ tuple
    → AreTrueVerdicts kb plan.repairs query tuple (record { brave = s.brave; ar = s.ar; iar = s.iar }) → (q : Question)
    → IsTrueVerdict (Holds kb plan.repairs query s.tuple q) (said_to q s)
truth_to kb plan query s tuple e w question.Brave = subst (λ (t : List ℕ). IsTrueVerdict (Holds kb plan.repairs query t question.Brave) s.brave) (sym e) w.brave
truth_to kb plan query s tuple e w question.Ar = subst (λ (t : List ℕ). IsTrueVerdict (Holds kb plan.repairs query t question.Ar) s.ar) (sym e) w.ar
truth_to kb plan query s tuple e w question.Iar = subst (λ (t : List ℕ). IsTrueVerdict (Holds kb plan.repairs query t question.Iar) s.iar) (sym e) w.iar

-- candidates in place
abbrev pub AreInPlace : Knowledge → Query → List Candidate → Type 0
AreInPlace kb query candidates = (c : Candidate) → Contains candidates c → FactsEntail kb Every query c.tuple × AreCauses kb query c.tuple c.causes

all_true : (kb : Knowledge) (g : ConflictGraph) (p : Priority) (plan : Plan) (query : Query) (q : Question) → IsPriorityOf kb plan.repairs p
    → (candidates : List Candidate) → AreInPlace kb query candidates → (said : List Said) → AllZip (IsSaidOf g p plan) candidates said
    → AllByRecursion (λ (x : Said). IsTrueVerdict (Holds kb plan.repairs query x.tuple q) (said_to q x)) said
all_true kb g p plan query q priority [] place [] h = tt
all_true kb g p plan query q priority [] place (s ∷ said) h = absurd h
all_true kb g p plan query q priority (c ∷ candidates) place [] h = absurd h
all_true kb g p plan query q priority (c ∷ candidates) place (s ∷ said) h =
    let here = place c (Contains-head c candidates) in (
      truth_to kb plan query s c.tuple h.0.tuple (h.0.truth kb query priority here.0 here.1) q,
      all_true kb g p plan query q priority candidates (λ d m. place d (Contains-later c candidates d m)) said h.1,
    )

-- each count of yes is related to the candidates for which the question holds
pub holding_counted : (kb : Knowledge) (g : ConflictGraph) (p : Priority) (plan : Plan) (query : Query) (candidates : List Candidate) (s : Summary)
    → IsPriorityOf kb plan.repairs p → AreInPlace kb query candidates → IsSummaryOver g p plan candidates s
    → CountsHolding kb plan.repairs query candidates s
holding_counted kb g p plan query candidates s priority place (said, zip, of) q test tells =
    let counted = said_counted kb plan.repairs query q said
    (All-from_recursion (λ (x : Said). IsTrueVerdict (Holds kb plan.repairs query x.tuple q) (said_to q x)) said
    (all_true kb g p plan query q priority candidates place said zip)) test tells in
    let same = ap (λ (ts : List (List ℕ)). count_passing test ts) (said_tuples g p plan candidates said zip) in
    let yes = of.yes q in
    let open_ones = of.undecided in
    (omega (arith, counted.0, same, yes), omega (arith, counted.1, same, yes, open_ones))

-- ---- those left open

closed_one : (v : Verdict) → IsDecided v → is_undecided v ≡ false
closed_one verdict.Yes d = refl
closed_one verdict.No d = refl
closed_one verdict.Undecided d = absurd d

none_open : (b a i : Verdict) → IsDecided b → IsDecided a → IsDecided i → any_open b a i ≡ false
none_open b a i x y z =
    ap (λ (t : Bool). t || (is_undecided a || is_undecided i)) (closed_one b x)
    ∙ (ap (λ (t : Bool). t || is_undecided i) (closed_one a y) ∙ closed_one i z)

open_step : (b t : Bool) (n m : ℕ) → (b ≡ true → t ≡ true) → n ≤ m → (if b then suc n else n) ≤ (if t then suc m else m)
open_step true true n m h l = omega (arith, l)
open_step false true n m h l = omega (arith, l)
open_step false false n m h l = l
open_step true false n m h l = absurd (true≢false (sym (h refl)))

length_if : {X : Type 0} (b : Bool) (x : X) (xs : List X) → length (cond b (x ∷ xs) xs) ≡ (if b then suc (length xs) else length xs)
length_if true x xs = refl
length_if false x xs = refl

-- a test that passes each candidate with an open verdict
open_counted : (test : Candidate → Bool) (candidates : List Candidate) (said : List Said)
    → AllZip (λ (c : Candidate) (s : Said). any_open s.brave s.ar s.iar ≡ true → test c ≡ true) candidates said → count_said any_open said ≤ length
    (filter test candidates)
open_counted test [] [] h = omega arith
open_counted test [] (s ∷ said) h = absurd h
open_counted test (c ∷ candidates) [] h = absurd h
open_counted test (c ∷ candidates) (s ∷ said) h =
    let step = open_step (any_open s.brave s.ar s.iar) (test c) (count_said any_open said) (length (filter test candidates)) h.0
    (open_counted test candidates said h.1) in
    let left = length_if (any_open s.brave s.ar s.iar) s (filter (λ (x : Said). any_open x.brave x.ar x.iar) said) in
    let right = length_if (test c) c (filter test candidates) in
    omega (arith, step, left, right)

zip_weaker : (g : ConflictGraph) (p : Priority) (plan : Plan) (test : Candidate → Bool) (candidates : List Candidate) (said : List Said)
    → AllZip (IsSaidOf g p plan) candidates said
    → ((c : Candidate) (s : Said) → Contains candidates c → IsSaidOf g p plan c s → any_open s.brave s.ar s.iar ≡ true → test c ≡ true)
    → AllZip (λ (c : Candidate) (s : Said). any_open s.brave s.ar s.iar ≡ true → test c ≡ true) candidates said
zip_weaker g p plan test [] [] h each = tt
zip_weaker g p plan test [] (s ∷ said) h each = absurd h
zip_weaker g p plan test (c ∷ candidates) [] h each = absurd h
zip_weaker g p plan test (c ∷ candidates) (s ∷ said) h each =
    (each c s (Contains-head c candidates) h.0, zip_weaker g p plan test candidates said h.1 (λ d r m. each d r (Contains-later c candidates d m)))

-- those whose bound is above the budget
pub open_above : (g : ConflictGraph) (p : Priority) (plan : Plan) (candidates : List Candidate) (s : Summary)
    → ((c : Candidate) → Contains candidates c → (facts : List ℕ) × AreBoundFacts g c.causes facts) → IsSummaryOver g p plan candidates s
    → OpenAboveBudget g plan.budget candidates s
open_above g p plan candidates s bounds (said, zip, of) test passes =
    let counted = open_counted test candidates said (zip_weaker g p plan test candidates said zip by) in
    omega (arith, counted, of.undecided)
  where
    by : (c : Candidate) (x : Said) → Contains candidates c → IsSaidOf g p plan c x → any_open x.brave x.ar x.iar ≡ true → test c ≡ true
    by c x m w o =
        let (facts, are) = bounds c m in
        elim (cases_lt plan.budget (3 ^ suc (length facts))) [
          | inl above ↦ passes c facts m are above
          | inr within ↦ (let d = w.by_budget (facts, are, within) in
              absurd (true≢false (sym o ∙ none_open x.brave x.ar x.iar d.0 d.1 d.2)))
        ]

-- over all repairs those with two causes or more
pub open_of_many : (g : ConflictGraph) (p : Priority) (plan : Plan) (candidates : List Candidate) (s : Summary) → plan.repairs ≡ mode.All
    → IsSummaryOver g p plan candidates s → OpenOfManyCauses candidates s
open_of_many g p plan candidates s in_all (said, zip, of) test passes =
    let counted = open_counted test candidates said (zip_weaker g p plan test candidates said zip by) in
    omega (arith, counted, of.undecided)
  where
    single : (causes : List (List ℕ)) → length causes < 2 → (a b : List ℕ) → Contains causes a → Contains causes b → a ≡ b
    single [] l a b m n = absurd (Contains-nil a m)
    single (x ∷ []) l a b m n = sym (only_one x a m) ∙ only_one x b n
    single (x ∷ y ∷ causes) l a b m n = absurd (omega arith)

    by : (c : Candidate) (x : Said) → Contains candidates c → IsSaidOf g p plan c x → any_open x.brave x.ar x.iar ≡ true → test c ≡ true
    by c x m w o = elim (cases_lt (length c.causes) 2) [
      | inl few ↦ (let d = w.over_all in_all in
          absurd (true≢false (sym o ∙ none_open x.brave x.ar x.iar d.0 (d.2 (single c.causes few)) d.1)))
      | inr many ↦ passes c m many
    ]
