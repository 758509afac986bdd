-- An accepted report decides each answer for which its budget is large enough.
use Rattle.std.proofs.Common.{◌≡◌, ℕ, suc, ◌≤◌, ◌^◌, inl, inr, List, ◌∷◌, length, All, sym, subst, ap}
use Rattle.std.specs.Prelude.{reverse}
use Rattle.cq_terms.specs.Knowledge.{Knowledge}
use Rattle.cq_terms.specs.Query.{Query}
use Rattle.cq_meaning.specs.Candidates.{AreCauses}
use Rattle.cq_meaning.proofs.Members.{Contains-head, Contains-later}
use Rattle.cq_meaning.proofs.Ascending.{All-of}
use Rattle.report_text.specs.declared.line.Line.{Line}
use Rattle.report_text.specs.declared.line.Line.TheVariants as line
use Rattle.report_text.specs.declared.line.Question.{Question}
use Rattle.report_text.specs.declared.line.Question.TheVariants as question
use Rattle.report_text.specs.declared.line.Verdict.{Verdict}
use Rattle.report_text.specs.declared.line.Verdict.TheVariants as verdict
use Rattle.report_rules.specs.Inputs.{Input, report_on, selector_of}
use Rattle.report_rules.specs.ConflictLists.{AreConflictFacts}
use Rattle.report_rules.specs.Order.{place_of, is_answering}
use Rattle.report_rules.specs.Told.{query_of, budget_of}
use Rattle.report_rules.specs.Tries.{asked, Asked}
use Rattle.report_rules.specs.Evidence.{IsVerdict}
use Rattle.report_rules.specs.Accepted.{Accepts}
use Rattle.report_laws.specs.OpenAnswers.{IsRightAnswer}
use Rattle.report_laws.specs.Readings.{IsDecided}
use Rattle.report_laws.specs.Deciding.{budget_told, IsDecidedByBudget}
use Rattle.report_laws.proofs.ListLemmas.{Contains-reverse}
use Rattle.report_laws.proofs.CauseLemmas.{same_causes}
use Rattle.report_laws.proofs.HeldLemmas.{opens_rightly}
use Rattle.report_laws.proofs.AnswerLemmas.{AnswersAt, answers_at}
use Rattle.report_laws.proofs.TruthLemmas.{one_query, in_answer}
use Rattle.report_laws.proofs.CountLemmas.{Covers, no_verdict_open}

-- the facts in conflicts, and the selector, are the variables of learned clauses
covered : (kb : Knowledge) (a : Asked) (facts : List ℕ) → AreConflictFacts kb a.causes facts → Covers kb (selector_of kb a.candidate ∷ facts) a
covered kb a facts f l (inl (i, of, conflict, inside)) = (i, Contains-later (selector_of kb a.candidate) facts i ((f.exact i).1 (conflict, inside)), of)
covered kb a facts f l (inr e) = (selector_of kb a.candidate, Contains-head (selector_of kb a.candidate) facts, inr e)

-- an open answer decides what its budget is large enough for
pub open_decided : (input : Input) (b : List Line) → IsRightAnswer input b → (facts : List ℕ) → AreConflictFacts input.kb (asked b).causes facts
    → 3 ^ suc (length facts) ≤ budget_of b → (cores : List ℕ) (q : Question) (said : Verdict) → IsVerdict input.kb b cores q said → IsDecided said
open_decided input b r facts f large cores q verdict.Yes s = tt
open_decided input b r facts f large cores q verdict.No s = tt
open_decided input b r facts f large cores q verdict.Undecided s =
    absurd (no_verdict_open input (selector_of input.kb (asked b).candidate ∷ facts) b r (covered input.kb (asked b) facts f) large cores q s.1)

-- two lists of all causes have the same facts in conflicts of their components
same_facts : (kb : Knowledge) (q : Query) (tuple : List ℕ) (causes others : List (List ℕ)) (facts : List ℕ) → AreCauses kb q tuple causes
    → AreCauses kb q tuple others → AreConflictFacts kb causes facts → AreConflictFacts kb others facts
same_facts kb q tuple causes others facts u w f = record {
  ascending = f.ascending;
  exact = λ i. (
    (λ m. let (c, (cause, k, n, h, j, linked)) = (f.exact i).0 m in (c, (cause, k, n, same_causes kb q tuple causes others u w cause h, j, linked))),
    (λ (c, (cause, k, n, h, j, linked)). (f.exact i).1 (c, (cause, k, n, same_causes kb q tuple others causes w u cause h, j, linked))),
  );
}

line_decided : (kb : Knowledge) (names : List (List ℕ)) (q : Query) (before : List Line) (l : Line) → AnswersAt (report_on kb names q) before l
    → IsDecidedByBudget kb q (budget_of before) l
line_decided kb names q before (line.Answer brave ar iar cores texts tuple) w = λ causes facts v f large.
    let input : Input = report_on kb names q in
    let h = opens_rightly input w.earlier w.right (ap is_answering w.at) in
    let same : query_of input w.earlier ≡ q = one_query kb names q w.earlier w.right (λ e. in_answer (place_of w.earlier) w.at e) in
    let budget : 3 ^ suc (length facts) ≤ budget_of w.earlier = subst (λ n. 3 ^ suc (length facts) ≤ n) (sym w.same_budget) large in
    let u : AreCauses kb (query_of input w.earlier) (asked w.earlier).tuple causes =
    subst (λ p. AreCauses kb p (asked w.earlier).tuple causes) (sym same) (subst (λ t. AreCauses kb q t causes) w.own.same_tuple v) in
    let f' : AreConflictFacts kb (asked w.earlier).causes facts =
    same_facts kb (query_of input w.earlier) (asked w.earlier).tuple causes (asked w.earlier).causes facts u h.1.in_place.causes_are f in (
      open_decided input w.earlier h.0 facts f' budget cores question.Brave brave w.own.brave_is,
      open_decided input w.earlier h.0 facts f' budget cores question.Ar ar w.own.ar_is,
      open_decided input w.earlier h.0 facts f' budget cores question.Iar iar w.own.iar_is,
    )
line_decided kb names q before (line.Head axioms budget facts keep repairs version) w = tt
line_decided kb names q before (line.Cq o query step) w = tt
line_decided kb names q before (line.Conflict facts rule member) w = tt
line_decided kb names q before (line.Ask candidate tuple causes members) w = tt
line_decided kb names q before (line.Try question assume) w = tt
line_decided kb names q before (line.Learn number clause) w = tt
line_decided kb names q before (line.Core number kept dropped) w = tt
line_decided kb names q before (line.Done how core) w = tt
line_decided kb names q before (line.Forget clauses) w = tt
line_decided kb names q before (line.End answers brave ar iar undecided) w = tt

-- an accepted report decides what its budget is large enough for
pub large_budget_decides : (kb : Knowledge) (names : List (List ℕ)) (q : Query) (lines : List Line) → Accepts kb names q lines
    → All (IsDecidedByBudget kb q (budget_told lines)) lines
large_budget_decides kb names q lines w =
    All-of (IsDecidedByBudget kb q (budget_told lines)) lines (λ l m. line_decided kb names q (reverse lines) l
    (answers_at (report_on kb names q) (reverse lines) w.right l (Contains-reverse lines l m)))
