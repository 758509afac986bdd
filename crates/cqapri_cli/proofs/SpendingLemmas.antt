-- Questions are left open only after their whole budget was spent.
use Rattle.std.proofs.Common.{◌≡◌, ℕ, inl, inr, List, [], ◌∷◌, Option, Some, None, subst}
use Rattle.report_text.specs.declared.line.How.TheVariants as how
use Rattle.report_text.specs.declared.line.Line.{Line}
use Rattle.report_text.specs.declared.line.Line.TheVariants as line
use Rattle.report_text.specs.declared.line.Question.{Question}
use Rattle.report_text.specs.declared.line.Question.TheVariants as question
use Rattle.report_text.specs.declared.line.Verdict.{Verdict}
use Rattle.report_text.specs.declared.line.Verdict.TheVariants as verdict
use Rattle.report_rules.specs.Accepted.{AreRight}
use Rattle.report_rules.specs.Evidence.{IsSpent, IsVerdict}
use Rattle.report_rules.specs.Inputs.{Input}
use Rattle.report_rules.specs.Live.{learned_for}
use Rattle.report_rules.specs.Rules.{AnswerIsRight}
use Rattle.report_rules.specs.Told.{budget_of}
use Rattle.report_rules.specs.Tries.{Ended, question_of}
use Rattle.report_rules.specs.TryRules.{DoneIsRight, SpentIsRight}
use Rattle.cqapri_cli.specs.Spending.{IsOpenWhenSpent, IsSpentTry, SpendBudgets, SpendsBudget}

-- a right `done` line that says so tells that the budget was spent
spent_try : (input : Input) (b : List Line) (q : Question) → question_of b ≡ q → SpentIsRight input b → IsSpentTry input b q
spent_try input b q asked w = record {
  asked = asked;
  budget = subst (λ x. learned_for x b ≡ budget_of b) asked w.budget;
  stands = w.not_refuted;
}

-- and it is then of the kind that the word wants
spent_done : (input : Input) (b : List Line) (core : Option ℕ) → DoneIsRight input b how.Spent core → SpentIsRight input b
spent_done input b None w = w
spent_done input b (Some n) w = absurd w

-- a try that ended spent has spent the budget of its question
spends : (input : Input) (before : List Line) → AreRight input before → (q : Question) (assume : List ℕ) → Ended q assume how.Spent before
    → SpendsBudget input before q
spends input [] r q assume e = absurd e
spends input (line.Ask candidate tuple causes members ∷ b) r q assume e = absurd e
spends input (line.Done how.Spent core ∷ b) (r, rs) q assume (inl (asked, same, is)) = inl (spent_try input b q asked (spent_done input b core r.own))
spends input (line.Done how.Refuted core ∷ b) (r, rs) q assume (inl (asked, same, is)) = absurd (let kind = is in cc)
spends input (line.Done how.Model core ∷ b) (r, rs) q assume (inl (asked, same, is)) = absurd (let kind = is in cc)
spends input (line.Done how.Spent core ∷ b) (r, rs) q assume (inr e) = inr (spends input b rs q assume e)
spends input (line.Done how.Refuted core ∷ b) (r, rs) q assume (inr e) = spends input b rs q assume e
spends input (line.Done how.Model core ∷ b) (r, rs) q assume (inr e) = spends input b rs q assume e
spends input (line.Head axioms budget facts keep repairs version ∷ b) (r, rs) q assume e = spends input b rs q assume e
spends input (line.Cq o query step ∷ b) (r, rs) q assume e = spends input b rs q assume e
spends input (line.Conflict facts rule member ∷ b) (r, rs) q assume e = spends input b rs q assume e
spends input (line.Try question assumes ∷ b) (r, rs) q assume e = spends input b rs q assume e
spends input (line.Learn number clause ∷ b) (r, rs) q assume e = spends input b rs q assume e
spends input (line.Core number kept dropped ∷ b) (r, rs) q assume e = spends input b rs q assume e
spends input (line.Forget clauses ∷ b) (r, rs) q assume e = spends input b rs q assume e
spends input (line.Answer brave ar iar cores names tuple ∷ b) (r, rs) q assume e = spends input b rs q assume e
spends input (line.End answers brave ar iar undecided ∷ b) (r, rs) q assume e = spends input b rs q assume e

-- the tries of a question that is left open
spent_of : (input : Input) (b : List Line) (cores : List ℕ) (q : Question) (said : Verdict) → IsVerdict input.kb b cores q said
    → said ≡ verdict.Undecided → IsSpent input.kb b cores q
spent_of input b cores q verdict.Undecided w e = w.1
spent_of input b cores q verdict.Yes w e = absurd (let kind = e in cc)
spent_of input b cores q verdict.No w e = absurd (let kind = e in cc)

-- an answer that leaves a question open has spent its budget
answer_spends : (input : Input) (b : List Line) → AreRight input b → (brave ar iar : Verdict) (cores : List ℕ) (names : List (List ℕ)) (tuple : List ℕ)
    → AnswerIsRight input b brave ar iar cores names tuple
    → IsOpenWhenSpent input b (line.Answer brave ar iar cores names tuple)
answer_spends input b rs brave ar iar cores names tuple w = (
  (λ e. let tries = spent_of input b cores question.Brave brave w.brave_is e in spends input b rs question.Brave _ tries.1.2),
  (λ e. spends input b rs question.Ar _ (spent_of input b cores question.Ar ar w.ar_is e)),
  (λ e. let tries = spent_of input b cores question.Iar iar w.iar_is e in spends input b rs question.Iar _ tries.1.1),
)

pub right_lines_spend : (input : Input) (before : List Line) → AreRight input before → SpendBudgets input before
right_lines_spend input [] r = tt
right_lines_spend input (line.Answer brave ar iar cores names tuple ∷ b) (r, rs) =
    (answer_spends input b rs brave ar iar cores names tuple r.own, right_lines_spend input b rs)
right_lines_spend input (line.Head axioms budget facts keep repairs version ∷ b) (r, rs) = (tt, right_lines_spend input b rs)
right_lines_spend input (line.Cq o query step ∷ b) (r, rs) = (tt, right_lines_spend input b rs)
right_lines_spend input (line.Conflict facts rule member ∷ b) (r, rs) = (tt, right_lines_spend input b rs)
right_lines_spend input (line.Ask candidate tuple causes members ∷ b) (r, rs) = (tt, right_lines_spend input b rs)
right_lines_spend input (line.Try question assume ∷ b) (r, rs) = (tt, right_lines_spend input b rs)
right_lines_spend input (line.Learn number clause ∷ b) (r, rs) = (tt, right_lines_spend input b rs)
right_lines_spend input (line.Core number kept dropped ∷ b) (r, rs) = (tt, right_lines_spend input b rs)
right_lines_spend input (line.Done how core ∷ b) (r, rs) = (tt, right_lines_spend input b rs)
right_lines_spend input (line.Forget clauses ∷ b) (r, rs) = (tt, right_lines_spend input b rs)
right_lines_spend input (line.End answers brave ar iar undecided ∷ b) (r, rs) = (tt, right_lines_spend input b rs)
