-- Parts of the rules of lines over what is kept of the lines before.
use Rattle.std.specs.Prelude.{◌≡◌, ℕ, ◌+◌, ◌<◌, ◌≤◌, ◌/◌, List, length, filter, All, not, IsTrue}
use Rattle.cq_terms.specs.Knowledge.{Knowledge}
use Rattle.cq_terms.specs.Lists.{IsAscending}
use Rattle.clause_meaning.specs.Literals.{HaveDistinctVariables}
use Rattle.priority_graph.specs.Split.{has}
use Rattle.report_text.specs.declared.line.Question.TheVariants as question
use Rattle.report_text.specs.declared.line.Verdict.{Verdict}
use Rattle.report_laws.specs.AtStanding.{evidence_at}
use Rattle.report_laws.specs.ComponentLaws.{may_learn}
use Rattle.report_laws.specs.Settling.{is_verdict}
use Rattle.report_laws.specs.Standing.{Standing, learned_in}

-- many learned clauses live, and of these at least half as many as may live have other numbers
pub record LeavesEnough (s : Standing) (numbers : List ℕ) : Type 0 where
  pub many : s.keep < length s.learned
  pub stay : s.keep / 2 ≤ length (filter (λ c. not (has numbers c.number)) s.learned)

-- the clause has the next number, is within the budget, and has literals of these facts or the absent selector, each variable once
pub record MayHave (kb : Knowledge) (learnable : List ℕ) (s : Standing) (number : ℕ) (clause : List ℕ) : Type 0 where
  pub counts : number ≡ s.learn_lines
  pub in_budget : learned_in s s.question < s.budget
  pub not_empty : 0 < length clause
  pub ascending : IsAscending clause
  pub distinct : HaveDistinctVariables clause
  pub literals : All (λ l. IsTrue (may_learn (length kb.facts + s.asked.candidate) learnable l)) clause

-- ascending numbers of cores, with all that the tries of the answer name among them
pub record NamesCores (s : Standing) (cores : List ℕ) : Type 0 where
  pub ascending : IsAscending cores
  pub earlier : All (λ n. n < length s.cores) cores
  pub complete : All (λ n. IsTrue (has cores n)) s.named

-- the three verdicts are those that the answer has to have
pub record SaysSettled (kb : Knowledge) (s : Standing) (cores : List ℕ) (brave ar iar : Verdict) : Type 0 where
  pub brave_is : IsTrue (is_verdict (evidence_at kb s cores) question.Brave brave)
  pub ar_is : IsTrue (is_verdict (evidence_at kb s cores) question.Ar ar)
  pub iar_is : IsTrue (is_verdict (evidence_at kb s cores) question.Iar iar)
