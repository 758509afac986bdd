-- The laws by which a reader finds out the query's block and which literals a learned clause may have.
use Rattle.std.specs.Prelude.{◌≡◌, ◌↔◌, ◌==◌, ◌||◌, ℕ, List, Bool, IsTrue}
use Rattle.cq_terms.specs.Knowledge.{Knowledge}
use Rattle.cq_meaning.specs.Rewriting.{IsClosure}
use Rattle.clause_meaning.specs.Literals.{variable_of}
use Rattle.priority_graph.specs.Split.{has}
use Rattle.repair_clauses.specs.BaseClauses.{absent}
use Rattle.report_text.specs.declared.line.Line.{Line}
use Rattle.report_text.specs.declared.line.Origin.TheVariants as origin
use Rattle.report_rules.specs.Inputs.{Input, OneQuery, selector_of}
use Rattle.report_rules.specs.ConflictLists.{AreConflictFacts}
use Rattle.report_rules.specs.Told.{query_of, block_of}
use Rattle.report_rules.specs.Tries.{Asked}
use Rattle.report_rules.specs.TryRules.{MayLearn}
use Rattle.report_rules.specs.Accepted.{AreRight}
use Rattle.report_laws.specs.HitLaws.{OverAndClosed}

-- in a report on one query, where the blocks are over and the last is closed, the query's block is the closure of the query
abbrev pub QueryBlockStands : Type 0
QueryBlockStands = (input : Input) (before : List Line) → AreRight input before → input.form ≡ OneQuery → OverAndClosed input before
    → IsClosure input.kb.axioms (query_of input before) (block_of origin.Query before)

-- whether a learned clause may have the literal
abbrev pub may_learn : ℕ → List ℕ → ℕ → Bool
may_learn selector facts l = has facts (variable_of l) || l == absent selector

-- the test tells it, over the facts in conflicts of the candidate's components
abbrev pub LearnableIsTold : Type 0
LearnableIsTold = (kb : Knowledge) (a : Asked) (facts : List ℕ) → AreConflictFacts kb a.causes facts → (l : ℕ)
    → IsTrue (may_learn (selector_of kb a.candidate) facts l) ↔ MayLearn kb a l

-- the laws of components
pub record LawsOfComponents : Type 0 where
  pub query_block : QueryBlockStands
  pub told : LearnableIsTold
