-- What the queries have to be of which a finder makes conflicts.
use Rattle.std.specs.Prelude.{◌≡◌, ℕ, List}
use Rattle.cq_terms.specs.Knowledge.{Knowledge}
use Rattle.cq_terms.specs.Query.{Query}
use Rattle.report_text.specs.declared.line.Line.{Line}
use Rattle.report_rules.specs.Inputs.{report_on}
use Rattle.report_rules.specs.Accepted.{AreRight}
use Rattle.report_laws.specs.HitLaws.{OverAndClosed, negative_members}
use Rattle.report_laws.specs.Standing.{blocks_of}

-- the queries are those of the blocks of all disjointnesses in right lines of some report, whose blocks are over, and the last of them closed
pub record TellConflicts (kb : Knowledge) (queries : List Query) : Type 0 where
  pub names : List (List ℕ)
  pub query : Query
  pub before : List Line
  pub right : AreRight (report_on kb names query) before
  pub over : OverAndClosed (report_on kb names query) before
  pub kept : queries ≡ negative_members (blocks_of before)
