-- The live clauses in a checker keep step with the lines.
use Rattle.std.specs.Prelude.{List, ℕ, [], map, if◌then◌else◌}
use Rattle.cq_terms.specs.Knowledge.{Knowledge}
use Rattle.report_rules.specs.Live.{Learned}
use Rattle.report_rules.specs.Order.{is_answering}
use Rattle.report_laws.specs.LiveLists.{AreBaseClauses, cause_clauses}
use Rattle.report_laws.specs.Standing.{Standing}
use Rattle.plain_finding.specs.Kept.{Kept, Holds}

-- the clauses are the live ones of the lines so far: the base clauses, those of the open answer's causes, and the learned ones
pub record FollowsLines (kb : Knowledge) (s : Standing) (k : Kept) : Type 0 where
  pub base : List (List ℕ)
  pub are_base : AreBaseClauses kb s.repairs base
  pub holds : Holds k base (if is_answering s.place then cause_clauses kb s.asked else []) (map (λ (c : Learned). c.clause) s.learned)
