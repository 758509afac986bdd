use Rattle.std.proofs.Common.{ℕ, List, Bool, ◌↔◌}
use Rattle.std.specs.Prelude.{IsTrue}
use Rattle.std.proofs.lemmas.Result.{IfOk-weaker}
use Rattle.cq_terms.specs.Knowledge.{Knowledge}
use Rattle.cq_meaning.specs.ConflictGraphs.{AreConflictsOf}
use Rattle.priority_graph.specs.Inputs.{IsPriorityOf}
use Rattle.report_laws.specs.AtStanding.{SpentAt, DoneAt}
use Rattle.plain_finding.specs.Kept.{HasLive}
use Rattle.report_standing.proofs.DoneLemmas.{done_spent, done_model}
use Rattle.report_standing.proofs.standing.Standing.is_right_done.Goals as goal

pub returns-in-Spent-None-clause-exact : goal.returns-in-Spent-None-clause-exact
returns-in-Spent-None-clause-exact c =
    IfOk-weaker c.is_spent_try.result
    (λ (right : Bool). (kb : Knowledge) (live : List (List ℕ)) → HasLive c.args.clauses.now live → AreConflictsOf kb c.args.conflicts.now
    → IsPriorityOf kb c.args.self.now.repairs c.args.better.now → IsTrue right ↔ SpentAt kb live c.args.self.now)
    (λ (right : Bool). (kb : Knowledge) (live : List (List ℕ)) → HasLive c.args.clauses.now live → AreConflictsOf kb c.args.conflicts.now
    → IsPriorityOf kb c.args.self.now.repairs c.args.better.now → IsTrue right ↔ DoneAt kb live c.args.self.now c.args.how c.args.core)
    (λ right h kb live has of pr. done_spent kb live c.args.self.now c.args.how c.args.core right
    c.in-Spent-None.is-0 c.in-Spent-None.is-1 (h kb live has of pr)) c.is_spent_try.ensures.exact

pub returns-in-Model-Some-clause-exact : goal.returns-in-Model-Some-clause-exact
returns-in-Model-Some-clause-exact c = λ kb live has of pr. done_model kb live c.args.self.now c.args.how c.args.core c.in-Model-Some.number
    c.is_model.result c.in-Model-Some.is-0 c.in-Model-Some.is-1 (c.is_model.ensures.exact kb)
