use Rattle.std.proofs.Common.{◌≡◌, map, take}
use Rattle.repair_clauses.specs.CauseClauses.{cause_clause}
use Rattle.answer_desk.specs.Loading.{Loads}
use Rattle.answer_desk.proofs.work.Work.load_causes.Given as goal

abbrev pub invariant-loop-cause : goal.invariant-loop-cause
invariant-loop-cause l = Loads (map (cause_clause l.selector) (take l.cause-index l.causes)) l.initial.self.solver l.self.solver
    × (l.self ≡ record l.initial.self { solver = l.self.solver })
