use Rattle.std.proofs.Common.{◌≡◌, ℕ, List, Some, take}
use Rattle.std.specs.Prelude.{filter}
use Rattle.cdcl_core.specs.State.{value_in}
use Rattle.answer_desk.proofs.work.Work.present.Given as goal

abbrev pub invariant-loop-fact : goal.invariant-loop-fact
invariant-loop-fact l = (values : List ℕ) → l.self.solver.values ≡ Some values → l.present.items ≡ filter (value_in values) (take l.fact-index l.fact-items)
