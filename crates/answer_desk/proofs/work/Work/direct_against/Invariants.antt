use Rattle.std.proofs.Common.{ℕ, ◌<◌, [], ◌∷◌, Contains, get_or}
use Rattle.priority_graph.specs.Cores.{IsCore, ConflictsWith}
use Rattle.answer_desk.proofs.work.Work.direct_against.Given as goal

abbrev pub invariant-loop-rival : goal.invariant-loop-rival
invariant-loop-rival l =
    (k : ℕ) → k < l.rival-index → ¬ IsCore l.self.better.now (Contains (get_or l.rival-items k 0 ∷ [])) (ConflictsWith l.self.better.now
    (get_or l.rival-items k 0 ∷ []))
