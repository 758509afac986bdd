use Rattle.std.proofs.Common.{◌≢◌, ◌↔◌, ℕ, List, Contains, take}
use Rattle.std.specs.List.{AllPairs}
use Rattle.repair_encoder.proofs.BaseLemmas.{IsBuilt}
use Rattle.repair_encoder.proofs.base.clauses_of_ascending.Given as goal

abbrev pub invariant-loop-fact : goal.invariant-loop-fact
invariant-loop-fact l = record {
  exact : (c : List ℕ) → Contains l.clauses c ↔ IsBuilt l.better l.conflicts (Contains (take l.fact-index l.facts)) c;
  once : AllPairs (λ (c : List ℕ) d. c ≢ d) l.clauses;
}
