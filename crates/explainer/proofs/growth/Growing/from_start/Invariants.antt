use Rattle.std.proofs.Common.{ℕ, ◌↔◌, Contains, take}
use Rattle.explainer.proofs.growth.Growing.from_start.Given as goal

abbrev pub invariant-loop-fact : goal.invariant-loop-fact
invariant-loop-fact l = (i : ℕ) → Contains l.kept i ↔ Contains (take l.fact-index l.start) i
