use Rattle.std.proofs.Common.{ℕ, take}
use Rattle.query_matching.specs.Bindings.{Agrees, HeadIs}
use Rattle.query_matching.proofs.whole.tuple_of.Given as goal

abbrev pub invariant-loop-term : goal.invariant-loop-term
invariant-loop-term l = (v : ℕ → ℕ) → Agrees l.bindings v → HeadIs v (take l.term-index l.head) l.tuple
