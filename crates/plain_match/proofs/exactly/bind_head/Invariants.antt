use Rattle.std.proofs.Common.{take, true}
use Rattle.query_matching.specs.Bindings.{HeadIs, Binds}
use Rattle.plain_match.specs.Endings.{NoVariable}
use Rattle.plain_match.proofs.exactly.bind_head.Given as goal

abbrev pub invariant-loop-place : goal.invariant-loop-place
invariant-loop-place l = Binds (λ v. HeadIs v (take l.place l.head) (take l.place l.tuple)) NoVariable l.initial.bindings.items l.bindings.items true
