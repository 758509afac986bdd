use Rattle.std.proofs.Common.{◌≡◌, drop}
use Rattle.cq_meaning.specs.NormalForm.{times_in_head}
use Rattle.cq_steps.proofs.unbound.is_not_in_head.Given as goal

-- the terms so far don't have the variable
abbrev pub invariant-loop-term : goal.invariant-loop-term
invariant-loop-term l = times_in_head l.variable l.head ≡ times_in_head l.variable (drop l.term-index l.head)
