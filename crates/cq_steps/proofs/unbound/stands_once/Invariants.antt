use Rattle.std.proofs.Common.{◌≡◌, ◌+◌, drop, if◌then◌else◌}
use Rattle.cq_meaning.specs.NormalForm.{times_in_body}
use Rattle.cq_steps.proofs.unbound.stands_once.Given as goal

-- the atoms so far have the variable once where it was seen, and else not at all
abbrev pub invariant-loop-atom : goal.invariant-loop-atom
invariant-loop-atom l = times_in_body l.variable l.body ≡ (if l.seen then 1 else 0) + times_in_body l.variable (drop l.atom-index l.body)
