use Rattle.std.proofs.Common.{◌≡◌, take, map}
use Rattle.cq_steps.specs.Unifying.{term_under}
use Rattle.cq_steps.proofs.reduce_step.terms_under.Given as goal

-- the terms so far
abbrev pub invariant-loop-term : goal.invariant-loop-term
invariant-loop-term l = l.under.items ≡ map (term_under l.unified) (take l.term-index l.terms)
