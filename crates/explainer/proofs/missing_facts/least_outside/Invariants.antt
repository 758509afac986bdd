use Rattle.std.proofs.Common.{take}
use Rattle.explainer.specs.Missing.{IsLeastOrNone}
use Rattle.explainer.proofs.missing_facts.least_outside.Given as goal

abbrev pub invariant-loop-fact : goal.invariant-loop-fact
invariant-loop-fact l = IsLeastOrNone l.present (take l.fact-index l.cause) l.least
