use Rattle.std.proofs.Common.{take}
use Rattle.explainer.specs.Missing.{AreLeastOf}
use Rattle.explainer.proofs.missing_facts.missing.Given as goal

abbrev pub invariant-loop-cause : goal.invariant-loop-cause
invariant-loop-cause l = AreLeastOf (take l.cause-index l.cause-items) l.present l.facts.items
