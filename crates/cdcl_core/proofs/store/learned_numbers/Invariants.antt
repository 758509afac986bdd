use Rattle.std.proofs.Common.{◌≡◌, take}
use Rattle.cdcl_core.specs.Labels.{numbers_on}
use Rattle.cdcl_core.proofs.store.learned_numbers.Given as goal

abbrev pub invariant-loop-label : goal.invariant-loop-label
invariant-loop-label l = l.numbers ≡ numbers_on (take l.label-index l.labels)
