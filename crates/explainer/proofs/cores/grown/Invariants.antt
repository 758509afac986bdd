use Rattle.std.proofs.Common.{◌-◌}
use Rattle.explainer.proofs.CoreLemmas.{IsGrowing}
use Rattle.explainer.proofs.cores.grown.Given as goal

abbrev pub invariant-loop-next : goal.invariant-loop-next
invariant-loop-next l = IsGrowing l.better l.conflicts l.present l.start l.drop l.next l.core

abbrev pub decreases-loop-next : goal.decreases-loop-next
decreases-loop-next l = l.conflicts.facts - l.next
