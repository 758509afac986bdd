use Rattle.conflict_finder.specs.Images.{AreKeys}
use Rattle.conflict_finder.proofs.Turns.{IsPair}
use Rattle.conflict_finder.proofs.images.pairs_of.Given as goal

-- the keys are those of the hits so far
abbrev pub invariant-loop-hit : goal.invariant-loop-hit
invariant-loop-hit l = AreKeys (IsPair l.hits l.numbers l.hit-index) l.keys.items
