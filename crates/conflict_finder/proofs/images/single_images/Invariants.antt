use Rattle.conflict_finder.specs.Images.{AreKeys}
use Rattle.conflict_finder.proofs.Turns.{IsSingle}
use Rattle.conflict_finder.proofs.images.single_images.Given as goal

-- the keys are those of the candidates so far
abbrev pub invariant-loop-number : goal.invariant-loop-number
invariant-loop-number l = AreKeys (IsSingle l.index l.query l.number-items l.number-index) l.keys.items
