use Rattle.conflict_finder.proofs.images.candidates.Given as goal

-- nothing has to be kept
abbrev pub invariant-loop-atom : goal.invariant-loop-atom
invariant-loop-atom l = Unit {0}
