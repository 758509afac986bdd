use Rattle.std.proofs.Common.{◌≡◌, take, map}
use Rattle.cq_meaning.specs.NormalForm.{map_atom}
use Rattle.cq_steps.specs.Unifying.{term_under}
use Rattle.cq_steps.proofs.reduce_step.atoms_under.Given as goal

-- the atoms so far
abbrev pub invariant-loop-atom : goal.invariant-loop-atom
invariant-loop-atom l = l.under.items ≡ map (map_atom (term_under l.unified)) (take l.atom-index l.atoms)
