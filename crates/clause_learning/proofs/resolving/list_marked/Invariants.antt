use Rattle.std.proofs.Common.{◌≡◌, ℕ, List, length, take, Contains}
use Rattle.clause_learning.specs.Marking.{Lists}
use Rattle.clause_learning.proofs.resolving.list_marked.Given as goal

abbrev pub invariant-loop-literal : goal.invariant-loop-literal
invariant-loop-literal l = record {
  same_length : length l.marks ≡ length l.fn.marks;
  lists : (done : List ℕ) × ((k : ℕ) → Contains (take l.literal-index l.touched) k → Contains done k) × Lists l.fn.marks done l.marks l.literals.items;
}
