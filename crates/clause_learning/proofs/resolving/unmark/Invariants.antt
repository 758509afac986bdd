use Rattle.std.proofs.Common.{◌≡◌, ℕ, length, take, Contains}
use Rattle.clause_meaning.specs.Marks.{HasMark}
use Rattle.clause_learning.proofs.resolving.unmark.Given as goal

abbrev pub invariant-loop-literal : goal.invariant-loop-literal
invariant-loop-literal l = record {
  same_length : length l.marks ≡ length l.fn.marks;
  stays : (k : ℕ) → HasMark l.marks k → HasMark l.fn.marks k;
  gone : (k : ℕ) → HasMark l.marks k → Contains (take l.literal-index l.touched) k → ⊥;
}
