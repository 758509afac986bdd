use Rattle.std.proofs.Common.{◌≡◌, ℕ, length, take, Contains}
use Rattle.clause_meaning.specs.Marks.{HasMark}
use Rattle.rup_check.proofs.marks.unmark.Given as goal

abbrev pub invariant-loop-literal : goal.invariant-loop-literal
invariant-loop-literal l = record {
  same_length : length l.table ≡ length l.fn.table;
  gone : (k : ℕ) → HasMark l.table k → HasMark l.fn.table k × (Contains (take l.literal-index l.literals) k → ⊥);
}
