use Rattle.std.proofs.Common.{◌≡◌, ℕ, [], length, take, Contains, slice_index_or}
use Rattle.rup_check.proofs.lists.put_by_literal.Given as goal

abbrev pub invariant-loop-literal : goal.invariant-loop-literal
invariant-loop-literal l = record {
  same_length : length l.lists ≡ length l.fn.lists;
  kept : (k n : ℕ) → Contains (slice_index_or l.fn.lists k []) n → Contains (slice_index_or l.lists k []) n;
  put : (k : ℕ) → Contains (take l.literal-index l.clause) k → Contains (slice_index_or l.lists k []) l.number;
}
