use Rattle.std.proofs.Common.{◌≡◌, ◌≢◌, ℕ, [], length, Contains, slice_index_or}
use Rattle.rup_check.proofs.lists.remove_by_literal.Given as goal

abbrev pub invariant-loop-literal : goal.invariant-loop-literal
invariant-loop-literal l = record {
  same_length : length l.lists ≡ length l.fn.lists;
  kept : (k n : ℕ) → n ≢ l.number → Contains (slice_index_or l.fn.lists k []) n → Contains (slice_index_or l.lists k []) n;
}
