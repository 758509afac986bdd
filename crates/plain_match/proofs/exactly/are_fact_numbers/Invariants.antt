use Rattle.std.proofs.Common.{◌≡◌, ◌+◌, ◌-◌, ℕ, ◌<◌, ◌⊎◌, get_or}
use Rattle.plain_match.proofs.exactly.are_fact_numbers.Given as goal

abbrev pub invariant-loop-number : goal.invariant-loop-number
invariant-loop-number l = record {
  ascending : (i j : ℕ) → i < j → j < l.number-index → get_or l.numbers i 0 < get_or l.numbers j 0;
  within : (i : ℕ) → i < l.number-index → get_or l.numbers i 0 < l.facts;
  least : (i : ℕ) → i < l.number-index → get_or l.numbers i 0 < l.least;
  last : ((l.number-index ≡ 0) × (l.least ≡ 0)) ⊎ ((0 < l.number-index) × (get_or l.numbers (l.number-index - 1) 0 + 1 ≡ l.least));
}
