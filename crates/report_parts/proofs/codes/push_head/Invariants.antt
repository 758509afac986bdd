use Rattle.std.proofs.Common.{◌≡◌, ℕ, List, ◌++◌, drop}
use Rattle.report_parts.specs.Codes.{head_code}
use Rattle.report_parts.proofs.codes.push_head.Given as goal

-- the terms so far stand before those that are left
abbrev pub invariant-loop-term : goal.invariant-loop-term
invariant-loop-term l = (rest : List ℕ) → l.fn.words.items ++ head_code l.head rest ≡ l.words.items ++ head_code (drop l.term-index l.head) rest
