use Rattle.std.proofs.Common.{◌≡◌, length}
use Rattle.rup_check.proofs.lists.Lists.new.Given as goal

abbrev pub invariant-loop : goal.invariant-loop
invariant-loop l = l.counter ≡ length l.by_literal.items
