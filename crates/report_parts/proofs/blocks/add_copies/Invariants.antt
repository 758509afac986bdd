use Rattle.std.proofs.Common.{◌≡◌, ◌++◌, take}
use Rattle.report_parts.proofs.blocks.add_copies.Given as goal

-- the first of the queries stand behind the old ones
abbrev pub invariant-loop-member : goal.invariant-loop-member
invariant-loop-member l = l.queries.items ≡ l.fn.queries.items ++ take l.member-index l.members
