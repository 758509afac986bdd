use Rattle.std.proofs.Common.{◌≡◌, ◌++◌, drop}
use Rattle.report_laws.specs.HitLaws.{negative_members}
use Rattle.report_parts.proofs.blocks.negative_queries.Given as goal

-- the queries so far stand before those of the blocks that are left
abbrev pub invariant-loop-block : goal.invariant-loop-block
invariant-loop-block l = negative_members l.blocks ≡ l.queries.items ++ negative_members (drop l.block-index l.blocks)
