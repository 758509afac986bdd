use Rattle.std.proofs.Common.{◌<◌, ◌^◌, All}
use Rattle.report_fields.proofs.cursor.Cursor.longs.Given as goal

-- each number so far is below 2^64
abbrev pub invariant-loop : goal.invariant-loop
invariant-loop l = All (λ n. n < 2 ^ 64) l.longs
