use Rattle.std.proofs.Common.{◌<◌, ◌^◌, All}
use Rattle.report_fields.proofs.cursor.Cursor.ids.Given as goal

-- each number so far is below 2^32
abbrev pub invariant-loop : goal.invariant-loop
invariant-loop l = All (λ n. n < 2 ^ 32) l.ids
