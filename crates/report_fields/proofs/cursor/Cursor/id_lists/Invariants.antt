use Rattle.std.proofs.Common.{◌<◌, ◌^◌, All}
use Rattle.report_fields.proofs.cursor.Cursor.id_lists.Given as goal

-- each number of each list so far is below 2^32
abbrev pub invariant-loop : goal.invariant-loop
invariant-loop l = All (λ list. All (λ n. n < 2 ^ 32) list) l.lists
