-- The names before are fields.
use Rattle.std.proofs.Common.{◌≡◌, ◌++◌, [], take, map, string_bytes}
use Rattle.csv.specs.Records.{fields_of, partial_of}
use Rattle.verdict_table.proofs.row.push_names.Given as goal

abbrev pub invariant-loop-name : goal.invariant-loop-name
invariant-loop-name l =
    (fields_of l.row ≡ fields_of l.initial.row ++ map string_bytes (take l.name-index l.names)) × (partial_of l.row ≡ [])
