use Rattle.std.proofs.Common.{◌≡◌, ◌++◌, false, map, drop, string_bytes}
use Rattle.serde_json.specs.View.{items_of}
use Rattle.serde_json.specs.Written.{items_text}
use Rattle.report_fields.specs.Fields.{number_data}
use Rattle.report_fields.proofs.fields.put_longs.Given as goal

-- what is written so far, and the text of what is left
abbrev pub invariant-loop-long : goal.invariant-loop-long
invariant-loop-long l =
    string_bytes l.out ++ items_text l.later (items_of (map number_data (drop l.long-index l.longs))) ≡ string_bytes l.initial.out
    ++ items_text false (items_of (map number_data l.longs))
