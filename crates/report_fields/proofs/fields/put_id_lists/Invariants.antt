use Rattle.std.proofs.Common.{◌≡◌, ◌++◌, false, map, drop, string_bytes}
use Rattle.serde_json.specs.View.{items_of}
use Rattle.serde_json.specs.Written.{items_text}
use Rattle.report_fields.specs.Fields.{numbers_data}
use Rattle.report_fields.proofs.fields.put_id_lists.Given as goal

-- what is written so far, and the text of what is left
abbrev pub invariant-loop-list : goal.invariant-loop-list
invariant-loop-list l =
    string_bytes l.out ++ items_text l.later (items_of (map numbers_data (drop l.list-index l.lists))) ≡ string_bytes l.initial.out
    ++ items_text false (items_of (map numbers_data l.lists))
