use Rattle.std.proofs.Common.{◌≡◌, ◌++◌, false, map, drop, string_bytes}
use Rattle.serde_json.specs.View.{items_of}
use Rattle.serde_json.specs.Written.{items_text}
use Rattle.serde_json.specs.Data.{string}
use Rattle.report_fields.proofs.fields.put_texts.Given as goal

-- what is written so far, and the text of what is left
abbrev pub invariant-loop-text : goal.invariant-loop-text
invariant-loop-text l =
    string_bytes l.out ++ items_text l.later (items_of (map string (map string_bytes (drop l.text-index l.texts)))) ≡ string_bytes l.initial.out
    ++ items_text false (items_of (map string (map string_bytes l.texts)))
