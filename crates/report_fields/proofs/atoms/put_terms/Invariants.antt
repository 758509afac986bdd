use Rattle.std.proofs.Common.{◌≡◌, ◌++◌, false, map, drop, string_bytes}
use Rattle.serde_json.specs.View.{items_of}
use Rattle.serde_json.specs.Written.{items_text}
use Rattle.report_fields.specs.Atoms.{term_data}
use Rattle.report_fields.proofs.atoms.put_terms.Given as goal

-- what is written so far, and the text of what is left
abbrev pub invariant-loop-term : goal.invariant-loop-term
invariant-loop-term l =
    string_bytes l.out ++ items_text l.later (items_of (map term_data (drop l.term-index l.terms))) ≡ string_bytes l.initial.out
    ++ items_text false (items_of (map term_data l.terms))
