use Rattle.std.proofs.Common.{◌≡◌, ◌++◌, false, map, drop, string_bytes}
use Rattle.serde_json.specs.View.{items_of}
use Rattle.serde_json.specs.Written.{items_text}
use Rattle.report_fields.specs.Atoms.{atom_data}
use Rattle.report_fields.proofs.atoms.put_atoms.Given as goal

-- what is written so far, and the text of what is left
abbrev pub invariant-loop-atom : goal.invariant-loop-atom
invariant-loop-atom l =
    string_bytes l.out ++ items_text l.later (items_of (map atom_data (drop l.atom-index l.atoms))) ≡ string_bytes l.initial.out
    ++ items_text false (items_of (map atom_data l.atoms))
