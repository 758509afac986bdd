use Rattle.std.proofs.Common.{◌≡◌, ◌++◌, drop, option_map}
use Rattle.serde_json.specs.View.{items_view}
use Rattle.report_fields.specs.Fields.{each_of}
use Rattle.report_fields.specs.Atoms.{term_of}
use Rattle.report_fields.proofs.atoms.terms_at.Given as goal

-- the terms so far go before what the rest of the items gives
abbrev pub invariant-loop-item : goal.invariant-loop-item
invariant-loop-item l = each_of term_of (items_view l.items)
    ≡ option_map (λ rest. l.terms.items ++ rest) (each_of term_of (items_view (drop l.item-index l.items)))
