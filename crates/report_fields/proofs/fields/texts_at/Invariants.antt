use Rattle.std.proofs.Common.{◌≡◌, ◌++◌, drop, option_map}
use Rattle.serde_json.specs.View.{items_view}
use Rattle.report_fields.specs.Fields.{each_of, text_in}
use Rattle.report_fields.proofs.fields.texts_at.Given as goal

-- the texts so far go before what the rest of the items gives
abbrev pub invariant-loop-item : goal.invariant-loop-item
invariant-loop-item l = each_of text_in (items_view l.items) ≡ option_map (λ rest. l.texts ++ rest) (each_of text_in (items_view (drop l.item-index l.items)))
