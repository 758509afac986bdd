use Rattle.std.proofs.Common.{◌≡◌, ◌++◌, drop, option_map}
use Rattle.serde_json.specs.View.{items_view}
use Rattle.report_fields.specs.Fields.{each_of, long_of}
use Rattle.report_fields.proofs.fields.longs_at.Given as goal

-- the numbers so far go before what the rest of the items gives
abbrev pub invariant-loop-item : goal.invariant-loop-item
invariant-loop-item l = each_of long_of (items_view l.items) ≡ option_map (λ rest. l.longs ++ rest) (each_of long_of (items_view (drop l.item-index l.items)))
