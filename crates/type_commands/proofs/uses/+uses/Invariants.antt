use Rattle.std.proofs.Common.{◌≡◌, map, drop}
use Rattle.type_schema.specs.Views as view
use Rattle.type_commands.specs.Users as rule
use Rattle.type_commands.proofs.uses.+uses.Given as goal

-- whether the items use the thing is settled by those that are left
abbrev pub invariant-items_use-loop-item : goal.invariant-items_use-loop-item
invariant-items_use-loop-item l =
    rule.items_use l.thing (view.items_of (map view.item_of (drop l.item-index l.items))) ≡ rule.items_use l.thing (view.items_of (map view.item_of l.items))

abbrev pub invariant-filters_use-loop-filter : goal.invariant-filters_use-loop-filter
invariant-filters_use-loop-filter l =
    rule.filters_use l.thing l.model (view.filters_of (map view.filter_of (drop l.filter-index l.filters)))
    ≡ rule.filters_use l.thing l.model (view.filters_of (map view.filter_of l.filters))
