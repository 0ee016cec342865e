use Rattle.std.proofs.Common.{◌≡◌, ◌++◌, map, drop}
use Rattle.type_schema.specs.Views as view
use Rattle.type_schema.specs.Uses as rule
use Rattle.duty_listing.specs.Uses.{use_data}
use Rattle.duty_listing.proofs.uses.+uses.Given as goal

-- the uses so far and those in what is left
abbrev pub invariant-add_items-loop-item : goal.invariant-add_items-loop-item
invariant-add_items-loop-item l =
    map use_data l.uses.items ++ rule.item_uses_of (view.items_of (map view.item_of (drop l.item-index l.items)))
    ≡ map use_data l.initial.uses.items ++ rule.item_uses_of (view.items_of (map view.item_of l.items))

abbrev pub invariant-add_filters-loop-filter : goal.invariant-add_filters-loop-filter
invariant-add_filters-loop-filter l =
    map use_data l.uses.items ++ rule.filter_uses_of l.m (view.filters_of (map view.filter_of (drop l.filter-index l.filters)))
    ≡ map use_data l.initial.uses.items ++ rule.filter_uses_of l.m (view.filters_of (map view.filter_of l.filters))
