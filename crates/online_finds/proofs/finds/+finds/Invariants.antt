use Rattle.std.proofs.Common.{◌≡◌, ◌++◌, map, drop}
use Rattle.type_schema.specs.Views as view
use Rattle.online_meaning.specs.Finds as rule
use Rattle.online_finds.proofs.finds.+finds.Given as goal

-- the models so far and those in what is left
abbrev pub invariant-add_items-loop-item : goal.invariant-add_items-loop-item
invariant-add_items-loop-item l =
    l.found.items ++ rule.item_finds_of (view.items_of (map view.item_of (drop l.item-index l.items)))
    ≡ l.initial.found.items ++ rule.item_finds_of (view.items_of (map view.item_of l.items))

abbrev pub invariant-add_filters-loop-filter : goal.invariant-add_filters-loop-filter
invariant-add_filters-loop-filter l =
    l.found.items ++ rule.filter_finds_of (view.filters_of (map view.filter_of (drop l.filter-index l.filters)))
    ≡ l.initial.found.items ++ rule.filter_finds_of (view.filters_of (map view.filter_of l.filters))
