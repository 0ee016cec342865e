use Rattle.std.proofs.Common.{map, drop}
use Rattle.type_schema.specs.Views as view
use Rattle.type_typing.specs.WellTyped as rule
use Rattle.type_proper.proofs.trees.+literals.Given as goal

-- where the literals of what is left are values, all are
abbrev pub invariant-read_filters-loop-filter : goal.invariant-read_filters-loop-filter
invariant-read_filters-loop-filter l =
    rule.FiltersHaveLiterals (view.filters_of (map view.filter_of (drop l.filter-index l.filters)))
    → rule.FiltersHaveLiterals (view.filters_of (map view.filter_of l.filters))

abbrev pub invariant-read_items-loop-item : goal.invariant-read_items-loop-item
invariant-read_items-loop-item l =
    rule.ItemsHaveLiterals (view.items_of (map view.item_of (drop l.item-index l.items)))
    → rule.ItemsHaveLiterals (view.items_of (map view.item_of l.items))
