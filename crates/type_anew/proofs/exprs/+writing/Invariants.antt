use Rattle.std.proofs.Common.{◌≡◌, ◌++◌, map, drop}
use Rattle.type_schema.specs.SchemaViews.{schema_of}
use Rattle.type_schema.specs.Views as view
use Rattle.type_anew.specs.Names.{names_in}
use Rattle.type_anew.specs.Trees as rule
use Rattle.type_anew.proofs.exprs.+writing.Given as goal

-- those written, and those that are left
abbrev pub invariant-written_items-loop-item : goal.invariant-written_items-loop-item
invariant-written_items-loop-item l =
    l.all.items ++ rule.written_items (names_in (schema_of l.s)) (view.items_of (map view.item_of (drop l.item-index l.items)))
    ≡ rule.written_items (names_in (schema_of l.s)) (view.items_of (map view.item_of l.items))

abbrev pub invariant-written_filters-loop-filter : goal.invariant-written_filters-loop-filter
invariant-written_filters-loop-filter l =
    l.all.items ++ rule.written_filters (names_in (schema_of l.s)) l.m (view.filters_of (map view.filter_of (drop l.filter-index l.filters)))
    ≡ rule.written_filters (names_in (schema_of l.s)) l.m (view.filters_of (map view.filter_of l.filters))
