use Rattle.std.proofs.Common.{◌≡◌, map, drop}
use Rattle.type_typing.specs.Names.{plain_of}
use Rattle.type_typing.specs.Exprs.{typed_item, typed_items, typed_filter, typed_filters}
use Rattle.type_typing.specs.Outcome.{checked_from}
use Rattle.type_typing.proofs.exprs.+typing.Given as goal

-- the items so far, and then those that are left, are all
abbrev pub invariant-typed_items-loop-item : goal.invariant-typed_items-loop-item
invariant-typed_items-loop-item l =
    checked_from l.typed.items (map (typed_item (plain_of l.schema) l.vars l.content) (drop l.item-index l.items)) ≡ typed_items (plain_of l.schema) l.vars l.content l.items

abbrev pub invariant-typed_filters-loop-filter : goal.invariant-typed_filters-loop-filter
invariant-typed_filters-loop-filter l =
    checked_from l.typed.items (map (typed_filter (plain_of l.schema) l.vars l.model) (drop l.filter-index l.filters)) ≡ typed_filters (plain_of l.schema) l.vars l.model l.filters
