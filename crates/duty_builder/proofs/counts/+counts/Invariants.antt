use Rattle.std.proofs.Common.{◌≡◌, ℕ, ◌+◌, length, map, drop}
use Rattle.type_schema.specs.Uses.{item_uses_of, filter_uses_of}
use Rattle.type_schema.specs.Views.{item_of, items_of, filter_of, filters_of}
use Rattle.duty_builder.proofs.counts.+counts.Given as goal

-- so many so far and those in what is left
abbrev pub invariant-count_items-loop-item : goal.invariant-count_items-loop-item
invariant-count_items-loop-item l =
    l.count + length (item_uses_of (items_of (map item_of (drop l.item-index l.items))))
    ≡ l.before + length (item_uses_of (items_of (map item_of l.items)))

abbrev pub invariant-count_filters-loop-filter : goal.invariant-count_filters-loop-filter
invariant-count_filters-loop-filter l =
    (m : ℕ) → l.count + length (filter_uses_of m (filters_of (map filter_of (drop l.filter-index l.filters))))
    ≡ l.before + length (filter_uses_of m (filters_of (map filter_of l.filters)))
