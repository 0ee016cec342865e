use Rattle.std.proofs.Common.{◌≡◌, take}
use Rattle.text_tree.proofs.copied_exprs.+copies.Given as goal

abbrev pub invariant-copy_items-loop-item : goal.invariant-copy_items-loop-item
invariant-copy_items-loop-item l = l.copies.items ≡ take l.item-index l.items

abbrev pub invariant-copy_filters-loop-filter : goal.invariant-copy_filters-loop-filter
invariant-copy_filters-loop-filter l = l.copies.items ≡ take l.filter-index l.filters
