use Rattle.std.proofs.Common.{rules}
use Rattle.std.proofs.lemmas.List.Filters.{dedup_is}
use Rattle.std.proofs.lemmas.List.Sorted.{answers_always}
use Rattle.data_members.proofs.Orders.{cell_eq, cells-same, cells-tied, cells-total, set-left}
use Rattle.data_members.proofs.order.rising_cells.Goals as goal

-- the closure gives a cell's numbers
pub returns : goal.returns
returns c =
    let sorted = c.sort_unstable_by_key.new.self.items in
    set-left cells-total cells-tied cells-same c.args.cells.items sorted c.dedup.new.self.items c.sort_unstable_by_key.ensures.permutation
    (c.sort_unstable_by_key.ensures.sorted (λ cell. (cell.model, cell.id, cell.field)) (answers_always _ _ _ (λ f a r g called. search rules)))
    (dedup_is cell_eq sorted c.dedup.new.self.items c.dedup.ensures.filtered)
