-- What is left to write, after what is written.
use Rattle.std.proofs.Common.{◌++◌, drop, map}
use Rattle.text_print.specs.Exprs.{commas, spelled_filter, spelled_item}
use Rattle.text_print.specs.Marks.{text_of_marks}
use Rattle.text_print.proofs.Loops.{IsWriting}
use Rattle.text_print.proofs.printer.Printer.+print.Given as goal

abbrev pub invariant-items-loop-item : goal.invariant-items-loop-item
invariant-items-loop-item l =
    IsWriting spelled_item (drop l.item-index l.items) l.before l.self (l.fn.self ++ text_of_marks (commas (map spelled_item l.fn.items)))

abbrev pub invariant-filters-loop-filter : goal.invariant-filters-loop-filter
invariant-filters-loop-filter l =
    IsWriting spelled_filter (drop l.filter-index l.filters) l.before l.self (l.fn.self ++ text_of_marks (commas (map spelled_filter l.fn.filters)))
