-- What is left to write, after what is written.
use Rattle.std.proofs.Common.{◌++◌, drop}
use Rattle.std.specs.List.{flat_map}
use Rattle.text_print.specs.Marks.{escape}
use Rattle.text_print.proofs.Loops.{AreLeft}
use Rattle.text_print.proofs.printer.Printer.escape_each.Given as goal

abbrev pub invariant-loop-byte : goal.invariant-loop-byte
invariant-loop-byte l = AreLeft escape (drop l.byte-index l.bytes) l.self (l.fn.self ++ flat_map escape l.fn.bytes)
