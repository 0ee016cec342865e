use Rattle.std.proofs.Common.{◌≡◌, ◌-◌, [], length}
use Rattle.data_back.specs.Reading.{text_from}
use Rattle.data_back.proofs.scanner.Scanner.quoted.Given as goal

abbrev pub invariant-loop-turn : goal.invariant-loop-turn
invariant-loop-turn l = text_from l.bytes.items (l._turn-end - l._turn) l.self ≡ text_from [] (length l.fn.self) l.fn.self
