use Rattle.std.proofs.Common.{◌≡◌, ◌-◌, [], length}
use Rattle.data_back.specs.Back.{ids_from}
use Rattle.data_back.proofs.values.read_ids.Given as goal

abbrev pub invariant-loop-turn : goal.invariant-loop-turn
invariant-loop-turn l = ids_from l.ids (l._turn-end - l._turn) l.scanner ≡ ids_from [] (length l.fn.scanner) l.fn.scanner
