use Rattle.std.proofs.Common.{◌≤◌, length}
use Rattle.std.specs.Str.{IsAscii}
use Rattle.decide_search.proofs.spares.letters.Given as goal

abbrev pub invariant-loop-done : goal.invariant-loop-done
invariant-loop-done l = IsAscii l.bytes.items × (length l.bytes.items ≤ l._done)
