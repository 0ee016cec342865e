use Rattle.std.proofs.Common.{◌+◌, ◌-◌, ◌≤◌, length}
use Rattle.std.specs.Io.KnownBytes.{Consumes}
use Rattle.door_lines.proofs.source.read_all.Given as goal

abbrev pub invariant-loop-src : goal.invariant-loop-src
invariant-loop-src g l = record {
  came : Consumes (g.S.Source.told l.initial.src) (g.S.Source.told l.src) l.bytes.items;
  never_falls : g.S.Source.faults l.initial.src ≤ g.S.Source.faults l.src;
}

abbrev pub decreases-loop-src : goal.decreases-loop-src
decreases-loop-src g l = l.limit + 1 - length l.bytes.items
