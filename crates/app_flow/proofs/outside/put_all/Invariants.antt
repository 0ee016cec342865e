use Rattle.std.proofs.Common.{◌≤◌, ◌-◌, length, take}
use Rattle.app_flow.specs.Told.{Appends}
use Rattle.app_flow.proofs.outside.put_all.Given as goal

abbrev pub invariant-loop-done : goal.invariant-loop-done
invariant-loop-done g l = record {
  within : l.done ≤ length l.piece;
  front : Appends (g.W.Sink.told l.initial.out) (g.W.Sink.told l.out) (take l.done l.piece);
  never_falls : g.W.Sink.faults l.initial.out ≤ g.W.Sink.faults l.out;
}

abbrev pub decreases-loop-done : goal.decreases-loop-done
decreases-loop-done g l = length l.piece - l.done
