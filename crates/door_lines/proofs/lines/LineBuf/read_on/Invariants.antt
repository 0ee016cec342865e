use Rattle.std.proofs.Common.{◌≡◌, ◌-◌, ◌≤◌}
use Rattle.door_lines.specs.Lines.{IsInLine, held}
use Rattle.door_lines.specs.Turns.{HasTaken}
use Rattle.door_lines.proofs.lines.LineBuf.read_on.Given as goal

abbrev pub invariant-loop-self : goal.invariant-loop-self
invariant-loop-self g l = record {
  in_line : IsInLine (held l.self);
  taken : HasTaken (g.S.Source.told l.initial.src) (g.S.Source.told l.src) l.initial.self l.self;
  spent : l.initial.self.taken ≡ l.initial.self.budget → l.src ≡ l.initial.src;
  never_falls : g.S.Source.faults l.initial.src ≤ g.S.Source.faults l.src;
}

abbrev pub decreases-loop-self : goal.decreases-loop-self
decreases-loop-self g l = l.self.budget - l.self.taken
