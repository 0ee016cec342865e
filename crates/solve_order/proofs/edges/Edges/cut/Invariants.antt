use Rattle.std.proofs.Common.{◌≡◌, ◌-◌, length, take}
use Rattle.solve_order.proofs.edges.Edges.cut.Given as goal

abbrev pub invariant-loop-taken : goal.invariant-loop-taken
invariant-loop-taken l =
    l.self ≡ record l.initial.self { literals = take (length l.initial.self.literals - l._taken) l.initial.self.literals }
