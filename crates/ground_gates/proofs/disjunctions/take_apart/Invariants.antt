use Rattle.std.proofs.Common.{map}
use Rattle.ground_gates.proofs.Disjoined.{IsApart}
use Rattle.ground_gates.proofs.disjunctions.take_apart.Given as goal

abbrev pub invariant-loop-step : goal.invariant-loop-step
invariant-loop-step l = IsApart l.source.gates.now (map (λ xs. xs.items) l.source.inputs.now) l.source.below l.initial.board l.initial.parts l.board l.parts
