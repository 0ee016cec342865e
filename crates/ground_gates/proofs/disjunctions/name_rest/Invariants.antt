use Rattle.std.proofs.Common.{map, length}
use Rattle.ground_gates.proofs.Disjoined.{IsApart}
use Rattle.ground_gates.proofs.disjunctions.name_rest.Given as goal

abbrev pub invariant-loop-gate : goal.invariant-loop-gate
invariant-loop-gate l = IsApart l.source.gates.now (map (λ xs. xs.items) l.source.inputs.now) l.source.below l.initial.board l.initial.parts l.board l.parts

abbrev pub decreases-loop-gate : goal.decreases-loop-gate
decreases-loop-gate l = length l.parts.stack.items
