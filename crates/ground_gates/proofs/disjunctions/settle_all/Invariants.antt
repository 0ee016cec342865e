use Rattle.std.proofs.Common.{map, length, ◌≡◌}
use Rattle.ground_gates.proofs.Disjoined.{IsApart}
use Rattle.ground_gates.proofs.disjunctions.settle_all.Given as goal

abbrev pub invariant-loop-input : goal.invariant-loop-input
invariant-loop-input l =
    IsApart l.source.gates.now (map (λ xs. xs.items) l.source.inputs.now) l.source.below l.initial.board l.initial.parts l.board l.parts
    × (l.parts.stack ≡ l.initial.parts.stack)

abbrev pub decreases-loop-input : goal.decreases-loop-input
decreases-loop-input l = length l.parts.inputs.items
