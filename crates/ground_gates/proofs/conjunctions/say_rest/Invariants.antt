use Rattle.std.proofs.Common.{map, length}
use Rattle.ground_gates.proofs.Conjoined.{AreSaid}
use Rattle.ground_gates.proofs.conjunctions.say_rest.Given as goal

abbrev pub invariant-loop-gate : goal.invariant-loop-gate
invariant-loop-gate l = AreSaid l.source.gates.now (map (λ xs. xs.items) l.source.inputs.now) l.source.below l.whole l.initial.board l.initial.stack.items l.board l.stack.items

abbrev pub decreases-loop-gate : goal.decreases-loop-gate
decreases-loop-gate l = length l.stack.items
