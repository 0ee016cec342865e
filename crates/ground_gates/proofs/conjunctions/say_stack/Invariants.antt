use Rattle.std.proofs.Common.{map}
use Rattle.ground_gates.proofs.Conjoined.{AreSaid}
use Rattle.ground_gates.proofs.conjunctions.say_stack.Given as goal

abbrev pub invariant-loop-step : goal.invariant-loop-step
invariant-loop-step l = AreSaid l.source.gates.now (map (λ xs. xs.items) l.source.inputs.now) l.source.below l.whole l.initial.board l.initial.stack.items l.board l.stack.items
