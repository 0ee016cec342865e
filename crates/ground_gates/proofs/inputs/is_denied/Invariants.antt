use Rattle.ground_gates.proofs.inputs.is_denied.Given as goal

abbrev pub invariant-loop-literal : goal.invariant-loop-literal
invariant-loop-literal l = Unit {0}
