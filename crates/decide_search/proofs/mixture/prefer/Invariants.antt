use Rattle.std.proofs.Common.{◌≡◌}
use Rattle.decide_search.proofs.mixture.prefer.Given as goal

abbrev pub invariant-loop-literal : goal.invariant-loop-literal
invariant-loop-literal g l = l.solver ≡ l.initial.solver
