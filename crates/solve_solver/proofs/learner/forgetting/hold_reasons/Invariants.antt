use Rattle.std.proofs.Common.{◌≡◌}
use Rattle.solve_solver.proofs.learner.forgetting.hold_reasons.Given as goal

abbrev pub invariant-loop-place : goal.invariant-loop-place
invariant-loop-place l = l.learned ≡ l.initial.learned
