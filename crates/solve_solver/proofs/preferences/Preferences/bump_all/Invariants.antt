-- What is left of the clause gives what the whole clause gave.
use Rattle.std.proofs.Common.{◌≡◌, drop, length}
use Rattle.solve_solver.specs.Preferences.{bumped_all}
use Rattle.solve_solver.proofs.preferences.Preferences.bump_all.Given as goal

abbrev pub invariant-loop-literal : goal.invariant-loop-literal
invariant-loop-literal l = record {
  each : length l.self.scores ≡ length l.initial.self.scores;
  left : bumped_all l.self (drop l.literal-index l.clause) ≡ bumped_all l.initial.self l.clause;
}
