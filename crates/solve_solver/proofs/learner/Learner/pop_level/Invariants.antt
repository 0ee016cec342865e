-- What was set before the latest decision is still there.
use Rattle.std.proofs.Common.{◌≡◌, length}
use Rattle.solve_solver.specs.ContextView.{SameProblem}
use Rattle.solve_solver.specs.Dropping.{before_decision}
use Rattle.solve_solver.proofs.learner.Learner.pop_level.Given as goal

abbrev pub invariant-loop-entry : goal.invariant-loop-entry
invariant-loop-entry g l = let T = g.T.Theory in record {
  problem : SameProblem T.capacity T.takes T.models l.initial.self.state l.self.state;
  kept : l.self ≡ record l.initial.self { state = l.self.state };
  before : before_decision l.self.state.entries ≡ before_decision l.initial.self.state.entries;
}

abbrev pub decreases-loop-entry : goal.decreases-loop-entry
decreases-loop-entry g l = length l.self.state.entries
