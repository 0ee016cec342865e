-- What is gone was not marked, and there is no more work left.
use Rattle.std.proofs.Common.{◌≡◌, ◌≤◌}
use Rattle.solve_solver.specs.Dropping.{IsDropped}
use Rattle.solve_solver.specs.ContextView.{SameProblem}
use Rattle.solve_solver.specs.Work.{pending, rest}
use Rattle.solve_solver.proofs.learner.Learner.pop_free_levels.Given as goal

abbrev pub invariant-loop : goal.invariant-loop
invariant-loop g l = let T = g.T.Theory in record {
  problem : SameProblem T.capacity T.takes T.models l.initial.self.state l.self.state;
  kept : l.self ≡ record l.initial.self { state = l.self.state };
  dropped : IsDropped l.initial.self.marks l.initial.self.state.vars l.initial.self.state.entries l.self.state.entries;
  no_more : let vars = l.initial.self.state.vars in rest vars l.self.state.entries ≤ rest vars l.initial.self.state.entries;
}

abbrev pub decreases-loop : goal.decreases-loop
decreases-loop g l = pending l.initial.self.state.vars l.self.state.entries
