-- What is known where the search stands. What is left of it is counted with the restarts in front.
use Rattle.std.proofs.Common.{◌+◌, ◌*◌}
use Rattle.solve_solver.specs.ContextView.{SameProblem}
use Rattle.solve_solver.specs.Steps.{IsReached, work}
use Rattle.solve_solver.specs.Work.{tree_size}
use Rattle.solve_solver.proofs.learner.Learner.run.Given as goal

abbrev pub invariant-loop-progress : goal.invariant-loop-progress
invariant-loop-progress g l = let T = g.T.Theory in record {
  problem : SameProblem T.capacity T.takes T.models l.initial.self.state l.self.state;
  reached : IsReached T.literals T.models T.meets l.progress l.self.marks l.self.state;
}

abbrev pub decreases-loop-progress : goal.decreases-loop-progress
decreases-loop-progress g l = l.restarts * (tree_size l.initial.self.state.vars + 2) + work l.progress l.self.state
