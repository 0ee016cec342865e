use Rattle.std.proofs.Common.{◌≡◌}
use Rattle.solve_solver.specs.ContextView.{SameProblem}
use Rattle.solve_solver.proofs.learner.Learner.pop_decisions.Given as goal

abbrev pub invariant-loop : goal.invariant-loop
invariant-loop g l = let T = g.T.Theory in record {
  problem : SameProblem T.capacity T.takes T.models l.initial.self.state l.self.state;
  kept : l.self ≡ record l.initial.self { state = l.self.state };
}
