-- What is left and marked is refuted, and there is no more work left.
use Rattle.std.proofs.Common.{◌≡◌, ◌≤◌, length}
use Rattle.solve_solver.specs.Marks.{IsRefutedMarked}
use Rattle.solve_solver.specs.ContextView.{Lawful, SameProblem}
use Rattle.solve_solver.specs.Work.{pending}
use Rattle.solve_solver.proofs.learner.Learner.pop_to_point.Given as goal

abbrev pub invariant-loop-entry : goal.invariant-loop-entry
invariant-loop-entry g l = let T = g.T.Theory in record {
  problem : SameProblem T.capacity T.takes T.models l.initial.self.state l.self.state;
  kept : l.self ≡ record l.initial.self { state = l.self.state; marks = l.self.marks; preferences = l.self.preferences };
  refuted : IsRefutedMarked (Lawful T.models T.meets l.initial.self.state) l.self.marks l.self.state.entries;
  no_more : pending l.initial.self.state.vars l.self.state.entries ≤ pending l.initial.self.state.vars l.initial.self.state.entries;
}

abbrev pub decreases-loop-entry : goal.decreases-loop-entry
decreases-loop-entry g l = length l.self.state.entries
