-- The marks that are left are as strong.
use Rattle.std.proofs.Common.{◌≡◌}
use Rattle.solve_solver.specs.Marks.{HasMarks, IsAsStrong}
use Rattle.solve_solver.specs.ContextView.{Lawful}
use Rattle.solve_solver.proofs.learner.Learner.minimize_from_latest.Given as goal

abbrev pub invariant-loop-passed : goal.invariant-loop-passed
invariant-loop-passed g l = let T = g.T.Theory in record {
  kept : l.self ≡ record l.initial.self { marks = l.self.marks };
  fewer : HasMarks l.initial.self.marks l.self.marks;
  strong : IsAsStrong (Lawful T.models T.meets l.initial.self.state) l.initial.self.state.entries l.self.marks l.initial.self.marks;
}
