-- The marks that are left are as strong, none of those that the loop has passed follows from others, and
-- whether the places that it has passed were all implied.
use Rattle.std.proofs.Common.{◌≡◌, reverse, take}
use Rattle.std.specs.Bool.{OnTrue}
use Rattle.solve_solver.specs.LearnerView.{IsMinimal}
use Rattle.solve_solver.specs.Marks.{HasMarks, IsAsStrong}
use Rattle.solve_solver.specs.Root.{AreImplied, oldest}
use Rattle.solve_solver.specs.ContextView.{Lawful}
use Rattle.solve_solver.proofs.learner.Learner.minimize_from_oldest.Given as goal

abbrev pub invariant-loop-place : goal.invariant-loop-place
invariant-loop-place g l = let T = g.T.Theory in record {
  kept : l.self ≡ record l.initial.self { marks = l.self.marks };
  fewer : HasMarks l.initial.self.marks l.self.marks;
  strong : IsAsStrong (Lawful T.models T.meets l.initial.self.state) l.initial.self.state.entries l.self.marks l.initial.self.marks;
  minimal : IsMinimal l.initial.self l.self.marks (take l.place (reverse l.initial.self.state.entries));
  root : OnTrue l.root (AreImplied (oldest l.place l.initial.self.state.entries));
}
