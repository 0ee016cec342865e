use Rattle.std.proofs.Common.{ap}
use Rattle.solve_solver.specs.LearnerView.{LearnerView}
use Rattle.solve_solver.proofs.Problems.{refused_refuted}
use Rattle.solve_solver.proofs.learner.Learner.follow.Goals as goal

pub returns-clause-reached : goal.returns-clause-reached
returns-clause-reached g c =
    let T = g.T.Theory in
    let explained = ap (λ (v : LearnerView _ _). v.state) c.explain.ensures.kept in
    rw explained
    (refused_refuted T.meets c.set.ensures.problem c.set.new.self.marks c.explain.new.self.marks c.args.literal
    c.if-set.ensures.refused c.explain.ensures.more c.if-set.ensures.why c.explain.ensures.marked)
