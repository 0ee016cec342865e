use Rattle.std.proofs.Common.{◌-◌, length, ap, arith}
use Rattle.solve_solver.specs.LearnerView.{LearnerView}
use Rattle.solve_solver.proofs.WorkLeft.{tree_size-positive, follow_less}
use Rattle.solve_solver.proofs.learner.Learner.finish.Goals as goal

pub returns-in-Conflict-clause-less : goal.returns-in-Conflict-clause-less
returns-in-Conflict-clause-less g c =
    let explained = ap (λ (v : LearnerView _ _). v.state) c.explain.ensures.kept in
    let old = c.args.self.now.state in
    rw explained (omega (arith, tree_size-positive (old.vars - length old.entries)))

pub returns-in-UnitLiteral-clause-less : goal.returns-in-UnitLiteral-clause-less
returns-in-UnitLiteral-clause-less g c =
    let old = c.args.self.now.state in
    omega (arith, c.follow.ensures.less, follow_less old.vars (length old.entries) c.follow.ensures.room)
