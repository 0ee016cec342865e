use Rattle.std.proofs.Common.{◌-◌, length, ap, arith, ◌∙◌}
use Rattle.solve_solver.specs.LearnerView.{LearnerView}
use Rattle.solve_solver.proofs.WorkLeft.{tree_size-positive, follow_less}
use Rattle.solve_solver.proofs.learner.Learner.advance.Goals as goal

pub returns-in-Conflict-clause-less : goal.returns-in-Conflict-clause-less
returns-in-Conflict-clause-less g c =
    let explained = ap (λ (v : LearnerView _ _). v.state) c.explain.ensures.kept in
    let scanned = ap (λ (v : LearnerView _ _). v.state) c.scan-step.ensures.kept in
    let old = c.args.self.now.state in
    rw (explained ∙ scanned) (omega (arith, tree_size-positive (old.vars - length old.entries)))

pub returns-in-UnitLiteral-clause-less : goal.returns-in-UnitLiteral-clause-less
returns-in-UnitLiteral-clause-less g c =
    let scanned = ap (λ (v : LearnerView _ _). v.state) c.scan-step.ensures.kept in
    let old = c.args.self.now.state in
    let bound = rw scanned at c.follow.ensures.less in
    let room = rw scanned at c.follow.ensures.room in
    omega (arith, bound, follow_less old.vars (length old.entries) room)
