use Rattle.std.proofs.Common.{ap, arith}
use Rattle.solve_solver.specs.LearnerView.{LearnerView}
use Rattle.solve_solver.specs.ContextView.{Lawful}
use Rattle.solve_solver.proofs.MarkedTrails.{Forces-from_marked}
use Rattle.solve_solver.proofs.Problems.{SameProblem-refl, forced_minimized}
use Rattle.solve_solver.proofs.learner.Learner.conclude.Goals as goal

pub learn-reason-requires-clause-forced : goal.learn-reason-requires-clause-forced
learn-reason-requires-clause-forced g c =
    let minimized = ap (λ (v : LearnerView _ _). v.state) c.minimize.ensures.kept in
    let levels_marks = ap (λ (v : LearnerView _ _). v.marks) c.pop_free_levels.ensures.kept in
    let T = g.T.Theory in
    let first = c.args.self.now in
    let after = rw minimized at c.pop_free_levels.ensures.problem in
    let gone = rw minimized at c.pop_free_levels.ensures.dropped in
    rw levels_marks
    (forced_minimized T.meets (SameProblem-refl first.state) after first.marks c.minimize.new.self.marks first.state.vars c.args.literal c.requires.forced c.minimize.ensures.strong gone)

pub follow-requires : goal.follow-requires
follow-requires g c =
    let minimized = ap (λ (v : LearnerView _ _). v.state) c.minimize.ensures.kept in
    let learned = ap (λ (v : LearnerView _ _). v.state) c.learn-reason.ensures.kept in
    let T = g.T.Theory in
    let first = c.args.self.now in
    let third = c.pop_free_levels.new.self in
    let after = rw minimized at c.pop_free_levels.ensures.problem in
    let gone = rw minimized at c.pop_free_levels.ensures.dropped in
    let forced = forced_minimized T.meets (SameProblem-refl first.state) after first.marks c.minimize.new.self.marks first.state.vars c.args.literal c.requires.forced c.minimize.ensures.strong gone in
    record {
      next = rw learned (record {
        within = rw after.vars c.requires.within;
        unset = gone.unset c.args.literal.var c.requires.unset;
        forced = Forces-from_marked (Lawful T.models T.meets third.state) c.minimize.new.self.marks third.state.entries c.args.literal forced;
      });
    }

pub returns-clause-less : goal.returns-clause-less
returns-clause-less g c =
    let minimized = ap (λ (v : LearnerView _ _). v.state) c.minimize.ensures.kept in
    let learned = ap (λ (v : LearnerView _ _). v.state) c.learn-reason.ensures.kept in
    let after = rw minimized at c.pop_free_levels.ensures.problem in
    let bound = rw (learned, after.vars) at c.follow.ensures.less in
    let levels = rw minimized at c.pop_free_levels.ensures.no_more in
    omega (arith, bound, levels)
