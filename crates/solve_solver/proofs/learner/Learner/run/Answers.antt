use Rattle.std.proofs.Common.{◌∙◌}
use Rattle.solve_solver.specs.declared.progress.Progress.TheVariants.{Open}
use Rattle.solve_solver.specs.Steps.{work}
use Rattle.solve_solver.proofs.WorkLeft.{restart_less}
use Rattle.solve_solver.proofs.learner.Learner.run.Goals as goal

pub loop-progress-smaller-then-is_due : goal.loop-progress-smaller-then-is_due
loop-progress-smaller-then-is_due g c =
    let vars = c.begin_anew.ensures.problem.vars ∙ c.loop-progress.invariant.problem.vars in
    let before = work Open c.loop-progress.self.state in
    rw (c.in-Open.is, vars)
    (restart_less c.args.self.now.state.vars c.loop-progress.restarts c.take.new.self before c.begin_anew.new.self.state.entries c.take.ensures (rw vars at c.begin_anew.ensures.few))
