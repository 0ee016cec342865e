use Rattle.std.proofs.Common.{ap, ◌∙◌}
use Rattle.solve_solver.specs.LearnerView.{LearnerView}
use Rattle.solve_solver.specs.SolverView.{SolverView}
use Rattle.solve_solver.proofs.ValuesSet.{none_set}
use Rattle.solve_solver.proofs.solver.Solver.restart.Goals as goal

pub returns-clause-no_value : goal.returns-clause-no_value
returns-clause-no_value g c =
    let vars = ap (λ (v : LearnerView _ _). v.state.vars) c.look_anew.ensures ∙ c.restart.ensures.problem.vars ∙ ap (λ (v : SolverView _ _). v.vars) c.self.view_is in
    rw (c.clear.ensures.entries, vars) (none_set c.args.self.now.vars)
