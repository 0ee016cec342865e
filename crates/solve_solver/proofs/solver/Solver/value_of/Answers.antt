use Rattle.std.proofs.Common.{◌≡◌, false, ap, sym, subst, ◌∙◌}
use Rattle.std.specs.Option.{unwrap_or, IfSome}
use Rattle.solve_solver.specs.Assignment.{literal_value, signed, value_at}
use Rattle.solve_solver.specs.SolverView.{SolverView}
use Rattle.solve_solver.specs.Trail.{assignment_of}
use Rattle.solve_solver.proofs.Assigned.{value_at-assigned, IfSome-where}
use Rattle.solve_solver.proofs.solver.Solver.value_of.Goals as goal

pub returns : goal.returns
returns g c =
    let s = c.self.inside.learner.state in
    let l = c.args.literal in
    let vars = ap (λ (v : SolverView _ _). v.vars) c.self.view_is in
    let value : c.unwrap_or-value.result ≡ value_at (assignment_of s.vars s.entries) l.var = c.unwrap_or-value.ensures ∙ ap (λ o. unwrap_or o false) c.value.ensures ∙ sym (value_at-assigned s.vars s.entries l.var (rw vars c.requires.within)) in
    let here : c.value_by.result ≡ literal_value (assignment_of s.vars s.entries) l = c.value_by.ensures ∙ ap (signed l) value in
    subst (λ (v : SolverView _ _). IfSome v.assignment (λ a. c.value_by.result ≡ literal_value a l)) c.self.view_is
    (IfSome-where c.self.inside.solved (assignment_of s.vars s.entries) (λ a. c.value_by.result ≡ literal_value a l) here)
