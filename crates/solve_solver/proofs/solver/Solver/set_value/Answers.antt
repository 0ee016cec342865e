use Rattle.std.proofs.Common.{ap, sym, ◌∙◌}
use Rattle.solve_solver.specs.SolverView.{SolverView}
use Rattle.solve_solver.specs.Values.{set_value}
use Rattle.solve_solver.proofs.ValuesSet.{value_read, values_where, values_else}
use Rattle.solve_solver.proofs.solver.Solver.set_value.Goals as goal

pub returns-then-self : goal.returns-then-self
returns-then-self g c =
    let s = c.self.inside.learner.state in
    let vars = ap (λ (v : SolverView _ _). v.vars) c.self.view_is in
    let by = values_where c.self.inside.solved s.vars s.entries c.self.inside.assumed.entries c.if-self.true ∙ ap (λ (v : SolverView _ _). v.values) c.self.view_is in
    c.value.ensures ∙ sym (value_read s.vars s.entries c.args.var (rw vars c.requires)) ∙ ap (λ vs. set_value vs c.args.var) by

pub returns-else-self : goal.returns-else-self
returns-else-self g c =
    let s = c.self.inside.learner.state in
    let assumed = c.self.inside.assumed.entries in
    let vars = ap (λ (v : SolverView _ _). v.vars) c.self.view_is in
    let by = values_else c.self.inside.solved s.vars s.entries assumed c.if-self.false ∙ ap (λ (v : SolverView _ _). v.values) c.self.view_is in
    c.value-else-self.ensures ∙ sym (value_read s.vars assumed c.args.var (rw vars c.requires)) ∙ ap (λ vs. set_value vs c.args.var) by
