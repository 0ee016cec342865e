use Rattle.std.proofs.Common.{length, ap, arith}
use Rattle.std.proofs.lemmas.List.{length-reverse}
use Rattle.solve_solver.specs.ContextView.{ContextView}
use Rattle.solve_solver.proofs.Trails.{length-IsTrail}
use Rattle.solve_solver.proofs.context.Context.len.Goals as goal

pub returns-clause-few : goal.returns-clause-few
returns-clause-few g c =
    let vars = ap (λ (s : ContextView _ _). s.vars) c.self.view_is in
    omega (arith, length-IsTrail c.self.inside.trail.vars c.self.inside.trail.entries c.self.invariant.state.is_trail, ap length c.entries.ensures, length-reverse c.entries.result.now, vars)
