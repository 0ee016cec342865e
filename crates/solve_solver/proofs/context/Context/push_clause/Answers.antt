use Rattle.std.proofs.Common.{ap}
use Rattle.solve_solver.specs.ContextView.{ContextView}
use Rattle.solve_solver.proofs.Contexts.{IsKeptContext-clause}
use Rattle.solve_solver.proofs.context.Context.push_clause.Goals as goal

pub invariant_of-self : goal.invariant_of-self
invariant_of-self g c =
    let T = g.T.Theory in
    let vars = ap (λ (s : ContextView _ _). s.vars) c.self.view_is in
    IsKeptContext-clause T.literals T.capacity T.takes T.models T.meets c.push.result _ _ _ _ c.args.clause.now c.push.new.self.list c.push.ensures.ok c.push.ensures.err c.self.invariant
    (rw vars c.requires)
