use Rattle.std.proofs.Common.{true, ap, replicate, ◌∙◌}
use Rattle.solve_solver.specs.LearnerView.{LearnerView}
use Rattle.solve_solver.specs.ContextView.{Lawful}
use Rattle.solve_solver.proofs.MarkedTrails.{IsBackedMarked-all}
use Rattle.solve_solver.proofs.learner.Learner.mark_why.Goals as goal

pub returns-then-not-mark_reason-clause-marked : goal.returns-then-not-mark_reason-clause-marked
returns-then-not-mark_reason-clause-marked g c =
    let T = g.T.Theory in
    let vars = ap (λ (v : LearnerView _ _). v.state.vars) (c.self.view_is ∙ c.mark_reason.ensures.kept) in
    let all = c.fill.ensures.items (λ y e. e) ∙ ap (λ n. replicate n true) (c.self.invariant.mark_each ∙ vars) in
    IsBackedMarked-all (Lawful T.models T.meets c.args.self.now.state) _ c.fill.new.self.items c.args.self.now.state.entries c.args.literal all c.mark_reason.ensures.is_trail c.requires
