use Rattle.std.proofs.Common.{◌≡◌, false, reverse, set, Some, ap, sym, subst}
use Rattle.std.specs.List.{slice_get}
use Rattle.std.specs.Option.{IfSome}
use Rattle.solve_solver.specs.LearnerView.{LearnerView, IsMinimizedAt}
use Rattle.solve_solver.specs.Marks.{IsAsStrong}
use Rattle.solve_solver.specs.ContextView.{Lawful}
use Rattle.solve_solver.specs.Trail.{value_in}
use Rattle.solve_solver.proofs.Roots.{IsAsStrong-without}
use Rattle.solve_solver.proofs.Minimizing.{minimized_explained}
use Rattle.solve_solver.proofs.learner.Learner.minimize_at.Goals as goal

pub returns-then-is_explained-clause-strong : goal.returns-then-is_explained-clause-strong
returns-then-is_explained-clause-strong g c =
    let T = g.T.Theory in
    let now = c.args.self.now in
    let l = c.entry-entry.result.literal in
    let marks = ap (λ (v : LearnerView _ _). v.marks) c.self.view_is in
    let value_is = subst (λ (v : LearnerView _ _). value_in v.state.entries l.var ≡ Some l.plus) c.self.view_is c.entry-entry.ensures.here.value_is in
    subst (λ ms. IsAsStrong (Lawful T.models T.meets now.state) now.state.entries (set ms l.var false) now.marks) (sym marks)
    (IsAsStrong-without (Lawful T.models T.meets now.state) now.state.entries now.marks l value_is c.if-is_explained.ensures.forced)

pub returns-then-is_explained-clause-minimized : goal.returns-then-is_explained-clause-minimized
returns-then-is_explained-clause-minimized g c =
    let now = c.args.self.now in
    let e = c.entry-entry.result in
    let root = c.args.root in
    let place_is = subst (λ (v : LearnerView _ _). slice_get (reverse v.state.entries) c.args.place ≡ Some e) c.self.view_is c.entry-entry.ensures.place in
    subst (λ o. IfSome o (λ entry. IsMinimizedAt now (set c.self.inside.marks.items e.literal.var false) root entry root)) (sym place_is)
    (minimized_explained now _ root e c.if-entry.false (ap (λ (v : LearnerView _ _). set v.marks e.literal.var false) c.self.view_is))
