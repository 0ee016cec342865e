use Rattle.std.proofs.Common.{ap, subst}
use Rattle.solve_solver.specs.LearnerView.{LearnerView, IsMinimal}
use Rattle.solve_solver.specs.Marks.{IsAsStrong}
use Rattle.solve_solver.specs.ContextView.{ContextView, Lawful}
use Rattle.solve_solver.proofs.learner.Learner.minimize.Goals as goal

pub returns-clause-fewer : goal.returns-clause-fewer
returns-clause-fewer g c = λ v m. c.minimize_from_latest.ensures.fewer v (c.minimize_from_oldest.ensures.fewer v m)

pub returns-clause-strong : goal.returns-clause-strong
returns-clause-strong g c =
    let T = g.T.Theory in
    let left = c.minimize_from_oldest.new.self.marks in
    let state = ap (λ (v : LearnerView _ _). v.state) c.minimize_from_latest.ensures.kept in
    let strong = subst (λ (s : ContextView _ _). IsAsStrong (Lawful T.models T.meets s) s.entries left c.minimize_from_latest.new.self.marks) state c.minimize_from_oldest.ensures.strong in
    λ a lawful agrees. c.minimize_from_latest.ensures.strong a lawful (strong a lawful agrees)

pub returns-clause-minimal : goal.returns-clause-minimal
returns-clause-minimal g c =
    subst (λ (v : LearnerView _ _). IsMinimal v c.minimize_from_oldest.new.self.marks v.state.entries) c.minimize_from_latest.ensures.kept c.minimize_from_oldest.ensures.minimal
