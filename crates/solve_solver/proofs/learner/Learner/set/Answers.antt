use Rattle.std.proofs.Common.{length, drop, ap, subst, arith}
use Rattle.std.specs.Bool.{OnFalse}
use Rattle.std.proofs.lemmas.List.{take_at}
use Rattle.solve_solver.specs.Assignment.{negated}
use Rattle.solve_solver.specs.LearnerView.{LearnerView}
use Rattle.solve_solver.specs.Marks.{ForcesMarked}
use Rattle.solve_solver.specs.ContextView.{Lawful}
use Rattle.solve_solver.proofs.learner.Learner.set.Goals as goal

pub returns-clause-why : goal.returns-clause-why
returns-clause-why g c =
    let T = g.T.Theory in
    let marks = c.self.inside.marks in
    let back = take_at c.assign.new.marks (drop (length c.assign.new.marks) marks.items) marks.len (omega (arith, ap length c.as_mut_slice.ensures.value, c.assign.auto.marks, marks.ok.0)) in
    rw back
    (subst (λ (v : LearnerView _ _). OnFalse c.assign.result (ForcesMarked (Lawful T.models T.meets v.state) c.assign.new.marks v.state.entries (negated c.args.entry.literal))) c.self.view_is
    c.assign.ensures.why)
