use Rattle.std.proofs.Common.{◌≡◌, ◌-◌, ◌<◌, false, length, reverse, ap, subst, ◌∙◌, arith}
use Rattle.std.specs.List.{slice_get}
use Rattle.std.specs.Option.{IfSome}
use Rattle.std.proofs.lemmas.List.{length-reverse}
use Rattle.solve_solver.specs.declared.trail.Entry.{Entry}
use Rattle.solve_solver.specs.LearnerView.{LearnerView, IsMinimizedAt}
use Rattle.solve_solver.specs.Marks.{IsAsStrong}
use Rattle.solve_solver.specs.ContextView.{ContextView, Lawful}
use Rattle.solve_solver.proofs.Minimizing.{at_place}
use Rattle.solve_solver.proofs.learner.Learner.minimize_from_latest.Goals as goal

pub loop-passed-preserved : goal.loop-passed-preserved
loop-passed-preserved g c =
    let T = g.T.Theory in
    let first = c.args.self.now in
    let before = c.loop-passed.self in
    let after = c.minimize_at.new.self in
    let known = c.loop-passed.invariant in
    let i = c.len-count.result - 1 - c.loop-passed.passed in
    let next_root = c.minimize_at.result in
    let xs = reverse first.state.entries in
    let d : Entry = record { literal = record { var = 0; plus = false }; decided = false } in
    let state : before.state ≡ first.state = ap (λ (v : LearnerView _ _). v.state) known.kept in
    let within : i < length xs = omega (arith, length-reverse first.state.entries, c.len-count.ensures.len, ap (λ (v : LearnerView _ _). length v.state.entries) c.self.view_is, c.loop-passed-test.true) in
    let minimized = at_place (λ e. IsMinimizedAt before after.marks false e next_root) xs i d within
    (subst (λ (s : ContextView _ _). IfSome (slice_get (reverse s.entries) i) (λ e. IsMinimizedAt before after.marks false e next_root)) state c.minimize_at.ensures.minimized) in
    let strong = subst (λ (s : ContextView _ _). IsAsStrong (Lawful T.models T.meets s) s.entries after.marks before.marks) state c.minimize_at.ensures.strong in
    record {
      kept = c.minimize_at.ensures.kept ∙ ap (λ (v : LearnerView _ _). record v { marks = after.marks }) known.kept;
      fewer = λ v m. known.fewer v (minimized.fewer v m);
      strong = λ a lawful agrees. known.strong a lawful (strong a lawful agrees);
    }
