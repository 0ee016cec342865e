use Rattle.std.proofs.Common.{◌≡◌, ◌+◌, ◌<◌, false, get_or, length, reverse, take, IsTrue, ap, subst, ◌∙◌, arith}
use Rattle.std.specs.Bool.{OnTrue, OnFalse}
use Rattle.std.specs.List.{slice_get}
use Rattle.std.specs.Option.{IfSome}
use Rattle.std.proofs.lemmas.List.{length-reverse, take_all}
use Rattle.solve_solver.specs.declared.trail.Entry.{Entry}
use Rattle.solve_solver.specs.Assignment.{value_at}
use Rattle.solve_solver.specs.LearnerView.{LearnerView, IsExplained, IsMinimizedAt}
use Rattle.solve_solver.specs.Marks.{IsAsStrong}
use Rattle.solve_solver.specs.Root.{AreImplied, oldest}
use Rattle.solve_solver.specs.ContextView.{ContextView, Lawful}
use Rattle.solve_solver.proofs.Minimizing.{IsMinimal-more, at_place}
use Rattle.solve_solver.proofs.Trails.{All-reversed}
use Rattle.solve_solver.proofs.learner.Learner.minimize_from_oldest.Goals as goal

pub loop-place-preserved : goal.loop-place-preserved
loop-place-preserved g c =
    let T = g.T.Theory in
    let first = c.args.self.now in
    let before = c.loop-place.self in
    let after = c.minimize_at-root.new.self in
    let known = c.loop-place.invariant in
    let i = c.loop-place.place in
    let root = c.loop-place.root in
    let next_root = c.minimize_at-root.result in
    let xs = reverse first.state.entries in
    let d : Entry = record { literal = record { var = 0; plus = false }; decided = false } in
    let state : before.state ≡ first.state = ap (λ (v : LearnerView _ _). v.state) known.kept in
    let within : i < length xs = omega (arith, length-reverse first.state.entries, c.len-place-end.ensures.len, ap (λ (v : LearnerView _ _). length v.state.entries) c.self.view_is, c.loop-place-test.true) in
    let minimized = at_place (λ e. IsMinimizedAt before after.marks root e next_root) xs i d within
    (subst (λ (s : ContextView _ _). IfSome (slice_get (reverse s.entries) i) (λ e. IsMinimizedAt before after.marks root e next_root)) state c.minimize_at-root.ensures.minimized) in
    let strong = subst (λ (s : ContextView _ _). IsAsStrong (Lawful T.models T.meets s) s.entries after.marks before.marks) state c.minimize_at-root.ensures.strong in
    let e = get_or xs i d in
    let here = subst (λ (v : LearnerView _ _). OnFalse e.decided (IsTrue (value_at after.marks e.literal.var) → ¬ IsExplained v after.marks e.literal)) known.kept minimized.minimal in
    record {
      kept = c.minimize_at-root.ensures.kept ∙ ap (λ (v : LearnerView _ _). record v { marks = after.marks }) known.kept;
      fewer = λ v m. known.fewer v (minimized.fewer v m);
      strong = λ a lawful agrees. known.strong a lawful (strong a lawful agrees);
      minimal = IsMinimal-more first before.marks after.marks xs i d within minimized.fewer known.minimal here;
      root = subst (λ (s : ContextView _ _). OnTrue next_root (AreImplied (oldest (i + 1) s.entries))) state c.minimize_at-root.ensures.root;
    }

pub returns-clause-minimal : goal.returns-clause-minimal
returns-clause-minimal g c =
    let first = c.args.self.now in
    let marks = c.loop-place.self.marks in
    let xs = reverse first.state.entries in
    let all : take c.loop-place.place xs ≡ xs = take_all c.loop-place.place xs (omega (arith, length-reverse first.state.entries, c.len-place-end.ensures.len, ap (λ (v : LearnerView _ _). length v.state.entries) c.self.view_is, c.loop-place-test.false)) in
    All-reversed (λ (e : Entry). OnFalse e.decided (IsTrue (value_at marks e.literal.var) → ¬ IsExplained first marks e.literal)) first.state.entries
    (rw all at c.loop-place.invariant.minimal)
