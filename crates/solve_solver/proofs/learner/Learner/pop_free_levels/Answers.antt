use Rattle.std.proofs.Common.{ap, refl, subst, ◌∙◌, arith}
use Rattle.solve_solver.specs.Dropping.{IsDropped, before_decision}
use Rattle.solve_solver.specs.LearnerView.{LearnerView}
use Rattle.solve_solver.proofs.Droppings.{IsDropped-trans, free_level_dropped}
use Rattle.solve_solver.proofs.Problems.{SameProblem-trans}
use Rattle.solve_solver.proofs.learner.Learner.pop_free_levels.Goals as goal

pub loop-smaller : goal.loop-smaller
loop-smaller g c =
    let vars = c.args.self.now.state.vars in
    let before = c.loop.self in
    let gone = free_level_dropped before.marks vars before.state.entries (c.loop-test.ensures.free.0 refl) in
    rw c.loop-test.ensures.dropped (omega (arith, gone.less))

pub loop-preserved : goal.loop-preserved
loop-preserved g c =
    let first = c.args.self.now in
    let before = c.loop.self in
    let after = c.pop_free_level.new.self in
    let vars = first.state.vars in
    let known = c.loop.invariant in
    let marks = ap (λ (v : LearnerView _ _). v.marks) known.kept in
    let gone = free_level_dropped before.marks vars before.state.entries (c.loop-test.ensures.free.0 refl) in
    let below = subst (λ ms. IsDropped ms vars before.state.entries (before_decision before.state.entries)) marks gone.dropped in
    record {
      problem = SameProblem-trans known.problem c.pop_free_level.ensures.problem;
      kept = c.pop_free_level.ensures.kept ∙ ap (λ (v : LearnerView _ _). record v { state = after.state }) known.kept;
      dropped = rw c.loop-test.ensures.dropped (IsDropped-trans first.marks vars first.state.entries before.state.entries (before_decision before.state.entries) known.dropped below);
      no_more = rw c.loop-test.ensures.dropped (omega (arith, gone.less, known.no_more));
    }
