use Rattle.std.proofs.Common.{ap, subst, ◌∙◌}
use Rattle.std.specs.List.{All, Contains}
use Rattle.solve_solver.specs.Clauses.{IsWithin}
use Rattle.solve_solver.specs.Learned.{learned_list}
use Rattle.solve_solver.specs.LearnerView.{LearnerView}
use Rattle.solve_solver.specs.Marks.{IsEntailed}
use Rattle.solve_solver.specs.ContextView.{Lawful}
use Rattle.solve_solver.specs.Watches.{WatchesView}
use Rattle.solve_solver.proofs.LearnedClauses.{All-kept}
use Rattle.solve_solver.proofs.learner.Learner.forget.Goals as goal

pub watch_learned-requires-clause-within : goal.watch_learned-requires-clause-within
watch_learned-requires-clause-within g c =
    rw c.trail.ensures.vars
    (All-kept (IsWithin c.self.inside.state.vars) (learned_list c.self.inside.learned) (learned_list c.reduce.new.self) c.self.invariant.within c.reduce.ensures.fewer)

pub invariant_of-self : goal.invariant_of-self
invariant_of-self g c =
    let T = g.T.Theory in
    let old = learned_list c.self.inside.learned in
    let new = learned_list c.reduce.new.self in
    record {
      entailed = All-kept (IsEntailed (Lawful T.models T.meets c.self.inside.state)) old new c.self.invariant.entailed c.reduce.ensures.fewer;
      within = All-kept (IsWithin c.self.inside.state.vars) old new c.self.invariant.within c.reduce.ensures.fewer;
      wide = c.reduce.ensures.width ∙ c.self.invariant.wide;
      mark_each = c.self.invariant.mark_each;
      reason_each = c.self.invariant.reason_each;
      score_each = c.self.invariant.score_each;
      room_for_all = c.self.invariant.room_for_all;
      watch_each = ap (λ (w : WatchesView). w.vars) c.watch_learned.ensures ∙ c.self.invariant.watch_each;
    }

pub returns-clause-fewer : goal.returns-clause-fewer
returns-clause-fewer g c =
    subst (λ (v : LearnerView _ _). All (Contains (learned_list v.learned)) (learned_list c.reduce.new.self)) c.self.view_is c.reduce.ensures.fewer
