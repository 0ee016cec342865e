use Rattle.std.proofs.Common.{◌≡◌, ◌≤◌, false, ap, refl, sym, subst, ◌∙◌, rules}
use Rattle.solve_solver.specs.Assignment.{value_at}
use Rattle.solve_solver.specs.Dropping.{before_decision}
use Rattle.solve_solver.specs.LearnerView.{LearnerView}
use Rattle.solve_solver.specs.Marks.{IsRefutedMarked}
use Rattle.solve_solver.specs.ContextView.{Lawful, SameProblem}
use Rattle.solve_solver.specs.Work.{pending}
use Rattle.solve_solver.proofs.Droppings.{free_level_dropped}
use Rattle.solve_solver.proofs.MarkedTrails.{refuted_unmarked}
use Rattle.solve_solver.proofs.Problems.{SameProblem-sym, SameProblem-trans, ForcesMarked-after, same_parts}
use Rattle.solve_solver.proofs.TakenBack.{point_taken_back, decision_taken_back, explained_refuted, no_more_below}
use Rattle.solve_solver.proofs.learner.Learner.pop_to_point.Goals as goal

pub returns-then-entry-clause-cases : goal.returns-then-entry-clause-cases
returns-then-entry-clause-cases g c =
    let T = g.T.Theory in
    let first = c.args.self.now.state in
    let second = c.self.inside.state in
    let vars : second.vars ≡ first.vars = ap (λ (v : LearnerView _ _). v.state.vars) c.self.view_is ∙ c.loop-entry.invariant.problem.vars in
    let refuted = subst (λ (v : LearnerView _ _). IsRefutedMarked (Lawful T.models T.meets first) v.marks v.state.entries) (sym c.self.view_is) c.loop-entry.invariant.refuted in
    let no_more = subst (λ (v : LearnerView _ _). pending first.vars v.state.entries ≤ pending first.vars first.entries) (sym c.self.view_is) c.loop-entry.invariant.no_more in
    rw c.opposite.ensures
    (decision_taken_back (Lawful T.models T.meets first) first.vars c.self.inside.marks.items first.entries second.entries c.in-Some.entry c.pop.new.self.entries
    c.in-Some.ensures.entries c.if-entry.true (rw vars at c.pop.ensures.trail) refuted no_more)

pub returns-then-pop_free_level-clause-cases : goal.returns-then-pop_free_level-clause-cases
returns-then-pop_free_level-clause-cases g c =
    let T = g.T.Theory in
    let first = c.args.self.now.state in
    let second = c.self.inside.state in
    let es = c.pop.new.self.entries in
    let marks = ap (λ (v : LearnerView _ _). v.marks) c.pop_free_level.ensures.kept in
    let vars : second.vars ≡ first.vars = ap (λ (v : LearnerView _ _). v.state.vars) c.self.view_is ∙ c.loop-entry.invariant.problem.vars in
    let refuted = subst (λ (v : LearnerView _ _). IsRefutedMarked (Lawful T.models T.meets first) v.marks v.state.entries) (sym c.self.view_is) c.loop-entry.invariant.refuted in
    let no_more = subst (λ (v : LearnerView _ _). pending first.vars v.state.entries ≤ pending first.vars first.entries) (sym c.self.view_is) c.loop-entry.invariant.no_more in
    let gone = free_level_dropped c.self.inside.marks.items first.vars es (c.if-pop_free_level.ensures.free.0 refl) in
    rw (c.opposite-then-pop_free_level.ensures, marks, c.if-pop_free_level.ensures.dropped)
    (point_taken_back (Lawful T.models T.meets first) first.vars c.self.inside.marks.items first.entries second.entries c.in-Some.entry es (before_decision es)
    c.in-Some.ensures.entries (rw vars at c.pop.ensures.trail) refuted no_more gone)

pub returns-then-entry-clause-kept : goal.returns-then-entry-clause-kept
returns-then-entry-clause-kept g c =
    ap (λ (v : LearnerView _ _). record v { state = c.pop.new.self; marks = c.self.inside.marks.items; preferences = c.bump.new.self }) (c.self.view_is ∙ c.loop-entry.invariant.kept)

pub returns-then-pop_free_level-clause-kept : goal.returns-then-pop_free_level-clause-kept
returns-then-pop_free_level-clause-kept g c =
    let first = c.args.self.now in
    let base = c.self.view_is ∙ c.loop-entry.invariant.kept in
    let learned = ap (λ (v : LearnerView _ _). v.learned) c.pop_free_level.ensures.kept ∙ ap (λ (v : LearnerView _ _). v.learned) base in
    let reasons = ap (λ (v : LearnerView _ _). v.reasons) c.pop_free_level.ensures.kept ∙ ap (λ (v : LearnerView _ _). v.reasons) base in
    same_parts c.pop_free_level.new.self first.learned first.reasons learned reasons

pub returns-clause-kept : goal.returns-clause-kept
returns-clause-kept g c =
    ap (λ (v : LearnerView _ _). record v { state = c.pop.new.self; marks = c.self.inside.marks.items; preferences = c.self.inside.preferences }) (c.self.view_is ∙ c.loop-entry.invariant.kept)

pub loop-entry-preserved-then-index : goal.loop-entry-preserved-then-index
loop-entry-preserved-then-index g c =
    let T = g.T.Theory in
    let first = c.args.self.now.state in
    let base = c.self.view_is ∙ c.loop-entry.invariant.kept in
    let learned = ap (λ (v : LearnerView _ _). v.learned) c.explain.ensures.kept ∙ ap (λ (v : LearnerView _ _). v.learned) c.pop_free_level.ensures.kept ∙ ap (λ (v : LearnerView _ _). v.learned) base in
    let reasons = ap (λ (v : LearnerView _ _). v.reasons) c.explain.ensures.kept ∙ ap (λ (v : LearnerView _ _). v.reasons) c.pop_free_level.ensures.kept ∙ ap (λ (v : LearnerView _ _). v.reasons) base in
    let second = c.self.inside.state in
    let es = c.pop.new.self.entries in
    let more = c.explain.new.self.marks in
    let before = subst (λ (v : LearnerView _ _). SameProblem T.capacity T.takes T.models first v.state) (sym c.self.view_is) c.loop-entry.invariant.problem in
    let after = SameProblem-trans before (SameProblem-trans c.pop.ensures.problem c.pop_free_level.ensures.problem) in
    let refuted = subst (λ (v : LearnerView _ _). IsRefutedMarked (Lawful T.models T.meets first) v.marks v.state.entries) (sym c.self.view_is) c.loop-entry.invariant.refuted in
    let no_more = subst (λ (v : LearnerView _ _). pending first.vars v.state.entries ≤ pending first.vars first.entries) (sym c.self.view_is) c.loop-entry.invariant.no_more in
    let has = rw (ap (λ (v : LearnerView _ _). v.marks) c.pop_free_level.ensures.kept) at c.explain.ensures.more in
    let forced = ForcesMarked-after T.meets (SameProblem-sym after) more es c.in-Some.entry.literal (rw c.if-pop_free_level.ensures.same at c.explain.ensures.marked) in
    rw (ap (λ (v : LearnerView _ _). v.state) c.explain.ensures.kept) (record {
      problem = after;
      kept = same_parts (record c.explain.new.self { state = c.pop_free_level.new.self.state }) c.args.self.now.learned c.args.self.now.reasons learned reasons;
      refuted = rw c.if-pop_free_level.ensures.same
          (explained_refuted (Lawful T.models T.meets first) first.vars more c.self.inside.marks.items second.entries c.in-Some.entry es c.in-Some.ensures.entries has forced refuted);
      no_more = rw c.if-pop_free_level.ensures.same (no_more_below first.vars first.entries second.entries c.in-Some.entry es c.in-Some.ensures.entries no_more);
    })

pub loop-entry-preserved : goal.loop-entry-preserved
loop-entry-preserved g c =
    let T = g.T.Theory in
    let first = c.args.self.now.state in
    let second = c.self.inside.state in
    let es = c.pop.new.self.entries in
    let marks = c.self.inside.marks.items in
    let before = subst (λ (v : LearnerView _ _). SameProblem T.capacity T.takes T.models first v.state) (sym c.self.view_is) c.loop-entry.invariant.problem in
    let refuted = subst (λ (v : LearnerView _ _). IsRefutedMarked (Lawful T.models T.meets first) v.marks v.state.entries) (sym c.self.view_is) c.loop-entry.invariant.refuted in
    let no_more = subst (λ (v : LearnerView _ _). pending first.vars v.state.entries ≤ pending first.vars first.entries) (sym c.self.view_is) c.loop-entry.invariant.no_more in
    let unmarked : value_at marks c.in-Some.entry.literal.var ≡ false = search rules in
    record {
      problem = SameProblem-trans before c.pop.ensures.problem;
      kept = ap (λ (v : LearnerView _ _). record v { state = c.pop.new.self; marks = marks; preferences = c.offer.new.self }) (c.self.view_is ∙ c.loop-entry.invariant.kept);
      refuted = refuted_unmarked (Lawful T.models T.meets first) marks c.in-Some.entry es unmarked
          (subst (IsRefutedMarked (Lawful T.models T.meets first) marks) c.in-Some.ensures.entries refuted);
      no_more = no_more_below first.vars first.entries second.entries c.in-Some.entry es c.in-Some.ensures.entries no_more;
    }
