use Rattle.std.proofs.Common.{◌<◌, length, ap, subst, ◌∙◌, arith}
use Rattle.std.proofs.lemmas.Bool.{OnTrue_at}
use Rattle.std.proofs.lemmas.Option.{slice_get_within}
use Rattle.solve_solver.specs.LearnerView.{LearnerView}
use Rattle.solve_solver.specs.SolverView.{SolverView}
use Rattle.solve_solver.specs.Values.{IsQuiet, Follow, Stay}
use Rattle.solve_solver.proofs.ValuesSet.{quiet_by, clash_by, follow_by, stay_by, values_where, values_else}
use Rattle.solve_solver.specs.Assumed.{values_of}
use Rattle.solve_solver.proofs.solver.Solver.propagate.Goals as goal
use Rattle.solve_solver.proofs.solver.Solver.propagate.Goals.{in-None, in-Some}

pub returns-then-self-clause-end : goal.returns-then-self-clause-end
returns-then-self-clause-end g c =
    let s = c.self.inside.learner.state in
    let held = OnTrue_at c.if-self.true c.self.invariant.held in
    let by = values_where c.self.inside.solved s.vars s.entries c.self.inside.assumed.entries c.if-self.true ∙ ap (λ (v : SolverView _ _). v.values) c.self.view_is in
    let clauses = ap (λ (v : SolverView _ _). v.clauses) c.self.view_is in
    subst (λ cs. IsQuiet c.args.self.now.values cs) clauses
    (subst (λ vs. IsQuiet vs s.clauses) by (quiet_by s.vars s.entries s.clauses c.self.invariant.within held.open_each))

pub overflow_cast-result : goal.overflow_cast-result
overflow_cast-result g c =
    let s = c.self.inside.learner.state in
    let looked = ap (λ (v : LearnerView _ _). v.state.clauses) c.look_anew.ensures in
    let spot = rw looked at c.in-Some.ensures.end in
    let less : c.in-Some.place < length s.clauses = slice_get_within s.clauses c.in-Some.place spot.clause spot.here in
    omega (arith, less, c.self.invariant.few)

pub returns-clause-end : goal.returns-clause-end
returns-clause-end g c =
    let s = c.self.inside.learner.state in
    let trail = c.propagate.new.trail.entries in
    let looked = ap (λ (v : LearnerView _ _). v.state.clauses) c.look_anew.ensures in
    let base = c.propagate.ensures.kept ∙ c.look_anew.ensures in
    let end = rw looked at c.propagate.ensures.end in
    elim c.match-propagate.branch [
      | in-None w ↦ rw (w.result-is, base, c.if-self.false)
          (quiet_by s.vars trail s.clauses c.self.invariant.within (rw w.in-None.is at end))
      | in-Some w ↦ rw (w.result-is, base, c.if-self.false)
          (clash_by s.vars trail s.clauses w.in-Some.place c.self.invariant.within (rw w.in-Some.is at end))
    ]

pub returns-clause-follows : goal.returns-clause-follows
returns-clause-follows g c =
    let s = c.self.inside.learner.state in
    let assumed = c.self.inside.assumed.entries in
    let trail = c.propagate.new.trail.entries in
    let base = c.propagate.ensures.kept ∙ c.look_anew.ensures in
    let extended = rw c.look_anew.ensures at c.propagate.ensures.extended in
    let by = values_else c.self.inside.solved s.vars s.entries assumed c.if-self.false ∙ ap (λ (v : SolverView _ _). v.values) c.self.view_is in
    let clauses = ap (λ (v : SolverView _ _). v.clauses) c.self.view_is in
    rw (base, c.if-self.false)
    (subst (λ cs. Follow cs c.args.self.now.values (values_of s.vars trail)) clauses
    (subst (λ vs. Follow s.clauses vs (values_of s.vars trail)) by (follow_by s.vars s.clauses assumed trail extended)))

pub returns-clause-stay : goal.returns-clause-stay
returns-clause-stay g c =
    let s = c.self.inside.learner.state in
    let assumed = c.self.inside.assumed.entries in
    let trail = c.propagate.new.trail.entries in
    let base = c.propagate.ensures.kept ∙ c.look_anew.ensures in
    let extended = rw c.look_anew.ensures at c.propagate.ensures.extended in
    let by = values_else c.self.inside.solved s.vars s.entries assumed c.if-self.false ∙ ap (λ (v : SolverView _ _). v.values) c.self.view_is in
    rw (base, c.if-self.false)
    (subst (λ vs. Stay vs (values_of s.vars trail)) by (stay_by s.vars s.clauses assumed trail extended))
