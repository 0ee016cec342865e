use Rattle.std.proofs.Common.{Some, subst}
use Rattle.solve_solver.specs.ContextView.{Lawful}
use Rattle.solve_solver.specs.LearnerView.{LearnerView, clause_by}
use Rattle.solve_solver.specs.Scanned.{IsMetIn}
use Rattle.solve_solver.specs.Watches.{IsMet, clause_in}
use Rattle.solve_solver.proofs.Shown.{reason_shows}
use Rattle.solve_solver.proofs.learner.Learner.scan.Goals as goal

pub returns-in_default : goal.returns-in_default
returns-in_default g c =
    let T = g.T.Theory in
    let s = c.self.inside.state in
    let step = c.find-step.result in
    let learned = c.self.inside.learned in
    let at_trail = subst (λ es. IsMet es (clause_in c.clauses-given.result.now.list (Some learned) step.reason) step.state) c.trail-trail.ensures.entries c.find-step.ensures.met in
    let here = subst (λ cs. IsMet s.entries (clause_in cs (Some learned) step.reason) step.state) c.clauses-given.ensures.list at_trail in
    record {
      kept = c.self.view_is;
      shown = subst (λ (v : LearnerView _ _). IsMetIn (Lawful T.models T.meets v.state) v.state.vars v.state.entries step.state) c.self.view_is
          (reason_shows T.models T.meets s learned step.reason step.state c.clauses-given.ensures.within c.self.invariant.entailed c.self.invariant.within here);
      met = subst (λ (v : LearnerView _ _). IsMet v.state.entries (clause_by v step.reason) step.state) c.self.view_is here;
    }
