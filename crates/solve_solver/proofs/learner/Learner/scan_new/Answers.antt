use Rattle.std.proofs.Common.{subst}
use Rattle.solve_solver.specs.ContextView.{Lawful}
use Rattle.solve_solver.specs.LearnerView.{LearnerView}
use Rattle.solve_solver.specs.Scanned.{IsMetIn}
use Rattle.solve_solver.specs.Units.{IsFoundWithin}
use Rattle.solve_solver.proofs.Shown.{within_shows}
use Rattle.solve_solver.proofs.learner.Learner.scan_new.Goals as goal

pub returns-clause-shown : goal.returns-clause-shown
returns-clause-shown g c =
    let T = g.T.Theory in
    let s = c.self.inside.state in
    let found = c.scan-found.result in
    let start = c.min.result in
    let count = c.len-count.result in
    let at_trail = subst (λ es. IsFoundWithin es c.clauses-given.result.now.list start count found.state found.clause) c.trail.ensures.entries c.scan-found.ensures in
    let here = subst (λ cs. IsFoundWithin s.entries cs start count found.state found.clause) c.clauses-given.ensures.list at_trail in
    subst (λ (v : LearnerView _ _). IsMetIn (Lawful T.models T.meets v.state) v.state.vars v.state.entries found.state) c.self.view_is
    (within_shows T.models T.meets s start count found.clause found.state c.clauses-given.ensures.within here)
