use Rattle.std.proofs.Common.{subst}
use Rattle.solve_solver.specs.Scanned.{IsScanned}
use Rattle.solve_solver.specs.ContextView.{ContextView}
use Rattle.solve_solver.specs.Units.{IsFoundIn}
use Rattle.solve_solver.proofs.Shown.{context_scanned}
use Rattle.solve_solver.proofs.context.Context.find_unit.Goals as goal

pub returns-clause-scanned : goal.returns-clause-scanned
returns-clause-scanned g c =
    let T = g.T.Theory in
    let found = c.find_unit.result in
    subst (λ (s : ContextView _ _). IsScanned T.literals T.models T.meets found.state s) c.self.view_is
    (context_scanned T.models T.meets _ T.literals T.capacity T.takes found.state found.clause c.self.invariant.state c.find_unit.ensures)

pub returns-clause-found : goal.returns-clause-found
returns-clause-found g c =
    let found = c.find_unit.result in
    subst (λ (s : ContextView _ _). IsFoundIn s.entries s.clauses found.state found.clause) c.self.view_is c.find_unit.ensures
