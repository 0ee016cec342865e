use Rattle.std.proofs.Common.{sym, ◌∙◌}
use Rattle.solve_solver.proofs.Entailment.{OnTrue-weaker}
use Rattle.solve_solver.proofs.ValuesSet.{none_set, values_found}
use Rattle.solve_solver.proofs.solver.Solver.search.Goals as goal
use Rattle.solve_solver.proofs.solver.Solver.search.Goals.{then-self, else-self}

pub returns-clause-values : goal.returns-clause-values
returns-clause-values g c =
    let s = c.run-self-inside.new.self.state in
    values_found c.run-self-inside.result s.vars s.entries c.clear.new.self.entries
    (OnTrue-weaker c.run-self-inside.result (λ solved. solved.held.set_each) c.run-self-inside.ensures.found)

pub returns-clause-no_value : goal.returns-clause-no_value
returns-clause-no_value g c unsat = elim c.if-self.branch [
  | then-self w ↦ let never = sym w.result-is ∙ unsat in cc
  | else-self w ↦ rw (w.if-self.false, c.clear.ensures.entries) (none_set c.run-self-inside.new.self.state.vars)
]
