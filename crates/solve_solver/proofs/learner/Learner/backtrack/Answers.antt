use Rattle.std.proofs.Common.{arith}
use Rattle.solve_solver.proofs.learner.Learner.backtrack.Goals as goal

pub returns-clause-less : goal.returns-clause-less
returns-clause-less g c =
    let bound = rw c.pop_to_point.ensures.problem.vars at c.conclude.ensures.less in
    omega (arith, bound, c.in-Some.ensures.cases.less)
