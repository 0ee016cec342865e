use Rattle.solve_solver.proofs.LearnedClauses.{contained_pushed}
use Rattle.solve_solver.proofs.learned.copy_clause.Goals as goal

pub returns-then-has_room-clause-contained : goal.returns-then-has_room-clause-contained
returns-then-has_room-clause-contained c h =
    rw c.push_within.ensures.list
    (contained_pushed c.args.from.now.list c.args.to.now.list c.args.slot c.clause-clause.result.now c.clause-clause.ensures h)
