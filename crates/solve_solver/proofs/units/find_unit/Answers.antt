use Rattle.solve_solver.proofs.Scans.{found_round}
use Rattle.solve_solver.proofs.units.find_unit.Goals as goal

pub returns-in-Open : goal.returns-in-Open
returns-in-Open c =
    found_round c.args.trail.now.entries c.args.clauses.now.list c.min-middle.result c.scan-found.result.state c.scan.result.state c.scan-found.result.clause c.scan.result.clause c.in-Open.is
    (rw (← c.len-count.ensures) c.scan-found.ensures) c.scan.ensures
