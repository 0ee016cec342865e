use Rattle.std.proofs.Common.{arith}
use Rattle.std.proofs.lemmas.List.Elements.{AllWithin-more, AllWithin-upto}
use Rattle.std.proofs.lemmas.Option.{get_or_from_slice_get}
use Rattle.solve_solver.specs.Units.{IsOpen}
use Rattle.solve_solver.proofs.units.scan.Goals as goal

pub loop-clause-preserved : goal.loop-clause-preserved
loop-clause-preserved c =
    let clauses = c.args.clauses.now.list in
    let es = c.args.trail.now.entries in
    AllWithin-more (IsOpen es) clauses c.args.start c.loop-clause.clause c.loop-clause.invariant
    (λ d. rw (get_or_from_slice_get clauses c.loop-clause.clause c.clause.result.now d c.clause.ensures) c.in-Open.ensures)

pub returns : goal.returns
returns c =
    let es = c.args.trail.now.entries in
    AllWithin-upto (IsOpen es) c.args.clauses.now.list c.args.start c.loop-clause.clause c.args.end (omega arith) c.loop-clause.invariant
