use Rattle.std.proofs.Common.{◌≡◌, length, arith}
use Rattle.solve_equality.proofs.VisitsLemmas.{unmarked}
use Rattle.solve_equality.proofs.visits.unmark.Goals as goal

pub returns : goal.returns
returns c =
    let all_passed : c.loop-visit.visit-index ≡ length c.args.visits.now = omega arith in
    unmarked c.args.visits.now c.loop-visit.seen (rw (← all_passed) c.loop-visit.invariant)
