use Rattle.std.proofs.Common.{◌≤ℤ◌, pos, subst, arith}
use Rattle.std.proofs.lemmas.Int.{ints}
use Rattle.solve_order.specs.Potential.{Meets}
use Rattle.solve_order.specs.Search.{IsRepaired}
use Rattle.solve_order.proofs.RepairLemmas.{IsPotential-met, CanMove-repaired, IsPotential-repaired}
use Rattle.solve_order.proofs.repair.repair.Goals as goal

pub returns-then-excess-le0-clause-potential : goal.returns-then-excess-le0-clause-potential
returns-then-excess-le0-clause-potential c =
    let values = c.args.values.now.items in
    let e = rw c.deref.ensures.value at c.excess.ensures in
    let small : c.excess.result ≤ℤ pos 0 = grind (arith, ints, c.if-excess-le0.true) in
    let met : Meets values c.args.goal = omega (arith, ints) in
    IsPotential-met c.args.edges.now values c.args.goal c.requires.potential c.requires.fits met

pub apply-requires-clause-can_move : goal.apply-requires-clause-can_move
apply-requires-clause-can_move c =
    let values = c.args.values.now.items in
    let repaired = subst (λ vs. IsRepaired c.args.edges.now.literals vs c.args.goal c.run.new.frontier) c.as_slice.ensures.value c.in_default.ensures.repaired in
    CanMove-repaired c.args.edges.now values c.args.goal c.run.new.frontier c.requires.potential c.requires.some repaired

pub returns-clause-potential : goal.returns-clause-potential
returns-clause-potential c =
    let values = c.args.values.now.items in
    let repaired = subst (λ vs. IsRepaired c.args.edges.now.literals vs c.args.goal c.run.new.frontier) c.as_slice.ensures.value c.in_default.ensures.repaired in
    IsPotential-repaired c.args.edges.now values c.args.goal c.run.new.frontier c.requires.potential c.requires.some repaired c.apply.new.values.items c.requires.fits c.apply.ensures
