use Rattle.std.proofs.Common.{ap, arith}
use Rattle.std.proofs.lemmas.Int.{ints}
use Rattle.solve_order.specs.declared.frontier.Reach.{Reach}
use Rattle.solve_order.proofs.search.asked.Goals as goal

pub overflow_sub-result : goal.overflow_sub-result
overflow_sub-result c = let e = ap (λ (r : Reach). r.lowered) c.at.ensures in omega (arith, ints)

pub returns : goal.returns
returns c = let e = ap (λ (r : Reach). r.lowered) c.at.ensures in omega (arith, ints)
