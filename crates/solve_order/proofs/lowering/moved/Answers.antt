use Rattle.std.proofs.Common.{arith}
use Rattle.std.proofs.lemmas.Int.{ints}
use Rattle.solve_order.proofs.lowering.moved.Goals as goal

pub returns : goal.returns
returns c = omega (arith, ints)
