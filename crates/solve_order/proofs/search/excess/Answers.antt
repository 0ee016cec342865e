use Rattle.std.proofs.Common.{arith}
use Rattle.std.proofs.lemmas.Int.{ints}
use Rattle.solve_order.proofs.DifferenceLemmas.{IsLiteral-from_test}
use Rattle.solve_order.proofs.search.excess.Goals as goal

pub returns : goal.returns
returns c =
    let fits = IsLiteral-from_test _ c.args.literal c.requires in
    let low = fits.low in
    let high = fits.high in
    omega (arith, ints)
