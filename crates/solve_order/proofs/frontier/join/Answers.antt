use Rattle.std.proofs.Common.{arith}
use Rattle.std.proofs.lemmas.List.{get_or_read}
use Rattle.solve_order.proofs.OrderLemmas.{JoinsWaiting-exchanges}
use Rattle.solve_order.proofs.frontier.join.Goals as goal

pub returns : goal.returns
returns c =
    let order = c.args.order.now in
    let place = get_or_read order.places.items c.args.v c.index.result.now (omega (arith, order.paired.as_long)) c.index.ensures 0 in
    JoinsWaiting-exchanges c.args.waiting c.args.touched c.args.v c.index.result.now _ _ _ _ _ _ order.paired c.exchange.new.self.paired c.exchange-2.new.self.paired c.requires.within c.requires.waiting_below place c.requires.beyond c.exchange.ensures c.exchange-2.ensures
