use Rattle.std.proofs.Common.{map}
use Rattle.certify_atoms.specs.Orders.{AreOrders}
use Rattle.certify_atoms.proofs.orders.orders_of.Given as goal

abbrev pub invariant-loop-fact : goal.invariant-loop-fact
invariant-loop-fact l =
    let r = l.reader in AreOrders r.signature.now r.arena.now r.terms.now r.words.now r.texts.now (map (λ c. c.items) l.clauses.items)
