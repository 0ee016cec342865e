use Rattle.std.proofs.Common.{map}
use Rattle.certify_atoms.proofs.OrderLaws.{on_ok_too, orders_more}
use Rattle.certify_atoms.proofs.orders.push_orders_of.Goals as goal

pub returns-then-is_number-2 : goal.returns-then-is_number-2
returns-then-is_number-2 c =
    let r = c.args.reader in
    on_ok_too c.push_orders.result _ _
    (λ e h.
    orders_more r.signature.now r.arena.now r.terms.now r.words.now r.texts.now c.in-Same.v c.in-Same.u (map (λ c. c.items) c.args.clauses.now.items) (map (λ c. c.items) c.push_orders.new.clauses.items)
    (c.is_number.ensures c.if-is_number.true) (c.is_number-then-is_number.ensures c.if-is_number-2.true) e h)
    c.push_orders.ensures
