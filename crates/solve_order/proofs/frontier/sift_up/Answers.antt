use Rattle.std.proofs.Common.{◌-◌, ◌/◌, ◌≤ℤ◌, length, refl, arith, ap, ◌∙◌}
use Rattle.std.proofs.lemmas.Int.{ints}
use Rattle.std.proofs.lemmas.List.Edits.{length-swap}
use Rattle.solve_order.specs.Reach.{lowered_at}
use Rattle.solve_order.proofs.HeapLemmas.{up_step}
use Rattle.solve_order.proofs.OrderLemmas.{lowered_at-swap, KeepsBeyond-trans, KeepsBeyond-exchange}
use Rattle.solve_order.proofs.frontier.sift_up.Goals as goal

pub loop-at-preserved : goal.loop-at-preserved
loop-at-preserved c =
    let inv = c.loop-at.invariant in
    let at = c.loop-at.at in
    let parent = (at - 1) / 2 in
    let reached = c.args.reached.now in
    let old = c.loop-at.order in
    let new = c.exchange.new.self in
    let e = c.exchange.ensures in
    let lower = c.if-not-is_lower.ensures in
    let f = lowered_at reached old.items.items in
    let less : f parent ≤ℤ f at = let h = lower.0 refl in omega (arith, ints) in
    let swapped = lowered_at-swap reached old.items.items new.items.items at parent e.swapped (omega arith) (omega arith) in
    (omega arith, up_step f (lowered_at reached new.items.items) c.args.waiting at parent swapped (omega arith) (omega arith) inv.0 inv.1 less, KeepsBeyond-trans c.args.waiting _ _ _ inv.2 (KeepsBeyond-exchange c.args.waiting at parent _ _ _ _ old.paired new.paired (omega arith) inv.0 (omega arith) e), ap length e.swapped ∙ length-swap old.items.items at parent ∙ inv.3)
