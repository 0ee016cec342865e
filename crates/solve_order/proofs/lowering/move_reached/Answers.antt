use Rattle.std.proofs.Common.{◌≡◌, ◌<◌, length, pos, slice_index, ap, ◌∙◌, to_z, of_z, w64, arith}
use Rattle.std.proofs.lemmas.List.{get_or_read, get_or_default}
use Rattle.std.proofs.lemmas.Int.{ints}
use Rattle.solve_order.specs.declared.frontier.Reach.{Reach}
use Rattle.solve_order.specs.Difference.{value_of}
use Rattle.solve_order.specs.Reach.{unreached}
use Rattle.solve_order.specs.Lowering.{moved_value}
use Rattle.solve_order.proofs.LoweringLemmas.{moved_more}
use Rattle.solve_order.proofs.lowering.move_reached.Goals as goal

pub loop-place-preserved : goal.loop-place-preserved
loop-place-preserved c =
    let order = c.args.order.now in
    let paired = order.paired in
    let reached = c.args.reached.now in
    let old = c.args.values.now.items in
    let new = c.loop-place.values.items in
    let inv = c.loop-place.invariant in
    let can = c.requires.can_move in
    let i = c.loop-place.place in
    let v = c.index.result.now in
    let long = c.requires.as_long in
    let below = c.requires.touched_below in
    let within : i < length order.items.items = omega arith in
    let is : v ≡ slice_index order.items.items i = get_or_read order.items.items i v within c.index.ensures 0 in
    let at_i = paired.item_at i within in
    let v_within : v < length old = let x = at_i.0 in omega arith in
    let place : slice_index order.places.items v ≡ i = ap (slice_index order.places.items) is ∙ at_i.1 in
    let read : c.index-in-loop-place.result.now ≡ value_of new v = get_or_read new v c.index-in-loop-place.result.now (let x = inv.0 in omega arith) c.index-in-loop-place.ensures (pos 0) in
    let was : value_of new v ≡ value_of old v = inv.2 v v_within (omega arith) in
    let reach = ap (λ (r : Reach). r.lowered) (get_or_default reached v (record { lowered = pos 0; rank = 0; from = 0; via = 0 }) unreached (let x = can.as_long in omega arith)) in
    let low = can.low v v_within in
    let high = can.high v v_within in
    let moved = c.moved.ensures in
    let value : to_z w64 (of_z w64 c.moved.result) ≡ moved_value old reached (pos 0) v = omega (arith, ints) in
    moved_more order.items.items order.places.items old new reached i v (to_z w64 (of_z w64 c.moved.result)) paired long within is value inv
