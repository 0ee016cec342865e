use Rattle.std.proofs.Common.{◌≡◌, ◌<◌, ◌≤◌, ◌<ℤ◌, length, refl, arith, ap, slice_index, to_z, of_z}
use Rattle.std.specs.Int.{w128}
use Rattle.std.proofs.lemmas.Int.{ints, to_z-of_z}
use Rattle.std.proofs.lemmas.List.{get_or_read}
use Rattle.solve_order.specs.declared.frontier.Reach.{Reach}
use Rattle.solve_order.specs.declared.frontier.TheConstants.{UNSETTLED}
use Rattle.solve_order.specs.Reach.{reach_of}
use Rattle.solve_order.proofs.FrontierLemmas.{lowered_not_negative, unsettled_place, heap_before_lower, IsFrontier-lower, heap_before_join, IsFrontier-join}
use Rattle.solve_order.proofs.frontier.Frontier.lower.Goals as goal

pub invariant_of-self : goal.invariant_of-self
invariant_of-self c =
    let s = c.self.inside in
    let f = c.self.invariant in
    let paired = s.order.paired in
    let v = c.args.v in
    let r : Reach = record { lowered = to_z w128 (of_z w128 c.args.lowered); rank = UNSETTLED; from = c.args.from; via = c.args.via } in
    let long = f.as_long in
    let v_within : v < length s.reached.items = omega (arith, ap length c.self.view_is, c.requires.within) in
    let place : c.index.result.now ≡ slice_index s.order.places.items v = get_or_read s.order.places.items v c.index.result.now (omega (arith, paired.as_long)) c.index.ensures 0 in
    let unsettled : (reach_of s.reached.items v).rank ≡ UNSETTLED = rw c.self.view_is c.requires.unsettled in
    let exact : r.lowered ≡ c.args.lowered = to_z-of_z w128 c.args.lowered c.ranges.lowered in
    let lower : (reach_of s.reached.items v).lowered <ℤ r.lowered = rw exact (rw c.self.view_is c.requires.lowers) in
    let beyond : s.touched ≤ slice_index s.order.places.items v = omega arith in
    let old = lowered_not_negative s.reached.items s.order.items.items s.order.places.items s.waiting s.touched paired f v v_within in
    let e = c.sift_up.ensures in
    IsFrontier-join s.reached.items s.order.items.items s.order.places.items s.waiting s.touched paired f v r c.join.new.order.items.items c.join.new.order.places.items _ _ v_within beyond c.join.ensures c.join.new.order.paired (omega (arith, ints)) refl (rw c.deref.ensures.value at e.heap) e.kept e.length

pub sift_up-requires-clause-heap : goal.sift_up-requires-clause-heap
sift_up-requires-clause-heap c =
    let s = c.self.inside in
    let f = c.self.invariant in
    let paired = s.order.paired in
    let v = c.args.v in
    let r : Reach = record { lowered = to_z w128 (of_z w128 c.args.lowered); rank = UNSETTLED; from = c.args.from; via = c.args.via } in
    let long = f.as_long in
    let v_within : v < length s.reached.items = omega (arith, ap length c.self.view_is, c.requires.within) in
    let place : c.index.result.now ≡ slice_index s.order.places.items v = get_or_read s.order.places.items v c.index.result.now (omega (arith, paired.as_long)) c.index.ensures 0 in
    let unsettled : (reach_of s.reached.items v).rank ≡ UNSETTLED = rw c.self.view_is c.requires.unsettled in
    let exact : r.lowered ≡ c.args.lowered = to_z-of_z w128 c.args.lowered c.ranges.lowered in
    let lower : (reach_of s.reached.items v).lowered <ℤ r.lowered = rw exact (rw c.self.view_is c.requires.lowers) in
    let beyond : s.touched ≤ slice_index s.order.places.items v = omega arith in
    rw c.deref.ensures.value (heap_before_join s.reached.items s.order.items.items s.order.places.items s.waiting s.touched paired f v r c.join.new.order.items.items c.join.new.order.places.items beyond c.join.ensures)

pub sift_up-requires-else-place-self-clause-heap : goal.sift_up-requires-else-place-self-clause-heap
sift_up-requires-else-place-self-clause-heap c =
    let s = c.self.inside in
    let f = c.self.invariant in
    let paired = s.order.paired in
    let v = c.args.v in
    let r : Reach = record { lowered = to_z w128 (of_z w128 c.args.lowered); rank = UNSETTLED; from = c.args.from; via = c.args.via } in
    let long = f.as_long in
    let v_within : v < length s.reached.items = omega (arith, ap length c.self.view_is, c.requires.within) in
    let place : c.index.result.now ≡ slice_index s.order.places.items v = get_or_read s.order.places.items v c.index.result.now (omega (arith, paired.as_long)) c.index.ensures 0 in
    let unsettled : (reach_of s.reached.items v).rank ≡ UNSETTLED = rw c.self.view_is c.requires.unsettled in
    let exact : r.lowered ≡ c.args.lowered = to_z-of_z w128 c.args.lowered c.ranges.lowered in
    let lower : (reach_of s.reached.items v).lowered <ℤ r.lowered = rw exact (rw c.self.view_is c.requires.lowers) in
    let waits = unsettled_place s.reached.items s.order.items.items s.order.places.items s.waiting s.touched paired f v v_within unsettled (omega arith) in
    rw (c.deref-else-place-self.ensures.value, place) (heap_before_lower s.reached.items s.order.items.items s.order.places.items s.waiting s.touched paired f v r v_within waits lower)

pub invariant_of-self-else-place-self : goal.invariant_of-self-else-place-self
invariant_of-self-else-place-self c =
    let s = c.self.inside in
    let f = c.self.invariant in
    let paired = s.order.paired in
    let v = c.args.v in
    let r : Reach = record { lowered = to_z w128 (of_z w128 c.args.lowered); rank = UNSETTLED; from = c.args.from; via = c.args.via } in
    let long = f.as_long in
    let v_within : v < length s.reached.items = omega (arith, ap length c.self.view_is, c.requires.within) in
    let place : c.index.result.now ≡ slice_index s.order.places.items v = get_or_read s.order.places.items v c.index.result.now (omega (arith, paired.as_long)) c.index.ensures 0 in
    let unsettled : (reach_of s.reached.items v).rank ≡ UNSETTLED = rw c.self.view_is c.requires.unsettled in
    let exact : r.lowered ≡ c.args.lowered = to_z-of_z w128 c.args.lowered c.ranges.lowered in
    let lower : (reach_of s.reached.items v).lowered <ℤ r.lowered = rw exact (rw c.self.view_is c.requires.lowers) in
    let waits = unsettled_place s.reached.items s.order.items.items s.order.places.items s.waiting s.touched paired f v v_within unsettled (omega arith) in
    let e = c.sift_up-else-place-self.ensures in
    IsFrontier-lower s.reached.items s.order.items.items s.order.places.items s.waiting s.touched paired f v r _ _ v_within waits lower refl (rw c.deref-else-place-self.ensures.value at e.heap) e.kept e.length
