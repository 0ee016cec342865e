use Rattle.std.proofs.Common.{◌≡◌, ◌-◌, ◌<◌, length, arith, ap, ◌∙◌, sym, subst, slice_index}
use Rattle.std.proofs.lemmas.List.{get_or_read}
use Rattle.std.proofs.lemmas.List.Edits.{length-swap}
use Rattle.solve_order.specs.declared.frontier.Reach.{Reach}
use Rattle.solve_order.specs.Reach.{unreached, reach_of, lowered_at, IsAlmostHeapBelow}
use Rattle.solve_order.proofs.FrontierLemmas.{heap_before_settle, IsFrontier-settle, settles_lowest}
use Rattle.solve_order.proofs.frontier.Frontier.settle.Goals as goal

pub sift_down-requires-clause-heap : goal.sift_down-requires-clause-heap
sift_down-requires-clause-heap c =
    let s = c.self.inside in
    let f = c.self.invariant in
    let paired = s.order.paired in
    let v = c.index-v.result.now in
    let found = c.index_mut.result.now in
    let rank = s.touched - s.waiting in
    let r : Reach = record { lowered = found.lowered; rank = rank; from = found.from; via = found.via } in
    let some : 0 < s.waiting = omega arith in
    let below = f.waiting_below in
    let within = f.touched_below in
    let first : v ≡ slice_index s.order.items.items 0 = get_or_read s.order.items.items 0 v (omega arith) c.index-v.ensures 0 in
    let v_at = paired.item_at 0 (omega arith) in
    let long = f.as_long in
    let was : found ≡ reach_of s.reached.items v = get_or_read s.reached.items v found (omega arith) c.index_mut.ensures.value unreached in
    let ranked : r ≡ record (reach_of s.reached.items v) { rank = rank } = ap (λ (q : Reach). record q { rank = rank }) was in
    let new = c.exchange.new.self in
    subst (λ xs. IsAlmostHeapBelow (lowered_at xs new.items.items) (s.waiting - 1) 0) (sym c.deref.ensures.value)
    (heap_before_settle s.reached.items s.order.items.items s.order.places.items s.waiting s.touched paired f v r some first ranked new.items.items new.places.items c.exchange.ensures)

pub invariant_of-self : goal.invariant_of-self
invariant_of-self c =
    let s = c.self.inside in
    let f = c.self.invariant in
    let paired = s.order.paired in
    let v = c.index-v.result.now in
    let found = c.index_mut.result.now in
    let rank = s.touched - s.waiting in
    let r : Reach = record { lowered = found.lowered; rank = rank; from = found.from; via = found.via } in
    let some : 0 < s.waiting = omega arith in
    let below = f.waiting_below in
    let within = f.touched_below in
    let first : v ≡ slice_index s.order.items.items 0 = get_or_read s.order.items.items 0 v (omega arith) c.index-v.ensures 0 in
    let v_at = paired.item_at 0 (omega arith) in
    let long = f.as_long in
    let was : found ≡ reach_of s.reached.items v = get_or_read s.reached.items v found (omega arith) c.index_mut.ensures.value unreached in
    let ranked : r ≡ record (reach_of s.reached.items v) { rank = rank } = ap (λ (q : Reach). record q { rank = rank }) was in
    let new = c.exchange.new.self in
    let e = c.sift_down.ensures in
    IsFrontier-settle s.reached.items s.order.items.items s.order.places.items s.waiting s.touched paired f v r some first ranked new.items.items new.places.items _ _ c.exchange.ensures new.paired (ap length c.exchange.ensures.swapped ∙ length-swap s.order.items.items 0 (s.waiting - 1)) (rw c.deref.ensures.value at e.heap) e.kept e.length

pub returns-clause-settled : goal.returns-clause-settled
returns-clause-settled c =
    let s = c.self.inside in
    let f = c.self.invariant in
    let paired = s.order.paired in
    let v = c.index-v.result.now in
    let found = c.index_mut.result.now in
    let rank = s.touched - s.waiting in
    let r : Reach = record { lowered = found.lowered; rank = rank; from = found.from; via = found.via } in
    let some : 0 < s.waiting = omega arith in
    let below = f.waiting_below in
    let within = f.touched_below in
    let first : v ≡ slice_index s.order.items.items 0 = get_or_read s.order.items.items 0 v (omega arith) c.index-v.ensures 0 in
    let v_at = paired.item_at 0 (omega arith) in
    let long = f.as_long in
    let was : found ≡ reach_of s.reached.items v = get_or_read s.reached.items v found (omega arith) c.index_mut.ensures.value unreached in
    let ranked : r ≡ record (reach_of s.reached.items v) { rank = rank } = ap (λ (q : Reach). record q { rank = rank }) was in
    rw (← c.self.view_is) (settles_lowest s.reached.items s.order.items.items s.order.places.items s.waiting s.touched paired f v r some first ranked)
