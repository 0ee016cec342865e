use Rattle.std.proofs.Common.{◌≡◌, ◌≢◌, ℕ, ◌<◌, ◌∙◌, length, None, arith}
use Rattle.std.proofs.lemmas.List.{length-map, get_or_read}
use Rattle.std.proofs.lemmas.Option.{MatchOption-at_some}
use Rattle.solve_equality.specs.EdgeList.{ends_of}
use Rattle.solve_equality.proofs.EdgesLemmas.{IsSoundEdges-push_none, IsSoundEdges-push_some}
use Rattle.solve_equality.proofs.edges.Edges.push.Goals as goal

pub invariant_of-self : goal.invariant_of-self
invariant_of-self c =
    let inside = c.self.inside in
    let room : length inside.list.items < inside.limit = omega (arith, rw (← c.self.view_is) at c.requires.room, length-map inside.list.items ends_of) in
    rw c.push_within.ensures.items
    (IsSoundEdges-push_none inside.list.items inside.newest.items inside.limit _ c.self.invariant _ c.push_within.ensures.capacity room)

pub invariant_of-self-in-Some : goal.invariant_of-self-in-Some
invariant_of-self-in-Some c =
    let inside = c.self.inside in
    let terms = length inside.newest.items in
    let room : length inside.list.items < inside.limit = omega (arith, rw (← c.self.view_is) at c.requires.room, length-map inside.list.items ends_of) in
    let within = MatchOption-at_some (Unit {0}) (λ (e : ℕ × ℕ). (e.0 < terms) × (e.1 < terms)) (c.in-Some.left, c.in-Some.right) c.in-Some.is (rw (← c.self.view_is) at c.requires.within) in
    let apart = MatchOption-at_some (Unit {0}) (λ (e : ℕ × ℕ). e.0 ≢ e.1) (c.in-Some.left, c.in-Some.right) c.in-Some.is c.requires.apart in
    let number : c.len-number.result ≡ length inside.list.items = c.len-number.ensures ∙ inside.list.ok.0 in
    let left_older = get_or_read inside.newest.items c.in-Some.left c.index.result.now within.0 c.index.ensures None in
    let right_older = get_or_read inside.newest.items c.in-Some.right c.index-in-Some.result.now within.1 c.index-in-Some.ensures None in
    rw (c.push_within-in-Some.ensures.items, left_older, right_older, number)
    (IsSoundEdges-push_some inside.list.items inside.newest.items inside.limit _ c.self.invariant _ c.push_within-in-Some.ensures.capacity room c.in-Some.left c.in-Some.right within.0 within.1 apart)
