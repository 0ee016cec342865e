use Rattle.std.proofs.Common.{◌≡◌, ◌∙◌, ap, arith, subst}
use Rattle.std.proofs.lemmas.Option.{get_or_from_slice_get}
use Rattle.solve_equality.specs.Visits.{visit_at}
use Rattle.solve_equality.specs.Search.{AreLinkedBy}
use Rattle.solve_equality.proofs.PathLemmas.{once_push, later_push, links_push, has_room, edges_of_later}
use Rattle.solve_equality.proofs.path.write_path.Goals as goal

pub push-requires : goal.push-requires
push-requires c =
    let inv = c.loop-place.invariant in
    omega (arith, has_room c.args.links.now.pairs c.search.new.visits.visits c.search.ensures.tree c.loop-place.place c.loop-place-test.true inv.within c.loop-place.path.items inv.later inv.once, inv.capacity, c.requires.room)

pub loop-place-smaller : goal.loop-place-smaller
loop-place-smaller c =
    let at_place = get_or_from_slice_get c.search.new.visits.visits c.loop-place.place c.at-visit.result (record { term = 0; via = 0; from = 0 }) c.at-visit.ensures.value in
    rw at_place at (c.search.ensures.tree.reached c.loop-place.place c.loop-place-test.true c.loop-place.invariant.within).earlier

pub loop-place-preserved : goal.loop-place-preserved
loop-place-preserved c =
    let pairs = c.args.links.now.pairs in
    let visits = c.search.new.visits.visits in
    let place = c.loop-place.place in
    let path = c.loop-place.path.items in
    let inv = c.loop-place.invariant in
    let tree = c.search.ensures.tree in
    let at_place = get_or_from_slice_get visits place c.at-visit.result (record { term = 0; via = 0; from = 0 }) c.at-visit.ensures.value in
    let earlier = (tree.reached place c.loop-place-test.true inv.within).earlier in
    rw (c.push.ensures.items, ← at_place)
    (record {
      within = omega (arith, earlier, inv.within);
      capacity = c.push.ensures.capacity ∙ inv.capacity;
      later = later_push pairs visits tree place c.loop-place-test.true inv.within path inv.later inv.once;
      once = once_push pairs visits tree place c.loop-place-test.true inv.within path inv.later inv.once;
      links = links_push pairs visits tree place c.loop-place-test.true inv.within path inv.later inv.once c.args.right inv.links;
    })

pub returns-clause-path : goal.returns-clause-path
returns-clause-path c =
    let pairs = c.args.links.now.pairs in
    let visits = c.search.new.visits.visits in
    let inv = c.loop-place.invariant in
    let at_start : c.loop-place.place ≡ 0 = omega arith in
    record {
      edges = edges_of_later pairs visits c.search.ensures.tree c.loop-place.path.items (rw at_start at inv.later);
      once = inv.once;
      links = subst (λ t. AreLinkedBy pairs c.loop-place.path.items t c.args.right) (ap (λ k. (visit_at visits k).term) at_start ∙ c.search.ensures.starts) inv.links;
    }
