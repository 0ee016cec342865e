use Rattle.std.proofs.Common.{◌≡◌, ◌<◌, ◌+◌, ◌-◌, ℕ, map, length, arith, subst}
use Rattle.std.proofs.lemmas.List.{length-map}
use Rattle.form_strata.specs.Places.{AreGrouped}
use Rattle.form_strata.proofs.PlaceLemmas.{place_within, grouped_step}
use Rattle.form_strata.proofs.places.places_of.Goals as goal

pub push_place-requires : goal.push_place-requires
push_place-requires c =
    place_within c.args.graph.now c.args.vertices c.loop-place.place (c.loop-place.place - 1) c.loop-place.places.items c.requires
    (omega (arith, c.loop-place-test.true, c.loop-place.invariant.0)) c.loop-place.invariant.1

pub loop-place-preserved : goal.loop-place-preserved
loop-place-preserved c =
    let first : ℕ = c.loop-place.place - 1 in
    let there : first < length c.args.graph.now = omega (arith, c.loop-place-test.true, c.loop-place.invariant.0) in
    let next : c.loop-place.place ≡ first + 1 = omega (arith, c.loop-place-test.true) in
    let within = place_within c.args.graph.now c.args.vertices c.loop-place.place first c.loop-place.places.items c.requires there c.loop-place.invariant.1 in (
      omega (arith, there),
      grouped_step c.args.graph.now c.args.vertices first (map (λ l. l.items) c.loop-place.places.items) (map (λ l. l.items) c.push_place.new.places.items) there
          (omega (arith, within, length-map c.loop-place.places.items (λ l. l.items))) c.in_ok-push_place.ensures
          (subst (λ (k : ℕ). AreGrouped c.args.graph.now k c.args.vertices (map (λ l. l.items) c.loop-place.places.items)) next c.loop-place.invariant.1),
    )

pub returns : goal.returns
returns c =
    let end : c.loop-place.place ≡ 0 = omega (arith, c.loop-place-test.false) in
    subst (λ (k : ℕ). AreGrouped c.args.graph.now k c.args.vertices (map (λ l. l.items) c.loop-place.places.items)) end c.loop-place.invariant.1
