use Rattle.std.proofs.Common.{◌≡◌, ◌<◌, ℕ, List, length, map, ◌∙◌, sym, subst, refl, arith, ◌⊎◌}
use Rattle.std.proofs.Math.Nat.{le_refl}
use Rattle.std.proofs.lemmas.Bool.{false≢true}
use Rattle.std.proofs.lemmas.List.{length-map}
use Rattle.solve_equality.specs.declared.entry.Entry.{Entry}
use Rattle.solve_equality.specs.Partition.{class_at}
use Rattle.solve_equality.specs.EntryEnds.{literal_of}
use Rattle.solve_equality.proofs.EqualityState.{parts_fit, plan_fits, HasModel-sound, no_model-sound, failure_if_none}
use Rattle.solve_equality.proofs.EqualityAsserts.{search_members, known_sound, joined_sound, failed_same_sound}
use Rattle.solve_equality.proofs.equality.Equality.assert_same.Goals as goal

-- there is room for another entry
room_left : (entries : List Entry) (limit : ℕ) → length (map literal_of entries) < limit → length entries < limit
room_left entries limit l = omega (arith, length-map entries literal_of)

pub class_of-requires : goal.class_of-requires
class_of-requires c =
    let e = c.self.inside in
    let fits = parts_fit e.entries.items e.entries.cap e.limit e.links.terms e.fixed.items e.links e.gaps e.parts e.visits e.failure c.self.invariant in
    let left_in : c.args.left < e.links.terms = rw (← c.self.view_is) at c.requires.left_in in
    let right_in : c.args.right < e.links.terms = rw (← c.self.view_is) at c.requires.right_in in
    omega (arith, fits.0, left_in)

pub class_of-requires-2 : goal.class_of-requires-2
class_of-requires-2 c =
    let e = c.self.inside in
    let fits = parts_fit e.entries.items e.entries.cap e.limit e.links.terms e.fixed.items e.links e.gaps e.parts e.visits e.failure c.self.invariant in
    let left_in : c.args.left < e.links.terms = rw (← c.self.view_is) at c.requires.left_in in
    let right_in : c.args.right < e.links.terms = rw (← c.self.view_is) at c.requires.right_in in
    omega (arith, fits.0, right_in)

pub plan_join-join-requires-clause-left_in : goal.plan_join-join-requires-clause-left_in
plan_join-join-requires-clause-left_in c =
    let e = c.self.inside in
    let fits = parts_fit e.entries.items e.entries.cap e.limit e.links.terms e.fixed.items e.links e.gaps e.parts e.visits e.failure c.self.invariant in
    let left_in : c.args.left < e.links.terms = rw (← c.self.view_is) at c.requires.left_in in
    let right_in : c.args.right < e.links.terms = rw (← c.self.view_is) at c.requires.right_in in
    omega (arith, fits.0, left_in)

pub plan_join-join-requires-clause-right_in : goal.plan_join-join-requires-clause-right_in
plan_join-join-requires-clause-right_in c =
    let e = c.self.inside in
    let fits = parts_fit e.entries.items e.entries.cap e.limit e.links.terms e.fixed.items e.links e.gaps e.parts e.visits e.failure c.self.invariant in
    let left_in : c.args.left < e.links.terms = rw (← c.self.view_is) at c.requires.left_in in
    let right_in : c.args.right < e.links.terms = rw (← c.self.view_is) at c.requires.right_in in
    omega (arith, fits.0, right_in)

pub plan_join-join-requires-clause-left_class : goal.plan_join-join-requires-clause-left_class
plan_join-join-requires-clause-left_class c =
    let e = c.self.inside in
    let fits = parts_fit e.entries.items e.entries.cap e.limit e.links.terms e.fixed.items e.links e.gaps e.parts e.visits e.failure c.self.invariant in
    let left_in : c.args.left < e.links.terms = rw (← c.self.view_is) at c.requires.left_in in
    let right_in : c.args.right < e.links.terms = rw (← c.self.view_is) at c.requires.right_in in
    omega (arith, fits.1, fits.3 c.args.left left_in)

pub plan_join-join-requires-clause-right_class : goal.plan_join-join-requires-clause-right_class
plan_join-join-requires-clause-right_class c =
    let e = c.self.inside in
    let fits = parts_fit e.entries.items e.entries.cap e.limit e.links.terms e.fixed.items e.links e.gaps e.parts e.visits e.failure c.self.invariant in
    let left_in : c.args.left < e.links.terms = rw (← c.self.view_is) at c.requires.left_in in
    let right_in : c.args.right < e.links.terms = rw (← c.self.view_is) at c.requires.right_in in
    omega (arith, fits.1, fits.3 c.args.right right_in)

pub search-requires-clause-within : goal.search-requires-clause-within
search-requires-clause-within c =
    let e = c.self.inside in
    let fits = parts_fit e.entries.items e.entries.cap e.limit e.links.terms e.fixed.items e.links e.gaps e.parts e.visits e.failure c.self.invariant in
    let left_in : c.args.left < e.links.terms = rw (← c.self.view_is) at c.requires.left_in in
    let right_in : c.args.right < e.links.terms = rw (← c.self.view_is) at c.requires.right_in in
    let p = c.plan_join-join.result in
    let plan = c.plan_join-join.ensures in
    let planned = plan_fits e.parts e.links.terms c.args.left c.args.right p.near p.from p.into fits.3 left_in right_in plan.near plan.near_from plan.ends in
    planned.0

pub find_clash-requires-clause-from_in : goal.find_clash-requires-clause-from_in
find_clash-requires-clause-from_in c =
    let e = c.self.inside in
    let fits = parts_fit e.entries.items e.entries.cap e.limit e.links.terms e.fixed.items e.links e.gaps e.parts e.visits e.failure c.self.invariant in
    let left_in : c.args.left < e.links.terms = rw (← c.self.view_is) at c.requires.left_in in
    let right_in : c.args.right < e.links.terms = rw (← c.self.view_is) at c.requires.right_in in
    let p = c.plan_join-join.result in
    let plan = c.plan_join-join.ensures in
    let planned = plan_fits e.parts e.links.terms c.args.left c.args.right p.near p.from p.into fits.3 left_in right_in plan.near plan.near_from plan.ends in
    omega (arith, fits.1, planned.1)

pub find_clash-requires-clause-into_in : goal.find_clash-requires-clause-into_in
find_clash-requires-clause-into_in c =
    let e = c.self.inside in
    let fits = parts_fit e.entries.items e.entries.cap e.limit e.links.terms e.fixed.items e.links e.gaps e.parts e.visits e.failure c.self.invariant in
    let left_in : c.args.left < e.links.terms = rw (← c.self.view_is) at c.requires.left_in in
    let right_in : c.args.right < e.links.terms = rw (← c.self.view_is) at c.requires.right_in in
    let p = c.plan_join-join.result in
    let plan = c.plan_join-join.ensures in
    let planned = plan_fits e.parts e.links.terms c.args.left c.args.right p.near p.from p.into fits.3 left_in right_in plan.near plan.near_from plan.ends in
    omega (arith, fits.1, planned.2)

pub join-requires-clause-from_in : goal.join-requires-clause-from_in
join-requires-clause-from_in c =
    let e = c.self.inside in
    let fits = parts_fit e.entries.items e.entries.cap e.limit e.links.terms e.fixed.items e.links e.gaps e.parts e.visits e.failure c.self.invariant in
    let left_in : c.args.left < e.links.terms = rw (← c.self.view_is) at c.requires.left_in in
    let right_in : c.args.right < e.links.terms = rw (← c.self.view_is) at c.requires.right_in in
    let p = c.plan_join-join.result in
    let plan = c.plan_join-join.ensures in
    let planned = plan_fits e.parts e.links.terms c.args.left c.args.right p.near p.from p.into fits.3 left_in right_in plan.near plan.near_from plan.ends in
    omega (arith, fits.1, planned.1)

pub join-requires-clause-into_in : goal.join-requires-clause-into_in
join-requires-clause-into_in c =
    let e = c.self.inside in
    let fits = parts_fit e.entries.items e.entries.cap e.limit e.links.terms e.fixed.items e.links e.gaps e.parts e.visits e.failure c.self.invariant in
    let left_in : c.args.left < e.links.terms = rw (← c.self.view_is) at c.requires.left_in in
    let right_in : c.args.right < e.links.terms = rw (← c.self.view_is) at c.requires.right_in in
    let p = c.plan_join-join.result in
    let plan = c.plan_join-join.ensures in
    let planned = plan_fits e.parts e.links.terms c.args.left c.args.right p.near p.from p.into fits.3 left_in right_in plan.near plan.near_from plan.ends in
    omega (arith, fits.1, planned.2)

pub find_clash-requires-clause-classes : goal.find_clash-requires-clause-classes
find_clash-requires-clause-classes c =
    let e = c.self.inside in
    let fits = parts_fit e.entries.items e.entries.cap e.limit e.links.terms e.fixed.items e.links e.gaps e.parts e.visits e.failure c.self.invariant in
    let left_in : c.args.left < e.links.terms = rw (← c.self.view_is) at c.requires.left_in in
    let right_in : c.args.right < e.links.terms = rw (← c.self.view_is) at c.requires.right_in in
    fits.0 ∙ sym fits.2

pub join-requires-clause-terms : goal.join-requires-clause-terms
join-requires-clause-terms c =
    let e = c.self.inside in
    let fits = parts_fit e.entries.items e.entries.cap e.limit e.links.terms e.fixed.items e.links e.gaps e.parts e.visits e.failure c.self.invariant in
    let left_in : c.args.left < e.links.terms = rw (← c.self.view_is) at c.requires.left_in in
    let right_in : c.args.right < e.links.terms = rw (← c.self.view_is) at c.requires.right_in in
    c.search.ensures.terms ∙ c.self.invariant.visits_are ∙ sym fits.0

pub invariant_of-self : goal.invariant_of-self
invariant_of-self c =
    let e = c.self.inside in
    let free = room_left e.entries.items e.limit (rw (← c.self.view_is) at c.requires.room) in
    rw (c.record.ensures.entries, c.record.ensures.links, c.record.ensures.gaps)
    (known_sound e.entries.items e.entries.cap e.limit e.links.terms e.fixed.items e.links e.gaps e.parts e.visits e.failure c.self.invariant (rw (← c.self.view_is) at c.requires.has_model)
    _ c.record.ensures.room free c.args.left c.args.right _ _ (rw (← c.self.view_is) at c.requires.left_in) (rw (← c.self.view_is) at c.requires.right_in)
    (sym c.class_of.ensures ∙ c.if-class_of.true ∙ c.class_of-2.ensures) refl refl)

pub returns-then-class_of-clause-verdict : goal.returns-then-class_of-clause-verdict
returns-then-class_of-clause-verdict c =
    let e = c.self.inside in
    let none = failure_if_none e.entries.items e.entries.cap e.limit e.links.terms e.fixed.items e.links e.gaps e.parts e.visits e.failure c.self.invariant (rw (← c.self.view_is) at c.requires.has_model) in
    (λ _. HasModel-sound c.record.new.entries.items _ e.limit c.record.new.links.terms e.fixed.items c.record.new.links c.record.new.gaps e.parts e.visits e.failure (invariant_of-self c) none, λ _. refl)

pub join-requires-clause-members : goal.join-requires-clause-members
join-requires-clause-members c =
    let e = c.self.inside in
    let fits = parts_fit e.entries.items e.entries.cap e.limit e.links.terms e.fixed.items e.links e.gaps e.parts e.visits e.failure c.self.invariant in
    let left_in : c.args.left < e.links.terms = rw (← c.self.view_is) at c.requires.left_in in
    let right_in : c.args.right < e.links.terms = rw (← c.self.view_is) at c.requires.right_in in
    let p = c.plan_join-join.result in
    let plan = c.plan_join-join.ensures in
    let planned = plan_fits e.parts e.links.terms c.args.left c.args.right p.near p.from p.into fits.3 left_in right_in plan.near plan.near_from plan.ends in
    let has_model = rw (← c.self.view_is) at c.requires.has_model in
    let found = c.search.ensures in
    let free = room_left e.entries.items e.limit (rw (← c.self.view_is) at c.requires.room) in
    λ t t_in. (search_members e.entries.items e.entries.cap e.limit e.links.terms e.fixed.items e.links e.gaps e.parts e.visits e.failure c.self.invariant has_model e.entries.cap (le_refl e.entries.cap) free c.search.new.visits.visits p.near p.from planned.0 plan.near_from found.begins found.starts found.tree found.closed) t (omega (arith, fits.0))

pub invariant_of-self-in-None : goal.invariant_of-self-in-None
invariant_of-self-in-None c =
    let e = c.self.inside in
    let fits = parts_fit e.entries.items e.entries.cap e.limit e.links.terms e.fixed.items e.links e.gaps e.parts e.visits e.failure c.self.invariant in
    let left_in : c.args.left < e.links.terms = rw (← c.self.view_is) at c.requires.left_in in
    let right_in : c.args.right < e.links.terms = rw (← c.self.view_is) at c.requires.right_in in
    let p = c.plan_join-join.result in
    let plan = c.plan_join-join.ensures in
    let planned = plan_fits e.parts e.links.terms c.args.left c.args.right p.near p.from p.into fits.3 left_in right_in plan.near plan.near_from plan.ends in
    let has_model = rw (← c.self.view_is) at c.requires.has_model in
    let found = c.search.ensures in
    let free = room_left e.entries.items e.limit (rw (← c.self.view_is) at c.requires.room) in
    let ends = (subst (λ l. ((class_at e.parts l ≡ p.from) × (class_at e.parts p.right ≡ p.into)) ⊎ ((class_at e.parts l ≡ p.into) × (class_at e.parts p.right ≡ p.from))) (sym plan.left) (subst (λ r. ((class_at e.parts c.args.left ≡ p.from) × (class_at e.parts r ≡ p.into)) ⊎ ((class_at e.parts c.args.left ≡ p.into) × (class_at e.parts r ≡ p.from))) (sym plan.right) plan.ends)) in
    rw (c.record-in-None.ensures.entries, c.record-in-None.ensures.links, c.record-in-None.ensures.gaps)
    (joined_sound e.entries.items e.entries.cap e.limit e.links.terms e.fixed.items e.links e.gaps e.parts e.visits e.failure c.self.invariant has_model _ c.record-in-None.ensures.room free p (subst (λ l. l < e.links.terms) (sym plan.left) left_in) (subst (λ r. r < e.links.terms) (sym plan.right) right_in) planned.0 plan.near_from ends plan.apart plan.kept c.search.new.visits (found.terms ∙ c.self.invariant.visits_are) (search_members e.entries.items e.entries.cap e.limit e.links.terms e.fixed.items e.links e.gaps e.parts e.visits e.failure c.self.invariant has_model e.entries.cap (le_refl e.entries.cap) free c.search.new.visits.visits p.near p.from planned.0 plan.near_from found.begins found.starts found.tree found.closed)
    _ _ c.join.new.self c.in-None.ensures.free c.in-None.ensures.none refl refl c.join.ensures)

pub returns-in-None-clause-verdict : goal.returns-in-None-clause-verdict
returns-in-None-clause-verdict c =
    let e = c.self.inside in
    let none = failure_if_none e.entries.items e.entries.cap e.limit e.links.terms e.fixed.items e.links e.gaps e.parts e.visits e.failure c.self.invariant (rw (← c.self.view_is) at c.requires.has_model) in
    (λ _. HasModel-sound c.record-in-None.new.entries.items _ e.limit c.record-in-None.new.links.terms e.fixed.items c.record-in-None.new.links c.record-in-None.new.gaps c.join.new.self c.search.new.visits e.failure (invariant_of-self-in-None c) none, λ _. refl)

pub invariant_of-self-in-Some : goal.invariant_of-self-in-Some
invariant_of-self-in-Some c =
    let e = c.self.inside in
    let fits = parts_fit e.entries.items e.entries.cap e.limit e.links.terms e.fixed.items e.links e.gaps e.parts e.visits e.failure c.self.invariant in
    let left_in : c.args.left < e.links.terms = rw (← c.self.view_is) at c.requires.left_in in
    let right_in : c.args.right < e.links.terms = rw (← c.self.view_is) at c.requires.right_in in
    let p = c.plan_join-join.result in
    let plan = c.plan_join-join.ensures in
    let planned = plan_fits e.parts e.links.terms c.args.left c.args.right p.near p.from p.into fits.3 left_in right_in plan.near plan.near_from plan.ends in
    let has_model = rw (← c.self.view_is) at c.requires.has_model in
    let found = c.search.ensures in
    let free = room_left e.entries.items e.limit (rw (← c.self.view_is) at c.requires.room) in
    let ends = (subst (λ l. ((class_at e.parts l ≡ p.from) × (class_at e.parts p.right ≡ p.into)) ⊎ ((class_at e.parts l ≡ p.into) × (class_at e.parts p.right ≡ p.from))) (sym plan.left) (subst (λ r. ((class_at e.parts c.args.left ≡ p.from) × (class_at e.parts r ≡ p.into)) ⊎ ((class_at e.parts c.args.left ≡ p.into) × (class_at e.parts r ≡ p.from))) (sym plan.right) plan.ends)) in
    rw (c.record-in-Some.ensures.entries, c.record-in-Some.ensures.links, c.record-in-Some.ensures.gaps, ← plan.left, ← plan.right)
    (failed_same_sound e.entries.items e.entries.cap e.limit e.links.terms e.fixed.items e.links e.gaps e.parts e.visits e.failure c.self.invariant has_model _ c.record-in-Some.ensures.room free p (subst (λ l. l < e.links.terms) (sym plan.left) left_in) (subst (λ r. r < e.links.terms) (sym plan.right) right_in) planned.0 plan.near_from ends plan.apart plan.kept c.search.new.visits (found.terms ∙ c.self.invariant.visits_are) (search_members e.entries.items e.entries.cap e.limit e.links.terms e.fixed.items e.links e.gaps e.parts e.visits e.failure c.self.invariant has_model e.entries.cap (le_refl e.entries.cap) free c.search.new.visits.visits p.near p.from planned.0 plan.near_from found.begins found.starts found.tree found.closed)
    c.in-Some.failure c.in-Some.ensures.found _ _ refl refl)

pub returns-in-Some-clause-verdict : goal.returns-in-Some-clause-verdict
returns-in-Some-clause-verdict c =
    let e = c.self.inside in (
      λ f. absurd (false≢true f),
      λ h. absurd (no_model-sound c.record-in-Some.new.entries.items _ e.limit c.record-in-Some.new.links.terms e.fixed.items c.record-in-Some.new.links c.record-in-Some.new.gaps e.parts c.search.new.visits _ (invariant_of-self-in-Some c) _ refl h),
    )
