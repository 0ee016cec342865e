use Rattle.std.proofs.Common.{◌≡◌, ◌<◌, ℕ, List, length, map, ◌∙◌, sym, refl, arith}
use Rattle.std.proofs.lemmas.Bool.{false≢true}
use Rattle.std.proofs.lemmas.List.{length-map}
use Rattle.solve_equality.specs.declared.entry.Entry.{Entry}
use Rattle.solve_equality.specs.EntryEnds.{literal_of}
use Rattle.solve_equality.proofs.EqualityState.{good, HasModel-sound, no_model-sound, failure_if_none}
use Rattle.solve_equality.proofs.EqualityAsserts.{apart_sound, failed_differ_sound}
use Rattle.solve_equality.proofs.equality.Equality.assert_differ.Goals as goal

pub class_of-requires : goal.class_of-requires
class_of-requires c =
    let e = c.self.inside in
    let fits = (good e.entries.items e.entries.cap e.limit e.links.terms e.fixed.items e.links e.gaps e.parts e.visits e.failure c.self.invariant).classes_len in
    let left_in = rw (← c.self.view_is) at c.requires.left_in in
    omega arith

pub class_of-requires-2 : goal.class_of-requires-2
class_of-requires-2 c =
    let e = c.self.inside in
    let fits = (good e.entries.items e.entries.cap e.limit e.links.terms e.fixed.items e.links e.gaps e.parts e.visits e.failure c.self.invariant).classes_len in
    let right_in = rw (← c.self.view_is) at c.requires.right_in in
    omega arith

-- there is room for another entry
room_left : (entries : List Entry) (limit : ℕ) → length (map literal_of entries) < limit → length entries < limit
room_left entries limit l = omega (arith, length-map entries literal_of)

pub invariant_of-self : goal.invariant_of-self
invariant_of-self c =
    let e = c.self.inside in
    let free = room_left e.entries.items e.limit (rw (← c.self.view_is) at c.requires.room) in
    rw (c.record.ensures.entries, c.record.ensures.links, c.record.ensures.gaps)
    (apart_sound e.entries.items e.entries.cap e.limit e.links.terms e.fixed.items e.links e.gaps e.parts e.visits e.failure c.self.invariant (rw (← c.self.view_is) at c.requires.has_model)
    _ c.record.ensures.room free c.args.left c.args.right _ _ (rw (← c.self.view_is) at c.requires.left_in) (rw (← c.self.view_is) at c.requires.right_in)
    (λ same. c.if-class_of.true (c.class_of.ensures ∙ same ∙ sym c.class_of-2.ensures)) refl refl)

pub returns-then-class_of-clause-verdict : goal.returns-then-class_of-clause-verdict
returns-then-class_of-clause-verdict c =
    let e = c.self.inside in
    let none = failure_if_none e.entries.items e.entries.cap e.limit e.links.terms e.fixed.items e.links e.gaps e.parts e.visits e.failure c.self.invariant (rw (← c.self.view_is) at c.requires.has_model) in
    (λ _. HasModel-sound c.record.new.entries.items _ e.limit c.record.new.links.terms e.fixed.items c.record.new.links c.record.new.gaps e.parts e.visits e.failure (invariant_of-self c) none, λ _. refl)

pub invariant_of-self-2 : goal.invariant_of-self-2
invariant_of-self-2 c =
    let e = c.self.inside in
    let free = room_left e.entries.items e.limit (rw (← c.self.view_is) at c.requires.room) in
    let position : c.len-position.result ≡ length e.entries.items = c.len-position.ensures ∙ e.entries.ok.0 in
    rw (c.record-2.ensures.entries, c.record-2.ensures.links, c.record-2.ensures.gaps, position)
    (failed_differ_sound e.entries.items e.entries.cap e.limit e.links.terms e.fixed.items e.links e.gaps e.parts e.visits e.failure c.self.invariant (rw (← c.self.view_is) at c.requires.has_model)
    _ c.record-2.ensures.room free c.args.left c.args.right _ _ (rw (← c.self.view_is) at c.requires.left_in) (rw (← c.self.view_is) at c.requires.right_in)
    (sym c.class_of.ensures ∙ c.if-class_of.false ∙ c.class_of-2.ensures) refl refl)

pub returns-clause-verdict : goal.returns-clause-verdict
returns-clause-verdict c =
    let e = c.self.inside in (
      λ f. absurd (false≢true f),
      λ h. absurd (no_model-sound c.record-2.new.entries.items _ e.limit c.record-2.new.links.terms e.fixed.items c.record-2.new.links c.record-2.new.gaps e.parts e.visits _ (invariant_of-self-2 c) _ refl h),
    )
