use Rattle.std.proofs.Common.{◌≡◌, ◌-◌, ◌<◌, ◌∙◌, List, Some, length, sym, ap, subst, arith}
use Rattle.std.specs.List.{slice_get}
use Rattle.std.proofs.lemmas.List.Elements.{All-weaker}
use Rattle.solve_theory.specs.declared.pair.Side.{Side}
use Rattle.solve_theory.specs.declared.pair.Side.TheVariants.{Left, Right}
use Rattle.solve_theory.specs.PairSides.{Fit}
use Rattle.solve_theory.proofs.Distinct.{length-le_from_pairs}
use Rattle.solve_theory.proofs.Sides.{length-both, length-in_order, length-lefts, length-rights}
use Rattle.solve_theory.proofs.PairModels.{core_left, core_right, pair_model}
use Rattle.solve_theory.proofs.PairState.{last_is}
use Rattle.solve_theory.proofs.pair.PairTheory.conflict.Goals as goal

pub conflict-requires-clause-no_model : goal.conflict-requires-clause-no_model
conflict-requires-clause-no_model g c =
    let A = g.A.Theory in
    let B = g.B.Theory in
    let e = c.self.inside in
    let sound = c.self.invariant in
    let ls = A.literals e.left in
    let rs = B.literals e.right in
    let seen = subst (λ (ss : List Side). Some c.in-Some-Left.field-0.now ≡ slice_get ss (length ss - 1)) c.deref.ensures.value c.in-Some-Left.ensures.value in
    let last = last_is e.sides.items Left Right (sym seen ∙ ap (λ (s : Side). Some s) c.in-Some-Left.field-0-is) in
    λ h. (sound.left_last last.0 last.1).1 (λ k. rw (← c.self.view_is) at c.requires.no_model (pair_model (A.models e.left) A.meets (B.models e.right) B.meets e.sides.items ls rs h k))

pub conflict-requires-clause-room : goal.conflict-requires-clause-room
conflict-requires-clause-room g c =
    let A = g.A.Theory in
    let B = g.B.Theory in
    let e = c.self.inside in
    let sound = c.self.invariant in
    let ls = A.literals e.left in
    let rs = B.literals e.right in
    let both = length-both e.sides.items ls rs sound.fit in
    omega (arith, sound.fits, sound.core_fits)

pub translate-requires-clause-within : goal.translate-requires-clause-within
translate-requires-clause-within g c =
    let A = g.A.Theory in
    let B = g.B.Theory in
    let e = c.self.inside in
    let sound = c.self.invariant in
    let ls = A.literals e.left in
    let rs = B.literals e.right in
    let core = c.conflict.ensures.core in
    let places = ap length sound.lefts_are ∙ length-lefts e.sides.items ls rs sound.fit in
    let same = ap length c.conflict.ensures.list in
    rw (c.items.ensures, c.as_slice.ensures.value)
    (All-weaker (λ k. k < length (A.literals c.conflict.new.self)) (λ k. k < length e.left_places.items) (λ k l. omega arith) c.conflict.new.out.items core.within)

pub translate-requires-clause-room : goal.translate-requires-clause-room
translate-requires-clause-room g c =
    let A = g.A.Theory in
    let B = g.B.Theory in
    let e = c.self.inside in
    let sound = c.self.invariant in
    let ls = A.literals e.left in
    let rs = B.literals e.right in
    let both = length-both e.sides.items ls rs sound.fit in
    let n = length-in_order e.sides.items ls rs sound.fit in
    let room = rw (← c.self.view_is) at c.requires.room in
    let core = c.conflict.ensures.core in
    let few = length-le_from_pairs c.conflict.new.out.items (length (A.literals c.conflict.new.self)) core.once core.within in
    omega (arith, few, ap length c.conflict.ensures.list, ap length c.items.ensures)

pub returns-in-Some-Left-clause-core : goal.returns-in-Some-Left-clause-core
returns-in-Some-Left-clause-core g c =
    let A = g.A.Theory in
    let B = g.B.Theory in
    let e = c.self.inside in
    let sound = c.self.invariant in
    let ls = A.literals e.left in
    let rs = B.literals e.right in
    let fit = subst (λ xs. Fit e.sides.items xs rs) (sym c.conflict.ensures.list) sound.fit in
    rw (c.translate.ensures.items, c.as_slice.ensures.value, sound.lefts_are, c.items.ensures)
    (core_left (A.models c.conflict.new.self) A.meets (B.models e.right) B.meets e.sides.items (A.literals c.conflict.new.self) rs c.conflict.new.out.items fit c.conflict.ensures.core)

pub conflict-requires-in-Some-Right-clause-no_model : goal.conflict-requires-in-Some-Right-clause-no_model
conflict-requires-in-Some-Right-clause-no_model g c =
    let A = g.A.Theory in
    let B = g.B.Theory in
    let e = c.self.inside in
    let sound = c.self.invariant in
    let ls = A.literals e.left in
    let rs = B.literals e.right in
    let seen = subst (λ (ss : List Side). Some c.in-Some-Right.field-0.now ≡ slice_get ss (length ss - 1)) c.deref.ensures.value c.in-Some-Right.ensures.value in
    let last = last_is e.sides.items Right Left (sym seen ∙ ap (λ (s : Side). Some s) c.in-Some-Right.field-0-is) in
    λ h. (sound.right_last last.0 last.1).1 (λ k. rw (← c.self.view_is) at c.requires.no_model (pair_model (A.models e.left) A.meets (B.models e.right) B.meets e.sides.items ls rs k h))

pub conflict-requires-in-Some-Right-clause-room : goal.conflict-requires-in-Some-Right-clause-room
conflict-requires-in-Some-Right-clause-room g c =
    let A = g.A.Theory in
    let B = g.B.Theory in
    let e = c.self.inside in
    let sound = c.self.invariant in
    let ls = A.literals e.left in
    let rs = B.literals e.right in
    let both = length-both e.sides.items ls rs sound.fit in
    omega (arith, sound.fits, sound.core_fits)

pub translate-requires-in-Some-Right-clause-within : goal.translate-requires-in-Some-Right-clause-within
translate-requires-in-Some-Right-clause-within g c =
    let A = g.A.Theory in
    let B = g.B.Theory in
    let e = c.self.inside in
    let sound = c.self.invariant in
    let ls = A.literals e.left in
    let rs = B.literals e.right in
    let core = c.conflict-in-Some-Right.ensures.core in
    let places = ap length sound.rights_are ∙ length-rights e.sides.items ls rs sound.fit in
    let same = ap length c.conflict-in-Some-Right.ensures.list in
    rw (c.items-in-Some-Right.ensures, c.as_slice-in-Some-Right.ensures.value)
    (All-weaker (λ k. k < length (B.literals c.conflict-in-Some-Right.new.self)) (λ k. k < length e.right_places.items) (λ k l. omega arith) c.conflict-in-Some-Right.new.out.items core.within)

pub translate-requires-in-Some-Right-clause-room : goal.translate-requires-in-Some-Right-clause-room
translate-requires-in-Some-Right-clause-room g c =
    let A = g.A.Theory in
    let B = g.B.Theory in
    let e = c.self.inside in
    let sound = c.self.invariant in
    let ls = A.literals e.left in
    let rs = B.literals e.right in
    let both = length-both e.sides.items ls rs sound.fit in
    let n = length-in_order e.sides.items ls rs sound.fit in
    let room = rw (← c.self.view_is) at c.requires.room in
    let core = c.conflict-in-Some-Right.ensures.core in
    let few = length-le_from_pairs c.conflict-in-Some-Right.new.out.items (length (B.literals c.conflict-in-Some-Right.new.self)) core.once core.within in
    omega (arith, few, ap length c.conflict-in-Some-Right.ensures.list, ap length c.items-in-Some-Right.ensures)

pub returns-in-Some-Right-clause-core : goal.returns-in-Some-Right-clause-core
returns-in-Some-Right-clause-core g c =
    let A = g.A.Theory in
    let B = g.B.Theory in
    let e = c.self.inside in
    let sound = c.self.invariant in
    let ls = A.literals e.left in
    let rs = B.literals e.right in
    let fit = subst (λ xs. Fit e.sides.items ls xs) (sym c.conflict-in-Some-Right.ensures.list) sound.fit in
    rw (c.translate-in-Some-Right.ensures.items, c.as_slice-in-Some-Right.ensures.value, sound.rights_are, c.items-in-Some-Right.ensures)
    (core_right (A.models e.left) A.meets (B.models c.conflict-in-Some-Right.new.self) B.meets e.sides.items ls (B.literals c.conflict-in-Some-Right.new.self) c.conflict-in-Some-Right.new.out.items fit c.conflict-in-Some-Right.ensures.core)
