use Rattle.std.proofs.Common.{◌<◌, ◌∙◌, [], ◌∷◌, ◌++◌, length, sym, ap, subst, arith}
use Rattle.solve_theory.specs.declared.pair.Side.TheVariants.{Left, Right}
use Rattle.solve_theory.specs.PairSides.{Fit}
use Rattle.solve_theory.proofs.Sides.{length-both, length-in_order, in_order-push_left, in_order-push_right, Fit-push_left, Fit-push_right, length-lefts, length-rights}
use Rattle.solve_theory.proofs.PairModels.{pair_model, left_model, right_model}
use Rattle.solve_theory.proofs.PairState.{push_left, push_right}
use Rattle.solve_theory.proofs.pair.PairTheory.assert.Goals as goal

pub push_within-requires : goal.push_within-requires
push_within-requires g c =
    let A = g.A.Theory in
    let B = g.B.Theory in
    let e = c.self.inside in
    let sound = c.self.invariant in
    let ls = A.literals e.left in
    let rs = B.literals e.right in
    let n = length-in_order e.sides.items ls rs sound.fit in
    let room = rw (← c.self.view_is) at c.requires.room in
    let free : length e.sides.items < e.limit = omega arith in
    omega (arith, e.sides.ok.0, sound.sides_room)

pub push_within-requires-in-Left : goal.push_within-requires-in-Left
push_within-requires-in-Left g c =
    let A = g.A.Theory in
    let B = g.B.Theory in
    let e = c.self.inside in
    let sound = c.self.invariant in
    let ls = A.literals e.left in
    let rs = B.literals e.right in
    let n = length-in_order e.sides.items ls rs sound.fit in
    let room = rw (← c.self.view_is) at c.requires.room in
    let free : length e.sides.items < e.limit = omega arith in
    let both = length-both e.sides.items ls rs sound.fit in
    omega (arith, e.left_places.ok.0, sound.lefts_room, ap length sound.lefts_are, length-lefts e.sides.items ls rs sound.fit)

pub assert-requires-clause-has_model : goal.assert-requires-clause-has_model
assert-requires-clause-has_model g c =
    let A = g.A.Theory in
    let B = g.B.Theory in
    let e = c.self.inside in
    let sound = c.self.invariant in
    let ls = A.literals e.left in
    let rs = B.literals e.right in
    let has_model = rw (← c.self.view_is) at c.requires.has_model in
    let has_left = left_model (A.models e.left) A.meets (B.models e.right) B.meets e.sides.items (A.literals e.left) (B.literals e.right) sound.fit has_model in
    let has_right = right_model (A.models e.left) A.meets (B.models e.right) B.meets e.sides.items (A.literals e.left) (B.literals e.right) sound.fit has_model in
    has_left

pub assert-requires-clause-room : goal.assert-requires-clause-room
assert-requires-clause-room g c =
    let A = g.A.Theory in
    let B = g.B.Theory in
    let e = c.self.inside in
    let sound = c.self.invariant in
    let ls = A.literals e.left in
    let rs = B.literals e.right in
    let n = length-in_order e.sides.items ls rs sound.fit in
    let room = rw (← c.self.view_is) at c.requires.room in
    let free : length e.sides.items < e.limit = omega arith in
    let both = length-both e.sides.items ls rs sound.fit in
    omega (arith, sound.left_limit)

pub invariant_of-self : goal.invariant_of-self
invariant_of-self g c =
    let A = g.A.Theory in
    let B = g.B.Theory in
    let e = c.self.inside in
    let sound = c.self.invariant in
    let ls = A.literals e.left in
    let rs = B.literals e.right in
    let n = length-in_order e.sides.items ls rs sound.fit in
    let room = rw (← c.self.view_is) at c.requires.room in
    let free : length e.sides.items < e.limit = omega arith in
    let has_model = rw (← c.self.view_is) at c.requires.has_model in
    let has_left = left_model (A.models e.left) A.meets (B.models e.right) B.meets e.sides.items (A.literals e.left) (B.literals e.right) sound.fit has_model in
    let has_right = right_model (A.models e.left) A.meets (B.models e.right) B.meets e.sides.items (A.literals e.left) (B.literals e.right) sound.fit has_model in
    let new = c.assert.new.self in
    let places = e.left_places.items in
    let added = c.push_within-in-Left.ensures.items ∙ ap (λ k. places ++ k ∷ []) (c.len-position.ensures ∙ e.sides.ok.0) in
    rw c.push_within.ensures.items
    (push_left (A.models e.left) A.meets (A.literals e.left) (A.capacity e.left) (B.models e.right) B.meets (B.literals e.right) (B.capacity e.right) e.sides.items e.left_places.items e.right_places.items e.limit e.sides.cap e.left_places.cap e.right_places.cap e.core.capacity sound (A.models new) (A.literals new) (A.capacity new) c.in-Left.literal c.push_within-in-Left.new.list.items
    c.push_within.new.list.cap c.push_within-in-Left.new.list.cap has_left has_right free c.assert.ensures.models c.assert.ensures.list c.assert.ensures.capacity added c.push_within.ensures.capacity c.push_within-in-Left.ensures.capacity)

pub returns-in-Left-clause-verdict : goal.returns-in-Left-clause-verdict
returns-in-Left-clause-verdict g c =
    let A = g.A.Theory in
    let B = g.B.Theory in
    let e = c.self.inside in
    let sound = c.self.invariant in
    let ls = A.literals e.left in
    let rs = B.literals e.right in
    let has_model = rw (← c.self.view_is) at c.requires.has_model in
    let has_left = left_model (A.models e.left) A.meets (B.models e.right) B.meets e.sides.items (A.literals e.left) (B.literals e.right) sound.fit has_model in
    let has_right = right_model (A.models e.left) A.meets (B.models e.right) B.meets e.sides.items (A.literals e.left) (B.literals e.right) sound.fit has_model in
    let new = c.assert.new.self in
    let verdict = c.assert.ensures.verdict in
    let fit = subst (λ xs. Fit (e.sides.items ++ Left ∷ []) xs rs) (sym c.assert.ensures.list) (Fit-push_left e.sides.items ls rs c.in-Left.literal sound.fit) in
    rw c.push_within.ensures.items
    (λ t. pair_model (A.models new) A.meets (B.models e.right) B.meets (e.sides.items ++ Left ∷ []) (A.literals new) rs (verdict.0 t) has_right, λ h. verdict.1 (left_model (A.models new) A.meets (B.models e.right) B.meets (e.sides.items ++ Left ∷ []) (A.literals new) rs fit h))

pub returns-in-Left-clause-list : goal.returns-in-Left-clause-list
returns-in-Left-clause-list g c =
    let A = g.A.Theory in
    let B = g.B.Theory in
    let e = c.self.inside in
    let sound = c.self.invariant in
    let ls = A.literals e.left in
    let rs = B.literals e.right in
    rw (← c.self.view_is, c.push_within.ensures.items, c.in-Left.is, c.assert.ensures.list) (in_order-push_left e.sides.items ls rs c.in-Left.literal sound.fit)

pub push_within-requires-in-Right : goal.push_within-requires-in-Right
push_within-requires-in-Right g c =
    let A = g.A.Theory in
    let B = g.B.Theory in
    let e = c.self.inside in
    let sound = c.self.invariant in
    let ls = A.literals e.left in
    let rs = B.literals e.right in
    let n = length-in_order e.sides.items ls rs sound.fit in
    let room = rw (← c.self.view_is) at c.requires.room in
    let free : length e.sides.items < e.limit = omega arith in
    omega (arith, e.sides.ok.0, sound.sides_room)

pub push_within-requires-in-Right-2 : goal.push_within-requires-in-Right-2
push_within-requires-in-Right-2 g c =
    let A = g.A.Theory in
    let B = g.B.Theory in
    let e = c.self.inside in
    let sound = c.self.invariant in
    let ls = A.literals e.left in
    let rs = B.literals e.right in
    let n = length-in_order e.sides.items ls rs sound.fit in
    let room = rw (← c.self.view_is) at c.requires.room in
    let free : length e.sides.items < e.limit = omega arith in
    let both = length-both e.sides.items ls rs sound.fit in
    omega (arith, e.right_places.ok.0, sound.rights_room, ap length sound.rights_are, length-rights e.sides.items ls rs sound.fit)

pub assert-requires-in-Right-clause-has_model : goal.assert-requires-in-Right-clause-has_model
assert-requires-in-Right-clause-has_model g c =
    let A = g.A.Theory in
    let B = g.B.Theory in
    let e = c.self.inside in
    let sound = c.self.invariant in
    let ls = A.literals e.left in
    let rs = B.literals e.right in
    let has_model = rw (← c.self.view_is) at c.requires.has_model in
    let has_left = left_model (A.models e.left) A.meets (B.models e.right) B.meets e.sides.items (A.literals e.left) (B.literals e.right) sound.fit has_model in
    let has_right = right_model (A.models e.left) A.meets (B.models e.right) B.meets e.sides.items (A.literals e.left) (B.literals e.right) sound.fit has_model in
    has_right

pub assert-requires-in-Right-clause-room : goal.assert-requires-in-Right-clause-room
assert-requires-in-Right-clause-room g c =
    let A = g.A.Theory in
    let B = g.B.Theory in
    let e = c.self.inside in
    let sound = c.self.invariant in
    let ls = A.literals e.left in
    let rs = B.literals e.right in
    let n = length-in_order e.sides.items ls rs sound.fit in
    let room = rw (← c.self.view_is) at c.requires.room in
    let free : length e.sides.items < e.limit = omega arith in
    let both = length-both e.sides.items ls rs sound.fit in
    omega (arith, sound.right_limit)

pub invariant_of-self-in-Right : goal.invariant_of-self-in-Right
invariant_of-self-in-Right g c =
    let A = g.A.Theory in
    let B = g.B.Theory in
    let e = c.self.inside in
    let sound = c.self.invariant in
    let ls = A.literals e.left in
    let rs = B.literals e.right in
    let n = length-in_order e.sides.items ls rs sound.fit in
    let room = rw (← c.self.view_is) at c.requires.room in
    let free : length e.sides.items < e.limit = omega arith in
    let has_model = rw (← c.self.view_is) at c.requires.has_model in
    let has_left = left_model (A.models e.left) A.meets (B.models e.right) B.meets e.sides.items (A.literals e.left) (B.literals e.right) sound.fit has_model in
    let has_right = right_model (A.models e.left) A.meets (B.models e.right) B.meets e.sides.items (A.literals e.left) (B.literals e.right) sound.fit has_model in
    let new = c.assert-in-Right.new.self in
    let places = e.right_places.items in
    let added = c.push_within-in-Right-2.ensures.items ∙ ap (λ k. places ++ k ∷ []) (c.len-position.ensures ∙ e.sides.ok.0) in
    rw c.push_within-in-Right.ensures.items
    (push_right (A.models e.left) A.meets (A.literals e.left) (A.capacity e.left) (B.models e.right) B.meets (B.literals e.right) (B.capacity e.right) e.sides.items e.left_places.items e.right_places.items e.limit e.sides.cap e.left_places.cap e.right_places.cap e.core.capacity sound (B.models new) (B.literals new) (B.capacity new) c.in-Right.literal c.push_within-in-Right-2.new.list.items
    c.push_within-in-Right.new.list.cap c.push_within-in-Right-2.new.list.cap has_left has_right free c.assert-in-Right.ensures.models c.assert-in-Right.ensures.list c.assert-in-Right.ensures.capacity added c.push_within-in-Right.ensures.capacity c.push_within-in-Right-2.ensures.capacity)

pub returns-in-Right-clause-verdict : goal.returns-in-Right-clause-verdict
returns-in-Right-clause-verdict g c =
    let A = g.A.Theory in
    let B = g.B.Theory in
    let e = c.self.inside in
    let sound = c.self.invariant in
    let ls = A.literals e.left in
    let rs = B.literals e.right in
    let has_model = rw (← c.self.view_is) at c.requires.has_model in
    let has_left = left_model (A.models e.left) A.meets (B.models e.right) B.meets e.sides.items (A.literals e.left) (B.literals e.right) sound.fit has_model in
    let has_right = right_model (A.models e.left) A.meets (B.models e.right) B.meets e.sides.items (A.literals e.left) (B.literals e.right) sound.fit has_model in
    let new = c.assert-in-Right.new.self in
    let verdict = c.assert-in-Right.ensures.verdict in
    let fit = subst (λ xs. Fit (e.sides.items ++ Right ∷ []) ls xs) (sym c.assert-in-Right.ensures.list) (Fit-push_right e.sides.items ls rs c.in-Right.literal sound.fit) in
    rw c.push_within-in-Right.ensures.items
    (λ t. pair_model (A.models e.left) A.meets (B.models new) B.meets (e.sides.items ++ Right ∷ []) ls (B.literals new) has_left (verdict.0 t), λ h. verdict.1 (right_model (A.models e.left) A.meets (B.models new) B.meets (e.sides.items ++ Right ∷ []) ls (B.literals new) fit h))

pub returns-in-Right-clause-list : goal.returns-in-Right-clause-list
returns-in-Right-clause-list g c =
    let A = g.A.Theory in
    let B = g.B.Theory in
    let e = c.self.inside in
    let sound = c.self.invariant in
    let ls = A.literals e.left in
    let rs = B.literals e.right in
    rw (← c.self.view_is, c.push_within-in-Right.ensures.items, c.in-Right.is, c.assert-in-Right.ensures.list) (in_order-push_right e.sides.items ls rs c.in-Right.literal sound.fit)
