use Rattle.std.proofs.Common.{◌≡◌, ◌-◌, ◌∙◌, List, [], ◌∷◌, ◌++◌, length, take, sym, ap, subst, arith}
use Rattle.solve_theory.specs.declared.pair.Side.{Side}
use Rattle.solve_theory.specs.declared.pair.Side.TheVariants.{Left, Right}
use Rattle.solve_theory.specs.Pair.{in_order}
use Rattle.solve_theory.specs.PairSides.{IsSoundPair}
use Rattle.solve_theory.proofs.PairState.{pop_left, pop_right, left_there, right_there, popped_left, popped_right}
use Rattle.solve_theory.proofs.pair.Pair.undo_one.Goals as goal

pub undo-requires : goal.undo-requires
undo-requires g c =
    let A = g.A.Theory in
    let B = g.B.Theory in
    let e = c.self.inside in
    let front = c.pop.new.self.items in
    let split : e.sides.items ≡ front ++ Left ∷ [] = c.in-Some-Left.ensures.items ∙ ap (λ (s : Side). front ++ s ∷ []) c.in-Some-Left.field-0-is in
    let was = subst (λ (ss : List Side). IsSoundPair (A.models e.left) A.meets (A.literals e.left) (A.capacity e.left) (B.models e.right) B.meets (B.literals e.right) (B.capacity e.right) ss e.left_places.items e.right_places.items e.limit e.sides.cap e.left_places.cap e.right_places.cap e.core.capacity) split c.self.invariant in
    omega (arith, left_there (A.models e.left) A.meets (A.literals e.left) (A.capacity e.left) (B.models e.right) B.meets (B.literals e.right) (B.capacity e.right) front e.left_places.items e.right_places.items e.limit e.sides.cap e.left_places.cap e.right_places.cap e.core.capacity was)

pub invariant_of-self-in-Some-Left : goal.invariant_of-self-in-Some-Left
invariant_of-self-in-Some-Left g c =
    let A = g.A.Theory in
    let B = g.B.Theory in
    let e = c.self.inside in
    let front = c.pop.new.self.items in
    let split : e.sides.items ≡ front ++ Left ∷ [] = c.in-Some-Left.ensures.items ∙ ap (λ (s : Side). front ++ s ∷ []) c.in-Some-Left.field-0-is in
    let was = subst (λ (ss : List Side). IsSoundPair (A.models e.left) A.meets (A.literals e.left) (A.capacity e.left) (B.models e.right) B.meets (B.literals e.right) (B.capacity e.right) ss e.left_places.items e.right_places.items e.limit e.sides.cap e.left_places.cap e.right_places.cap e.core.capacity) split c.self.invariant in
    let places = e.left_places in
    let shorter = c.pop-in-Some-Left.ensures.rest ∙ ap (λ k. take (k - 1) places.items) places.ok.0 in
    pop_left (A.models e.left) A.meets (A.literals e.left) (A.capacity e.left) (B.models e.right) B.meets (B.literals e.right) (B.capacity e.right) front e.left_places.items e.right_places.items e.limit e.sides.cap e.left_places.cap e.right_places.cap e.core.capacity was (A.models c.undo.new.self) (A.literals c.undo.new.self) (A.capacity c.undo.new.self) c.pop-in-Some-Left.new.self.items c.pop.new.self.cap c.pop-in-Some-Left.new.self.cap
    c.undo.ensures.models c.undo.ensures.list c.undo.ensures.capacity shorter (omega (arith, c.in-Some-Left.ensures.capacity)) (omega (arith, c.pop-in-Some-Left.ensures.capacity))

pub returns-in-Some-Left-clause-list : goal.returns-in-Some-Left-clause-list
returns-in-Some-Left-clause-list g c =
    let A = g.A.Theory in
    let B = g.B.Theory in
    let e = c.self.inside in
    let front = c.pop.new.self.items in
    let split : e.sides.items ≡ front ++ Left ∷ [] = c.in-Some-Left.ensures.items ∙ ap (λ (s : Side). front ++ s ∷ []) c.in-Some-Left.field-0-is in
    let was = subst (λ (ss : List Side). IsSoundPair (A.models e.left) A.meets (A.literals e.left) (A.capacity e.left) (B.models e.right) B.meets (B.literals e.right) (B.capacity e.right) ss e.left_places.items e.right_places.items e.limit e.sides.cap e.left_places.cap e.right_places.cap e.core.capacity) split c.self.invariant in
    rw (← c.self.view_is)
    (ap (λ xs. in_order front xs (B.literals e.right)) c.undo.ensures.list ∙ popped_left (A.models e.left) A.meets (A.literals e.left) (A.capacity e.left) (B.models e.right) B.meets (B.literals e.right) (B.capacity e.right) front e.left_places.items e.right_places.items e.limit e.sides.cap e.left_places.cap e.right_places.cap e.core.capacity was
    ∙ ap (λ (ss : List Side). take (length (in_order ss (A.literals e.left) (B.literals e.right)) - 1) (in_order ss (A.literals e.left) (B.literals e.right))) (sym split))

pub undo-requires-in-Some-Right : goal.undo-requires-in-Some-Right
undo-requires-in-Some-Right g c =
    let A = g.A.Theory in
    let B = g.B.Theory in
    let e = c.self.inside in
    let front = c.pop.new.self.items in
    let split : e.sides.items ≡ front ++ Right ∷ [] = c.in-Some-Right.ensures.items ∙ ap (λ (s : Side). front ++ s ∷ []) c.in-Some-Right.field-0-is in
    let was = subst (λ (ss : List Side). IsSoundPair (A.models e.left) A.meets (A.literals e.left) (A.capacity e.left) (B.models e.right) B.meets (B.literals e.right) (B.capacity e.right) ss e.left_places.items e.right_places.items e.limit e.sides.cap e.left_places.cap e.right_places.cap e.core.capacity) split c.self.invariant in
    omega (arith, right_there (A.models e.left) A.meets (A.literals e.left) (A.capacity e.left) (B.models e.right) B.meets (B.literals e.right) (B.capacity e.right) front e.left_places.items e.right_places.items e.limit e.sides.cap e.left_places.cap e.right_places.cap e.core.capacity was)

pub invariant_of-self-in-Some-Right : goal.invariant_of-self-in-Some-Right
invariant_of-self-in-Some-Right g c =
    let A = g.A.Theory in
    let B = g.B.Theory in
    let e = c.self.inside in
    let front = c.pop.new.self.items in
    let split : e.sides.items ≡ front ++ Right ∷ [] = c.in-Some-Right.ensures.items ∙ ap (λ (s : Side). front ++ s ∷ []) c.in-Some-Right.field-0-is in
    let was = subst (λ (ss : List Side). IsSoundPair (A.models e.left) A.meets (A.literals e.left) (A.capacity e.left) (B.models e.right) B.meets (B.literals e.right) (B.capacity e.right) ss e.left_places.items e.right_places.items e.limit e.sides.cap e.left_places.cap e.right_places.cap e.core.capacity) split c.self.invariant in
    let places = e.right_places in
    let shorter = c.pop-in-Some-Right.ensures.rest ∙ ap (λ k. take (k - 1) places.items) places.ok.0 in
    pop_right (A.models e.left) A.meets (A.literals e.left) (A.capacity e.left) (B.models e.right) B.meets (B.literals e.right) (B.capacity e.right) front e.left_places.items e.right_places.items e.limit e.sides.cap e.left_places.cap e.right_places.cap e.core.capacity was (B.models c.undo-in-Some-Right.new.self) (B.literals c.undo-in-Some-Right.new.self) (B.capacity c.undo-in-Some-Right.new.self) c.pop-in-Some-Right.new.self.items c.pop.new.self.cap c.pop-in-Some-Right.new.self.cap
    c.undo-in-Some-Right.ensures.models c.undo-in-Some-Right.ensures.list c.undo-in-Some-Right.ensures.capacity shorter (omega (arith, c.in-Some-Right.ensures.capacity)) (omega (arith, c.pop-in-Some-Right.ensures.capacity))

pub returns-in-Some-Right-clause-list : goal.returns-in-Some-Right-clause-list
returns-in-Some-Right-clause-list g c =
    let A = g.A.Theory in
    let B = g.B.Theory in
    let e = c.self.inside in
    let front = c.pop.new.self.items in
    let split : e.sides.items ≡ front ++ Right ∷ [] = c.in-Some-Right.ensures.items ∙ ap (λ (s : Side). front ++ s ∷ []) c.in-Some-Right.field-0-is in
    let was = subst (λ (ss : List Side). IsSoundPair (A.models e.left) A.meets (A.literals e.left) (A.capacity e.left) (B.models e.right) B.meets (B.literals e.right) (B.capacity e.right) ss e.left_places.items e.right_places.items e.limit e.sides.cap e.left_places.cap e.right_places.cap e.core.capacity) split c.self.invariant in
    rw (← c.self.view_is)
    (ap (λ xs. in_order front (A.literals e.left) xs) c.undo-in-Some-Right.ensures.list ∙ popped_right (A.models e.left) A.meets (A.literals e.left) (A.capacity e.left) (B.models e.right) B.meets (B.literals e.right) (B.capacity e.right) front e.left_places.items e.right_places.items e.limit e.sides.cap e.left_places.cap e.right_places.cap e.core.capacity was
    ∙ ap (λ (ss : List Side). take (length (in_order ss (A.literals e.left) (B.literals e.right)) - 1) (in_order ss (A.literals e.left) (B.literals e.right))) (sym split))
