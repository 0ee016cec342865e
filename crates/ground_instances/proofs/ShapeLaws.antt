-- Shapes of nodes.
use Rattle.std.proofs.Common.{◌≡◌, ℕ, zero, suc, ◌*◌, ◌%◌, ◌<◌, inl, inr, Bool, true, false, ◌||◌, cond, refl, sym, ◌∙◌, List, [], ◌∷◌, ◌++◌, Some, length, ap, subst, arith, max}
use Rattle.std.specs.Prelude.{◌==◌, ◌^◌, slice_get, nat_le, nat_lt, bit_or}
use Rattle.std.specs.Int.{bit_at}
use Rattle.std.proofs.lemmas.Bool.{eqb-true}
use Rattle.std.proofs.lemmas.Bool.Decides.{nat_tests}
use Rattle.std.proofs.lemmas.Nat.{one_shl}
use Rattle.std.proofs.lemmas.Nat.Bits.{bit_at_or, bit_at-pow_same}
use Rattle.form_formula.specs.declared.node.Node.{Node}
use Rattle.form_formula.specs.declared.node.Node.TheVariants.{Bound, Num, Str, App, Yes, No, Eq, Less, Has, Flag, Present, Not, And, Or, Exists, Forall}
use Rattle.form_formula.specs.Nodes.{Tree, formula, term_of, formula_of, tree_of, tree_from, trees_of, IsTerm, IsFormula, IsPlaced, ArePlaced, IsBelow}
use Rattle.form_formula.specs.Trees.{both}
use Rattle.form_formula.proofs.Placement.{slice_get_pushed}
use Rattle.form_formula.proofs.TreeLemmas.{tree_of-at}
use Rattle.form_terms.proofs.Lists.{either_true}
use Rattle.form_terms.proofs.Typed.{less_than}
use Rattle.ground_terms.proofs.TreeSizes.{term_tree, formula_tree}
use Rattle.ground_instances.specs.declared.shapes.Shape.{Shape}
use Rattle.ground_instances.specs.Shapes.{occurs_in, occurs, is_in, Covers, IsShapeOf, AreShapes, shape_at, mask_of, node_shape, shape_of_both}

bit_max_left : (a b : ℕ) → a ≡ 1 → b < 2 → max a b ≡ 1
bit_max_left a b p q = omega arith

bit_max_right : (a b : ℕ) → a < 2 → b ≡ 1 → max a b ≡ 1
bit_max_right a b p q = omega arith

bit_small : (n k : ℕ) → bit_at n k < 2
bit_small n k = omega arith

one_bit : (n : ℕ) → (n == 1) ≡ true → n ≡ 1
one_bit n e = eqb-true n 1 e

is_one : (n : ℕ) → n ≡ 1 → (n == 1) ≡ true
is_one n e = ap (λ m. m == 1) e

or_later : (a b : Bool) → b ≡ true → (a || b) ≡ true
or_later true b e = refl
or_later false b e = e

-- a mask has what either of two masks has
in_left : (a b k : ℕ) → is_in a k ≡ true → is_in (bit_or a b) k ≡ true
in_left a b k e =
    elim (either_true (nat_le 64 k) (bit_at a k == 1) e) [
      | inl far ↦ ap (λ c. c || (bit_at (bit_or a b) k == 1)) far
      | inr bit ↦ or_later (nat_le 64 k) (bit_at (bit_or a b) k == 1)
          (is_one (bit_at (bit_or a b) k) (bit_at_or a b k ∙ bit_max_left (bit_at a k) (bit_at b k) (one_bit (bit_at a k) bit) (bit_small b k)))
    ]

in_right : (a b k : ℕ) → is_in b k ≡ true → is_in (bit_or a b) k ≡ true
in_right a b k e =
    elim (either_true (nat_le 64 k) (bit_at b k == 1) e) [
      | inl far ↦ ap (λ c. c || (bit_at (bit_or a b) k == 1)) far
      | inr bit ↦ or_later (nat_le 64 k) (bit_at (bit_or a b) k == 1)
          (is_one (bit_at (bit_or a b) k) (bit_at_or a b k ∙ bit_max_right (bit_at a k) (bit_at b k) (bit_small a k) (one_bit (bit_at b k) bit)))
    ]

covers_both : (a b : ℕ) (p q : ℕ → Bool) → Covers a p → Covers b q → Covers (bit_or a b) (λ k. p k || q k)
covers_both a b p q x y k e =
    elim (either_true (p k) (q k) e) [ inl h ↦ in_left a b k (x k h) | inr h ↦ in_right a b k (y k h) ]

not_less : (n m : ℕ) → nat_lt n m ≡ false → nat_le m n ≡ true
not_less n m e = grind (arith, nat_tests)

-- the mask of one variable
in_own : (k : ℕ) → is_in (mask_of k) k ≡ true
in_own k = choose (nat_lt k 64) refl
  where
    choose : (b : Bool) → nat_lt k 64 ≡ b → (nat_le 64 k || (bit_at (cond b (1 * 2 ^ k % 2 ^ 64) 0) k == 1)) ≡ true
    choose true e =
        let small : k < 64 = less_than k 64 e in
        or_later (nat_le 64 k) (bit_at (1 * 2 ^ k % 2 ^ 64) k == 1) (is_one (bit_at (1 * 2 ^ k % 2 ^ 64) k) (ap (λ n. bit_at n k) (one_shl k 64 small) ∙ bit_at-pow_same k))
    choose false e = ap (λ c. c || (bit_at 0 k == 1)) (not_less k 64 e)

covers_own : (sort depth : ℕ) → Covers (mask_of depth) (λ k. depth == k)
covers_own sort depth k e = let P : ℕ → Type 0 = λ k. is_in (mask_of depth) k ≡ true in subst P (eqb-true depth k e) (in_own depth)

shape_there : (shapes : List Shape) (k : ℕ) → k < length shapes → slice_get shapes k ≡ Some (shape_at shapes k)
shape_there [] k lt = absurd (omega arith)
shape_there (s ∷ shapes) zero lt = refl
shape_there (s ∷ shapes) (suc k) lt = shape_there shapes k (omega arith)

none_covered : (mask : ℕ) → Covers mask (λ k. false)
none_covered mask k e = cc

module _ (nodes : List Node) (placed : ArePlaced nodes) (shapes : List Shape) (each : AreShapes nodes shapes) where
  term_shape : (t : ℕ) → IsTerm nodes t → t < length shapes → Covers (shape_at shapes t).variables (λ k. occurs_in k (term_of nodes t))
  term_shape t h lt =
      let P : Tree → Type 0 = λ tree. IsShapeOf tree (shape_at shapes t) in
      subst P (term_tree nodes placed t h) (each t (shape_at shapes t) (shape_there shapes t lt))

  pub formula_shape : (a : ℕ) → IsFormula nodes a → a < length shapes → IsShapeOf (formula (formula_of nodes a)) (shape_at shapes a)
  formula_shape a h lt =
      let P : Tree → Type 0 = λ tree. IsShapeOf tree (shape_at shapes a) in
      subst P (formula_tree nodes placed a h) (each a (shape_at shapes a) (shape_there shapes a lt))

  two_terms : (s t : ℕ) → IsTerm nodes s → IsTerm nodes t → s < length shapes → t < length shapes
      → Covers (bit_or (shape_at shapes s).variables (shape_at shapes t).variables) (λ k. occurs_in k (term_of nodes s) || occurs_in k (term_of nodes t))
  two_terms s t h i lt lt' =
      covers_both (shape_at shapes s).variables (shape_at shapes t).variables (λ k. occurs_in k (term_of nodes s)) (λ k. occurs_in k (term_of nodes t)) (term_shape s h lt) (term_shape t i lt')

  two_formulas : (a b : ℕ) → IsFormula nodes a → IsFormula nodes b → a < length shapes → b < length shapes → IsShapeOf (formula (both (formula_of nodes a) (formula_of nodes b))) (shape_of_both (shape_at shapes a) (shape_at shapes b))
  two_formulas a b h i lt lt' =
      let s = formula_shape a h lt in
      let t = formula_shape b i lt' in (
        (let p = s.0 in let q = t.0 in cc),
        omega (arith, s.1, t.1),
        covers_both (shape_at shapes a).variables (shape_at shapes b).variables (λ k. occurs k (formula_of nodes a)) (λ k. occurs k (formula_of nodes b)) s.2 t.2,
      )

  -- the shape of a node by those of its parts
  node_shaped : (n : Node) → IsPlaced nodes n → IsBelow (length shapes) n → IsShapeOf (tree_from (trees_of nodes) n) (node_shape shapes n)
  node_shaped (Bound sort depth) h lt = covers_own sort depth
  node_shaped (Num n) h lt = none_covered 0
  node_shaped (Str t) h lt = none_covered 0
  node_shaped (App f t) h lt = term_shape t h lt
  node_shaped Yes h lt = (refl, refl, none_covered 0)
  node_shaped No h lt = (refl, refl, none_covered 0)
  node_shaped (Eq s t) h lt = (refl, refl, two_terms s t h.0 h.1 lt.0 lt.1)
  node_shaped (Less s t) h lt = (refl, refl, two_terms s t h.0 h.1 lt.0 lt.1)
  node_shaped (Has r s t) h lt = (refl, refl, two_terms s t h.0 h.1 lt.0 lt.1)
  node_shaped (Flag f t) h lt = (refl, refl, term_shape t h lt)
  node_shaped (Present f t) h lt = (refl, refl, term_shape t h lt)
  node_shaped (Not a) h lt = let s = formula_shape a h lt in (refl, s.1, s.2)
  node_shaped (And a b) h lt = two_formulas a b h.0 h.1 lt.0 lt.1
  node_shaped (Or a b) h lt = two_formulas a b h.0 h.1 lt.0 lt.1
  node_shaped (Exists sort a) h lt = let s = formula_shape a h lt in (refl, omega (arith, s.1), s.2)
  node_shaped (Forall sort a) h lt = let s = formula_shape a h lt in (s.0, omega (arith, s.1), s.2)

  -- one more shape
  pub shapes_more : (at : ℕ) (n : Node) → length shapes ≡ at → slice_get nodes at ≡ Some n → IsPlaced nodes n → IsBelow at n → AreShapes nodes (shapes ++ node_shape shapes n ∷ [])
  shapes_more at n e there here below = λ k shape h.
      elim (slice_get_pushed shapes (node_shape shapes n) k shape h) [
        | inl old ↦ each k shape old
        | inr (k_is, shape_is) ↦
            let P : ℕ → Type 0 = λ k. IsBelow k n in
            let Q : Tree → Type 0 = λ tree. IsShapeOf tree (node_shape shapes n) in
            let R : Shape → Type 0 = λ s. IsShapeOf (tree_of nodes k) s in
            let S : ℕ → Type 0 = λ k. IsShapeOf (tree_of nodes k) (node_shape shapes n) in
            subst R shape_is (subst S (sym (k_is ∙ e)) (subst Q (sym (tree_of-at nodes at n placed there)) (node_shaped n here (subst P (sym e) below))))
      ]
