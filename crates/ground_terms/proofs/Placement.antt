-- Numbers of nodes in longer lists of nodes.
use Rattle.std.proofs.Common.{◌≡◌, ℕ, suc, zero, ◌<◌, ◌≤◌, inl, inr, Bool, true, false, refl, sym, List, [], ◌∷◌, ◌++◌, Some, length, take, drop, ap, subst, arith}
use Rattle.std.specs.Prelude.{slice_get}
use Rattle.std.proofs.lemmas.List.{take-append-le, take-append-drop}
use Rattle.std.proofs.lemmas.Option.{slice_get_within}
use Rattle.std.proofs.Math.Seq.{take-append_seam}
use Rattle.form_formula.proofs.Placement.{slice_get_pushed}
use Rattle.ground_terms.specs.declared.node.TermNode.{TermNode}
use Rattle.ground_terms.specs.declared.node.TermNode.TheVariants.{Constant, Skolem, Field, Empty, Cons}
use Rattle.ground_terms.specs.Nodes.{kind_at, IsPlaced, ArePlaced, IsBelow}

pub kind_front : (xs ys : List TermNode) (i : ℕ) (b : Bool) → kind_at xs i ≡ Some b → kind_at (xs ++ ys) i ≡ Some b
kind_front [] ys i b e = cc
kind_front (y ∷ xs) ys zero b e = e
kind_front (y ∷ xs) ys (suc i) b e = kind_front xs ys i b e

-- a number that has a kind is that of a node
pub kind_within : (xs : List TermNode) (i : ℕ) (b : Bool) → kind_at xs i ≡ Some b → i < length xs
kind_within [] i b e = cc
kind_within (y ∷ xs) zero b e = omega arith
kind_within (y ∷ xs) (suc i) b e = omega (arith, kind_within xs i b e)

pub placed_front : (xs ys : List TermNode) (n : TermNode) → IsPlaced xs n → IsPlaced (xs ++ ys) n
placed_front xs ys (Constant sort) h = tt
placed_front xs ys (Skolem n sort ts) h = kind_front xs ys ts false h
placed_front xs ys (Field f t) h = kind_front xs ys t true h
placed_front xs ys Empty h = tt
placed_front xs ys (Cons t ts) h = (kind_front xs ys t true h.0, kind_front xs ys ts false h.1)

-- a node that is placed among some nodes has parts below their number
pub below_placed : (xs : List TermNode) (n : TermNode) → IsPlaced xs n → IsBelow (length xs) n
below_placed xs (Constant sort) h = tt
below_placed xs (Skolem n sort ts) h = kind_within xs ts false h
below_placed xs (Field f t) h = kind_within xs t true h
below_placed xs Empty h = tt
below_placed xs (Cons t ts) h = (kind_within xs t true h.0, kind_within xs ts false h.1)

pub length-take_within : {A : Type 0} (xs : List A) (i : ℕ) (x : A) → slice_get xs i ≡ Some x → length (take i xs) ≡ i
length-take_within [] i x e = cc
length-take_within (y ∷ xs) zero x e = refl
length-take_within (y ∷ xs) (suc i) x e = ap suc (length-take_within xs i x e)

-- each node has its parts below it, among all nodes
pub parts_below : (nodes : List TermNode) (id : ℕ) (n : TermNode) → ArePlaced nodes → slice_get nodes id ≡ Some n → IsBelow id n
parts_below nodes id n all e =
    let P : ℕ → Type 0 = λ k. IsBelow k n in subst P (length-take_within nodes id n e) (below_placed (take id nodes) n (all id n e))

pub parts_placed : (nodes : List TermNode) (id : ℕ) (n : TermNode) → ArePlaced nodes → slice_get nodes id ≡ Some n → IsPlaced nodes n
parts_placed nodes id n all e =
    let P : List TermNode → Type 0 = λ xs. IsPlaced xs n in
    subst P (take-append-drop id nodes) (placed_front (take id nodes) (drop id nodes) n (all id n e))

-- nodes stay placed with one more that is
pub placed_pushed : (nodes : List TermNode) (n : TermNode) → ArePlaced nodes → IsPlaced nodes n → ArePlaced (nodes ++ n ∷ [])
placed_pushed nodes n all here id m e =
    elim (slice_get_pushed nodes n id m e) [
      | inl h ↦
          let within : id ≤ length nodes = omega (arith, slice_get_within nodes id m h) in
          let P : List TermNode → Type 0 = λ front. IsPlaced front m in
          subst P (sym (take-append-le id nodes (n ∷ []) within)) (all id m h)
      | inr h ↦
          let P : List TermNode → Type 0 = λ front. IsPlaced front m in
          let Q : TermNode → Type 0 = λ m. IsPlaced nodes m in
          let front : take id (nodes ++ n ∷ []) ≡ nodes =
          let F : ℕ → Type 0 = λ i. take i (nodes ++ n ∷ []) ≡ nodes in subst F (sym h.0) (take-append_seam nodes (n ∷ [])) in
          subst P (sym front) (subst Q h.1 here)
    ]
