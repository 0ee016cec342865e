-- Numbers of nodes in longer lists of nodes.
use Rattle.std.proofs.Common.{◌≡◌, ℕ, suc, zero, ◌<◌, ◌≤◌, ◌⊎◌, inl, inr, Bool, true, false, refl, sym, List, [], ◌∷◌, ◌++◌, Some, length, take, drop, ap, subst, arith}
use Rattle.std.specs.Prelude.{slice_get}
use Rattle.std.proofs.lemmas.List.{take-append-le, take-append-drop}
use Rattle.std.proofs.lemmas.Option.{slice_get_within}
use Rattle.std.proofs.Math.Seq.{take-append_seam}
use Rattle.form_formula.specs.declared.node.Node.{Node}
use Rattle.form_formula.specs.declared.node.Node.TheVariants.{Bound, Num, Str, App, Yes, No, Eq, Less, Has, Flag, Present, Not, And, Or, Exists, Forall}
use Rattle.form_formula.specs.Nodes.{kind_at, IsPlaced, ArePlaced, IsBelow}

-- what stands in a list stands there in a longer one
pub slice_get_front : {A : Type 0} (xs ys : List A) (i : ℕ) (x : A) → slice_get xs i ≡ Some x → slice_get (xs ++ ys) i ≡ Some x
slice_get_front [] ys i x e = cc
slice_get_front (y ∷ xs) ys zero x e = e
slice_get_front (y ∷ xs) ys (suc i) x e = slice_get_front xs ys i x e

-- the last element
pub slice_get_last : {A : Type 0} (xs : List A) (y : A) → slice_get (xs ++ y ∷ []) (length xs) ≡ Some y
slice_get_last [] y = refl
slice_get_last (x ∷ xs) y = slice_get_last xs y

-- what stands in a list with one more element
pub slice_get_pushed : {A : Type 0} (xs : List A) (y : A) (i : ℕ) (x : A) → slice_get (xs ++ y ∷ []) i ≡ Some x → (slice_get xs i ≡ Some x) ⊎ ((i ≡ length xs) × (y ≡ x))
slice_get_pushed [] y zero x e = inr (refl, (cc))
slice_get_pushed [] y (suc i) x e = inl e
slice_get_pushed (z ∷ xs) y zero x e = inl e
slice_get_pushed (z ∷ xs) y (suc i) x e = elim (slice_get_pushed xs y i x e) [ inl h ↦ inl h | inr h ↦ inr (ap suc h.0, h.1) ]

pub kind_front : (xs ys : List Node) (i : ℕ) (b : Bool) → kind_at xs i ≡ Some b → kind_at (xs ++ ys) i ≡ Some b
kind_front [] ys i b e = cc
kind_front (y ∷ xs) ys zero b e = e
kind_front (y ∷ xs) ys (suc i) b e = kind_front xs ys i b e

-- a number that has a kind is that of a node
pub kind_within : (xs : List Node) (i : ℕ) (b : Bool) → kind_at xs i ≡ Some b → i < length xs
kind_within [] i b e = cc
kind_within (y ∷ xs) zero b e = omega arith
kind_within (y ∷ xs) (suc i) b e = omega (arith, kind_within xs i b e)

pub placed_front : (xs ys : List Node) (n : Node) → IsPlaced xs n → IsPlaced (xs ++ ys) n
placed_front xs ys (Bound sort depth) h = tt
placed_front xs ys (Num n) h = tt
placed_front xs ys (Str t) h = tt
placed_front xs ys (App f t) h = kind_front xs ys t true h
placed_front xs ys Yes h = tt
placed_front xs ys No h = tt
placed_front xs ys (Eq s t) h = (kind_front xs ys s true h.0, kind_front xs ys t true h.1)
placed_front xs ys (Less s t) h = (kind_front xs ys s true h.0, kind_front xs ys t true h.1)
placed_front xs ys (Has f s t) h = (kind_front xs ys s true h.0, kind_front xs ys t true h.1)
placed_front xs ys (Flag f t) h = kind_front xs ys t true h
placed_front xs ys (Present f t) h = kind_front xs ys t true h
placed_front xs ys (Not a) h = kind_front xs ys a false h
placed_front xs ys (And a b) h = (kind_front xs ys a false h.0, kind_front xs ys b false h.1)
placed_front xs ys (Or a b) h = (kind_front xs ys a false h.0, kind_front xs ys b false h.1)
placed_front xs ys (Exists sort a) h = kind_front xs ys a false h
placed_front xs ys (Forall sort a) h = kind_front xs ys a false h

-- a node that is placed among some nodes has parts below their number
pub below_placed : (xs : List Node) (n : Node) → IsPlaced xs n → IsBelow (length xs) n
below_placed xs (Bound sort depth) h = tt
below_placed xs (Num n) h = tt
below_placed xs (Str t) h = tt
below_placed xs (App f t) h = kind_within xs t true h
below_placed xs Yes h = tt
below_placed xs No h = tt
below_placed xs (Eq s t) h = (kind_within xs s true h.0, kind_within xs t true h.1)
below_placed xs (Less s t) h = (kind_within xs s true h.0, kind_within xs t true h.1)
below_placed xs (Has f s t) h = (kind_within xs s true h.0, kind_within xs t true h.1)
below_placed xs (Flag f t) h = kind_within xs t true h
below_placed xs (Present f t) h = kind_within xs t true h
below_placed xs (Not a) h = kind_within xs a false h
below_placed xs (And a b) h = (kind_within xs a false h.0, kind_within xs b false h.1)
below_placed xs (Or a b) h = (kind_within xs a false h.0, kind_within xs b false h.1)
below_placed xs (Exists sort a) h = kind_within xs a false h
below_placed xs (Forall sort a) h = kind_within xs a false h

length-take_within : (xs : List Node) (i : ℕ) (x : Node) → slice_get xs i ≡ Some x → length (take i xs) ≡ i
length-take_within [] i x e = cc
length-take_within (y ∷ xs) zero x e = refl
length-take_within (y ∷ xs) (suc i) x e = ap suc (length-take_within xs i x e)

-- each node has its parts below it, among all nodes
pub parts_below : (nodes : List Node) (id : ℕ) (n : Node) → ArePlaced nodes → slice_get nodes id ≡ Some n → IsBelow id n
parts_below nodes id n all e =
    let P : ℕ → Type 0 = λ k. IsBelow k n in subst P (length-take_within nodes id n e) (below_placed (take id nodes) n (all id n e))

pub parts_placed : (nodes : List Node) (id : ℕ) (n : Node) → ArePlaced nodes → slice_get nodes id ≡ Some n → IsPlaced nodes n
parts_placed nodes id n all e =
    let P : List Node → Type 0 = λ xs. IsPlaced xs n in
    subst P (take-append-drop id nodes) (placed_front (take id nodes) (drop id nodes) n (all id n e))

-- nodes stay placed with one more that is
pub placed_pushed : (nodes : List Node) (n : Node) → ArePlaced nodes → IsPlaced nodes n → ArePlaced (nodes ++ n ∷ [])
placed_pushed nodes n all here id m e =
    elim (slice_get_pushed nodes n id m e) [
      | inl h ↦
          let within : id ≤ length nodes = omega (arith, slice_get_within nodes id m h) in
          let P : List Node → Type 0 = λ front. IsPlaced front m in
          subst P (sym (take-append-le id nodes (n ∷ []) within)) (all id m h)
      | inr h ↦
          let P : List Node → Type 0 = λ front. IsPlaced front m in
          let Q : Node → Type 0 = λ m. IsPlaced nodes m in
          let front : take id (nodes ++ n ∷ []) ≡ nodes =
          let F : ℕ → Type 0 = λ i. take i (nodes ++ n ∷ []) ≡ nodes in subst F (sym h.0) (take-append_seam nodes (n ∷ [])) in
          subst P (sym front) (subst Q h.1 here)
    ]
