-- Members of lists, and graphs with the same edges.
use Rattle.std.proofs.Common.{◌≡◌, ℕ, zero, suc, ◌⊎◌, inl, inr, refl, sym, List, [], ◌∷◌, map, subst, arith, Contains}
use Rattle.std.specs.List.{flat_map}
use Rattle.std.proofs.lemmas.List.Elements.{Contains-append_cases, Contains-append_left, Contains-append_right}
use Rattle.form_strata.specs.SortGraph.{IsWalk}
use Rattle.form_strata.specs.Order.{IsOrder, IsCycle}
use Rattle.form_strata.specs.Search.{AreEdgesBelow}
use Rattle.form_strata.specs.Visits.{HaveSame}

pub head_in : {X : Type 0} (x : X) (xs : List X) → Contains (x ∷ xs) x
head_in x xs = (0, omega arith, refl)

pub tail_in : {X : Type 0} (y : X) (xs : List X) (x : X) → Contains xs x → Contains (y ∷ xs) x
tail_in y xs x h = (suc h.0, omega (arith, h.1), h.2)

pub cons_cases : {X : Type 0} (y : X) (xs : List X) (x : X) → Contains (y ∷ xs) x → (y ≡ x) ⊎ Contains xs x
cons_cases y xs x (zero, within, e) = inl e
cons_cases y xs x (suc k, within, e) = inr (k, omega (arith, within), e)

pub none_in : {X A : Type 0} (x : X) → Contains [] x → A
none_in x (k, within, e) = absurd (omega (arith, within))

-- what is in a list made of lists is in one of these
pub in_flat_map : {X Y : Type 0} (h : X → List Y) (xs : List X) (y : Y) → Contains (flat_map h xs) y → (x : X) × Contains xs x × Contains (h x) y
in_flat_map h [] y c = none_in y c
in_flat_map h (x ∷ xs) y c =
    elim (Contains-append_cases (h x) (flat_map h xs) y c) [
      | inl here ↦ (x, head_in x xs, here)
      | inr later ↦ let found = in_flat_map h xs y later in (found.0, tail_in x xs found.0 found.1, found.2)
    ]

pub flat_map_in : {X Y : Type 0} (h : X → List Y) (xs : List X) (x : X) (y : Y) → Contains xs x → Contains (h x) y → Contains (flat_map h xs) y
flat_map_in {X} {Y} h [] x y c d = none_in x c
flat_map_in {X} {Y} h (z ∷ xs) x y c d =
    elim (cons_cases z xs x c) [
      | inl e ↦ let Q : X → Type 0 = λ x. Contains (h x) y in Contains-append_left (h z) (flat_map h xs) y (subst Q (sym e) d)
      | inr later ↦ Contains-append_right (h z) (flat_map h xs) y (flat_map_in h xs x y later d)
    ]

-- and in a list of what a function gives
pub in_map : {X Y : Type 0} (h : X → Y) (xs : List X) (y : Y) → Contains (map h xs) y → (x : X) × Contains xs x × (h x ≡ y)
in_map h [] y c = none_in y c
in_map h (x ∷ xs) y c =
    elim (cons_cases (h x) (map h xs) y c) [
      | inl here ↦ (x, head_in x xs, here)
      | inr later ↦ let found = in_map h xs y later in (found.0, tail_in x xs found.0 found.1, found.2)
    ]

pub map_in : {X Y : Type 0} (h : X → Y) (xs : List X) (x : X) → Contains xs x → Contains (map h xs) (h x)
map_in {X} {Y} h [] x c = none_in x c
map_in {X} {Y} h (z ∷ xs) x c =
    elim (cons_cases z xs x c) [
      | inl e ↦ let Q : X → Type 0 = λ x. Contains (map h (z ∷ xs)) (h x) in subst Q e (head_in (h z) (map h xs))
      | inr later ↦ tail_in (h z) (map h xs) (h x) (map_in h xs x later)
    ]

module _ (found graph : List (ℕ × ℕ)) (h : HaveSame found graph) where
  pub below_moved : (n : ℕ) → AreEdgesBelow graph n → AreEdgesBelow found n
  below_moved n all a b c = all a b (h.0 (a, b) c)

  pub order_moved : (n : ℕ) (order : List ℕ) → IsOrder found n order → IsOrder graph n order
  order_moved n order o = record {
    all = o.all;
    only = o.only;
    once = o.once;
    forward = λ a b c. o.forward a b (h.1 (a, b) c);
  }

  walk_moved : (from : ℕ) (rest : List ℕ) → IsWalk found from rest → IsWalk graph from rest
  walk_moved from [] w = tt
  walk_moved from (to ∷ rest) w = (h.0 (from, to) w.0, walk_moved to rest w.1)

  pub cycle_moved : (cycle : List ℕ) → IsCycle found cycle → IsCycle graph cycle
  cycle_moved [] c = c
  cycle_moved (from ∷ rest) c = (c.0, c.1, walk_moved from rest c.2)
