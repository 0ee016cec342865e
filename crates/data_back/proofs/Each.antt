-- What holds of each element of a list.
use Rattle.std.proofs.Common.{◌≡◌, ℕ, zero, suc, ◌+◌, ◌<◌, ◌≤◌, Bool, true, false, ◌&&◌, IsTrue, List, [], ◌∷◌, get_or, drop, length, map, refl, arith}
use Rattle.std.specs.Prelude.{◌↔◌, nat_lt, nat_le}
use Rattle.std.proofs.lemmas.Bool.{ltb-true, lt-ltb, leb-true, le-leb}
use Rattle.data_meaning.specs.Values.{IsId, last_id}
use Rattle.std.proofs.lemmas.List.{drop_more, drop_all}
use Rattle.std.specs.List.{list_all, slice_index, AllByRecursion}

both-true : (a b : Bool) → a && b ≡ true → (a ≡ true) × (b ≡ true)
both-true true b e = (refl, e)
both-true false b e = cc

and-true : (a b : Bool) → a ≡ true → b ≡ true → a && b ≡ true
and-true true b e f = f
and-true false b e f = cc

-- by a test
pub by-test : {A : Type 0} (p : A → Bool) (P : A → Type 0) → ((x : A) → IsTrue (p x) ↔ P x) → (xs : List A) → IsTrue (list_all p xs) ↔ AllByRecursion P xs
by-test p P same [] = (λ _. tt, λ _. refl)
by-test p P same (x ∷ xs) =
    let later = by-test p P same xs in (
      λ e. let parts = both-true (p x) (list_all p xs) e in ((same x).0 parts.0, later.0 parts.1),
      λ all. and-true (p x) (list_all p xs) ((same x).1 all.0) (later.1 all.1),
    )

module _ {A : Type 0} (P : A → Type 0) where
  -- it holds of all where it holds of those from a place on
  abbrev pub Left : List A → ℕ → Type 0
  Left xs i = AllByRecursion P (drop i xs) ↔ AllByRecursion P xs

  pub none-seen : (xs : List A) → Left xs 0
  none-seen xs = (λ all. all, λ all. all)

  cut : (xs : List A) (i : ℕ) (d : A) → i < length xs → AllByRecursion P (drop i xs) ↔ (P (get_or xs i d) × AllByRecursion P (drop (i + 1) xs))
  cut xs i d below = rw (drop_more xs i d below) (λ all. all, λ all. all)

  pub one-seen : (xs : List A) (i : ℕ) (d : A) → i < length xs → P (get_or xs i d) → Left xs i → Left xs (i + 1)
  one-seen xs i d below holds left =
      let parts = cut xs i d below in (λ all. left.0 (parts.1 (holds, all)), λ all. (parts.0 (left.1 all)).1)

  pub one-fails : (xs : List A) (i : ℕ) (d : A) → i < length xs → (P (get_or xs i d) → ⊥) → Left xs i → AllByRecursion P xs → ⊥
  one-fails xs i d below fails left all = fails ((cut xs i d below).0 (left.1 all)).0

  pub all-seen : (xs : List A) (i : ℕ) → length xs ≤ i → Left xs i → AllByRecursion P xs
  all-seen xs i over left = left.0 (rw (drop_all i xs over) tt)

pub is-below : (a b : ℕ) → IsTrue (nat_lt a b) ↔ (a < b)
is-below a b = (λ e. ltb-true a b e, λ h. lt-ltb a b h)

pub is-id : (id : ℕ) → IsTrue (nat_le 1 id && nat_le id last_id) ↔ IsId id
is-id id = (
  λ e. let parts = both-true (nat_le 1 id) (nat_le id last_id) e in (leb-true 1 id parts.0, leb-true id last_id parts.1),
  λ is. and-true (nat_le 1 id) (nat_le id last_id) (le-leb 1 id is.0) (le-leb id last_id is.1),
)

pub map-at : {A B : Type 0} (f : B → ℕ) (g : A → B) (xs : List A) (i : ℕ) (d : A) → i < length xs → slice_index (map f (map g xs)) i ≡ f (g (get_or xs i d))
map-at f g [] i d below = absurd (omega (arith, below))
map-at f g (x ∷ xs) zero d below = refl
map-at f g (x ∷ xs) (suc i) d below = map-at f g xs i d (omega (arith, below))
