-- Elements of lists.
use Rattle.std.proofs.Common.{◌≡◌, ℕ, zero, suc, ◌+◌, ◌-◌, ◌<◌, ◌≤◌, ◌⊎◌, inl, inr, Bool, true, false, ◌||◌, refl, sym, ◌∙◌, List, [], ◌∷◌, Some, cond, subst, arith, Contains}
use Rattle.std.specs.List.{list_any, list_all, range_with_len, flat_map, find}
use Rattle.std.proofs.lemmas.List.Elements.{Contains-append_cases, Contains-append_left, Contains-append_right}
use Rattle.std.proofs.lemmas.List.FromFn.{length-range_with_len, get_or-range_with_len}

pub Contains-head : {X : Type 0} (x : X) (xs : List X) → Contains (x ∷ xs) x
Contains-head x xs = (0, omega arith, refl)

pub Contains-tail : {X : Type 0} (y : X) (xs : List X) (x : X) → Contains xs x → Contains (y ∷ xs) x
Contains-tail y xs x h = (suc h.0, omega (arith, h.1), h.2)

pub Contains-cons_cases : {X : Type 0} (y : X) (xs : List X) (x : X) → Contains (y ∷ xs) x → (y ≡ x) ⊎ Contains xs x
Contains-cons_cases y xs x (zero, within, e) = inl e
Contains-cons_cases y xs x (suc k, within, e) = inr (k, omega (arith, within), e)

pub Contains-none : {X A : Type 0} (x : X) → Contains [] x → A
Contains-none x (k, within, e) = absurd (omega (arith, within))

-- what is in a list made of lists is in one of these
pub Contains-flat_map : {X Y : Type 0} (h : X → List Y) (xs : List X) (y : Y) → Contains (flat_map h xs) y → (x : X) × Contains xs x × Contains (h x) y
Contains-flat_map h [] y c = Contains-none y c
Contains-flat_map h (x ∷ xs) y c =
    elim (Contains-append_cases (h x) (flat_map h xs) y c) [
      | inl here ↦ (x, Contains-head x xs, here)
      | inr later ↦ let found = Contains-flat_map h xs y later in (found.0, Contains-tail x xs found.0 found.1, found.2)
    ]

pub flat_map-Contains : {X Y : Type 0} (h : X → List Y) (xs : List X) (x : X) (y : Y) → Contains xs x → Contains (h x) y → Contains (flat_map h xs) y
flat_map-Contains {X} {Y} h [] x y c d = Contains-none x c
flat_map-Contains {X} {Y} h (z ∷ xs) x y c d =
    elim (Contains-cons_cases z xs x c) [
      | inl e ↦ let Q : X → Type 0 = λ x. Contains (h x) y in Contains-append_left (h z) (flat_map h xs) y (subst Q (sym e) d)
      | inr later ↦ Contains-append_right (h z) (flat_map h xs) y (flat_map-Contains h xs x y later d)
    ]

-- what a search finds
pub find-any : {X : Type 0} (p : X → Bool) (xs : List X) → list_any p xs ≡ true → (x : X) × (find p xs ≡ Some x) × (p x ≡ true)
find-any p [] e = cc
find-any {X} p (x ∷ xs) e =
    let answer : Bool = p x in
    let Q : Bool → Type 0 = λ b. (p x ≡ b) → (b || list_any p xs) ≡ true → (y : X) × (cond b (Some x) (find p xs) ≡ Some y) × (p y ≡ true) in
    elim answer as Q [
      | true ↦ λ h e. (x, refl, h)
      | false ↦ λ h e. find-any p xs e
    ] refl e

pub find-Contains : {X : Type 0} (p : X → Bool) (xs : List X) (x : X) → find p xs ≡ Some x → Contains xs x
find-Contains p [] x e = cc
find-Contains {X} p (y ∷ xs) x e =
    let Q : Bool → Type 0 = λ b. cond b (Some y) (find p xs) ≡ Some x → Contains (y ∷ xs) x in
    elim (p y) as Q [
      | true ↦ λ e. let same : y ≡ x = cc in let R : X → Type 0 = λ x. Contains (y ∷ xs) x in subst R same (Contains-head y xs)
      | false ↦ λ e. Contains-tail y xs x (find-Contains p xs x e)
    ] e

pub range-within : (a n x : ℕ) → Contains (range_with_len a n) x → (a ≤ x) × (x < a + n)
range-within a zero x c = Contains-none x c
range-within a (suc n) x c =
    elim (Contains-cons_cases a (range_with_len (a + 1) n) x c) [
      | inl e ↦ (omega (arith, e), omega (arith, e))
      | inr later ↦ let h = range-within (a + 1) n x later in (omega (arith, h.0), omega (arith, h.1))
    ]

pub range-Contains : (a n x : ℕ) → a ≤ x → x < a + n → Contains (range_with_len a n) x
range-Contains a n x low high =
    let within : x - a < n = omega (arith, low, high) in
    let sum : a + (x - a) ≡ x = omega (arith, low) in
    (x - a, omega (arith, length-range_with_len a n, within), get_or-range_with_len a n (x - a) x within ∙ sum)

-- each element passes a test that all pass
pub list_all-Contains : {X : Type 0} (p : X → Bool) (xs : List X) (x : X) → list_all p xs ≡ true → Contains xs x → p x ≡ true
list_all-Contains p [] x e c = Contains-none x c
list_all-Contains {X} p (y ∷ xs) x e c =
    let parts : (p y ≡ true) × (list_all p xs ≡ true) = grind (arith, e) in
    elim (Contains-cons_cases y xs x c) [
      | inl same ↦ let Q : X → Type 0 = λ x. p x ≡ true in subst Q same parts.0
      | inr later ↦ list_all-Contains p xs x parts.1 later
    ]

pub either_true : (a b : Bool) → (a || b) ≡ true → (a ≡ true) ⊎ (b ≡ true)
either_true true b e = inl refl
either_true false b e = inr e

pub cond_true : {X : Type 0} (b : Bool) (x y : X) → b ≡ true → cond b x y ≡ x
cond_true true x y e = refl
cond_true false x y e = cc

pub cond_false : {X : Type 0} (b : Bool) (x y : X) → b ≡ false → cond b x y ≡ y
cond_false true x y e = cc
cond_false false x y e = refl
