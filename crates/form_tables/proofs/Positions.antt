-- Where numbers stand in a list, and what a search finds.
use Rattle.std.proofs.Common.{◌≡◌, ℕ, zero, suc, ◌+◌, ◌<◌, inl, inr, Bool, true, false, not, refl, sym, ◌∙◌, List, [], ◌∷◌, ◌++◌, Some, None, length, cond, ap, subst, arith, slice_get, Contains, map}
use Rattle.std.specs.Prelude.{◌==◌, max, nat_lt, unwrap_or}
use Rattle.std.specs.List.{find, position, position_or_len}
use Rattle.std.proofs.lemmas.Bool.Decides.{eqb_tells, leb_tells}
use Rattle.std.proofs.lemmas.Option.{slice_get_within}
use Rattle.form_terms.specs.Listing.{HasNoRepeats}
use Rattle.form_terms.proofs.Lists.{Contains-head, Contains-tail, Contains-cons_cases, Contains-none}
use Rattle.form_terms.proofs.Kept.{nat_same}
use Rattle.form_terms.proofs.Listed.{to_map}

-- the position of x in y and the others
position-cons : (x y : ℕ) (xs : List ℕ) (b : Bool) → (y == x) ≡ b → position_or_len (λ z. z == x) (y ∷ xs) ≡ cond b 0 (1 + position_or_len (λ z. z == x) xs)
position-cons x y xs true e = ap (λ b. cond (not b) (1 + position_or_len (λ z. z == x) xs) 0) e
position-cons x y xs false e = ap (λ b. cond (not b) (1 + position_or_len (λ z. z == x) xs) 0) e

abbrev StandsAt : List ℕ → ℕ → Type 0
StandsAt xs x = slice_get xs (position_or_len (λ y. y == x) xs) ≡ Some x

stands_first : (x : ℕ) (xs : List ℕ) → StandsAt (x ∷ xs) x
stands_first x xs =
    let Q : ℕ → Type 0 = λ i. slice_get (x ∷ xs) i ≡ Some x in subst Q (sym (position-cons x x xs true (nat_same x))) refl

stands_later : (x y : ℕ) (xs : List ℕ) → (y == x) ≡ false → StandsAt xs x → StandsAt (y ∷ xs) x
stands_later x y xs e h =
    let k : ℕ = position_or_len (λ z. z == x) xs in
    let Q : ℕ → Type 0 = λ i. slice_get (y ∷ xs) i ≡ Some x in
    let step : 1 + k ≡ suc k = omega arith in
    subst Q (sym (position-cons x y xs false e ∙ step)) h

stands : (xs : List ℕ) (x : ℕ) → Contains xs x → StandsAt xs x
stands [] x c = Contains-none x c
stands (y ∷ xs) x c =
    elim (eqb_tells y x) [
      | inl same ↦ let Q : ℕ → Type 0 = λ y. StandsAt (y ∷ xs) x in subst Q (sym same.1) (stands_first x xs)
      | inr other ↦
          elim (Contains-cons_cases y xs x c) [
            | inl e ↦ absurd (other.1 e)
            | inr later ↦ stands_later x y xs other.0 (stands xs x later)
          ]
    ]

pub below : (n m : ℕ) → n < m → nat_lt n m ≡ true
below n m h = elim (leb_tells (suc n) m) [ inl p ↦ p.0 | inr p ↦ absurd (omega (arith, h, p.1)) ]

pub is_below : (n m : ℕ) → nat_lt n m ≡ true → n < m
is_below n m e = elim (leb_tells (suc n) m) [ inl p ↦ p.1 | inr p ↦ let no : true ≡ false = sym e ∙ p.0 in cc ]

-- the position of a number that is there, or 0
abbrev pub place_in : List ℕ → ℕ → ℕ
place_in xs x = unwrap_or (position (λ y. y == x) xs) 0

pub place_found : (xs : List ℕ) (x : ℕ) → Contains xs x → slice_get xs (place_in xs x) ≡ Some x
place_found xs x c =
    let i : ℕ = position_or_len (λ y. y == x) xs in
    let here = stands xs x c in
    let found : nat_lt i (length xs) ≡ true = below i (length xs) (slice_get_within xs i x here) in
    let Q : Bool → Type 0 = λ b. slice_get xs (unwrap_or (cond b (Some i) None) 0) ≡ Some x in
    subst Q (sym found) here

pub place_below : (xs : List ℕ) (x : ℕ) → place_in xs x < max 1 (length xs)
place_below xs x = choose (nat_lt (position_or_len (λ y. y == x) xs) (length xs)) refl
  where
    choose : (b : Bool) → nat_lt (position_or_len (λ y. y == x) xs) (length xs) ≡ b
        → unwrap_or (cond b (Some (position_or_len (λ y. y == x) xs)) None) 0 < max 1 (length xs)
    choose true e = let h = is_below (position_or_len (λ y. y == x) xs) (length xs) e in omega (arith, h)
    choose false e = omega arith

from_get : (xs : List ℕ) (j x : ℕ) → slice_get xs j ≡ Some x → Contains xs x
from_get [] j x e = cc
from_get (z ∷ xs) zero x e = let same : z ≡ x = cc in let P : ℕ → Type 0 = λ x. Contains (z ∷ xs) x in subst P same (Contains-head z xs)
from_get (z ∷ xs) (suc j) x e = Contains-tail z xs x (from_get xs j x e)

not_again : {A : Type 0} (y : ℕ) (xs : List ℕ) (j x : ℕ) → HasNoRepeats (y ∷ xs) → y ≡ x → slice_get xs j ≡ Some x → A
not_again y xs j x h same e = let P : ℕ → Type 0 = λ z. Contains xs z in absurd (h.0 (subst P (sym same) (from_get xs j x e)))

-- a number that stands once has that place
same_place : (xs : List ℕ) (i j x : ℕ) → HasNoRepeats xs → slice_get xs i ≡ Some x → slice_get xs j ≡ Some x → i ≡ j
same_place [] i j x h p q = cc
same_place (y ∷ xs) zero zero x h p q = refl
same_place (y ∷ xs) zero (suc j) x h p q = let same : y ≡ x = cc in not_again y xs j x h same q
same_place (y ∷ xs) (suc i) zero x h p q = let same : y ≡ x = cc in not_again y xs i x h same p
same_place (y ∷ xs) (suc i) (suc j) x h p q = ap suc (same_place xs i j x h.1 p q)

pub place_of_get : (xs : List ℕ) (i x : ℕ) → HasNoRepeats xs → Contains xs x → slice_get xs i ≡ Some x → place_in xs x ≡ i
place_of_get xs i x h c e = same_place xs (place_in xs x) i x h (place_found xs x c) e

-- a search in a longer list
pub find-front : {X : Type 0} (p : X → Bool) (xs ys : List X) (x : X) → find p xs ≡ Some x → find p (xs ++ ys) ≡ Some x
find-front p [] ys x e = cc
find-front {X} p (y ∷ xs) ys x e =
    let Q : Bool → Type 0 = λ b. cond b (Some y) (find p xs) ≡ Some x → cond b (Some y) (find p (xs ++ ys)) ≡ Some x in
    elim (p y) as Q [ true ↦ λ e. e | false ↦ λ e. find-front p xs ys x e ] e

-- what is found passes
pub find-passes : {X : Type 0} (p : X → Bool) (xs : List X) (x : X) → find p xs ≡ Some x → p x ≡ true
find-passes p [] x e = cc
find-passes {X} p (y ∷ xs) x e = choose (λ e. find-passes p xs x e) (p y) refl e
  where
    choose : (find p xs ≡ Some x → p x ≡ true) → (b : Bool) → p y ≡ b → cond b (Some y) (find p xs) ≡ Some x → p x ≡ true
    choose later true h e = let same : y ≡ x = cc in ap p (sym same) ∙ h
    choose later false h e = later e

-- elements with one mark are one where no mark stands twice
pub marked_once : {X : Type 0} (mark : X → ℕ) (xs : List X) (x y : X) → HasNoRepeats (map mark xs) → Contains xs x → Contains xs y → mark x ≡ mark y → x ≡ y
marked_once mark [] x y h c d e = Contains-none x c
marked_once {X} mark (z ∷ xs) x y h c d e =
    elim (Contains-cons_cases z xs x c) [
      | inl p ↦
          elim (Contains-cons_cases z xs y d) [
            | inl q ↦ sym p ∙ q
            | inr q ↦
                let P : ℕ → Type 0 = λ n. Contains (map mark xs) n in
                absurd (h.0 (subst P (sym e ∙ ap mark (sym p)) (to_map mark xs y q)))
          ]
      | inr p ↦
          elim (Contains-cons_cases z xs y d) [
            | inl q ↦
                let P : ℕ → Type 0 = λ n. Contains (map mark xs) n in
                absurd (h.0 (subst P (e ∙ ap mark (sym q)) (to_map mark xs x p)))
            | inr q ↦ marked_once mark xs x y h.1 p q e
          ]
    ]
