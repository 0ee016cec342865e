-- What is found by its name, and at its place.
use Rattle.std.proofs.Common.{◌≡◌, ℕ, zero, suc, ◌+◌, ◌-◌, ◌<◌, ◌≤◌, Bool, true, false, not, List, [], ◌∷◌, ◌++◌, map, refl, sym, ◌∙◌, ap, cond, arith, length}
use Rattle.std.specs.Prelude.{Some, None, is_some, position, slice_get, ◌==◌}
use Rattle.std.specs.List.{find, position_or_len, AllByRecursion, IsDistinct}
use Rattle.std.specs.Option.{option_map}
use Rattle.std.specs.Str.{bytes_eq}
use Rattle.std.proofs.Math.Dec.{ltb}
use Rattle.std.proofs.lemmas.Bool.{eqb-true, ltb-true}
use Rattle.std.proofs.lemmas.Slice.Eq.{bytes_eq-Decides}
use Rattle.type_schema.specs.Script.{Script, command_at}
use Rattle.check_report_back.specs.Back.{command_numbered}

-- ---- places

or-place : {A : Type 0} (p : A → Bool) (xs : List A) (k : ℕ) → position p xs ≡ Some k → position_or_len p xs ≡ k
or-place p xs k e =
    elim (ltb (position_or_len p xs) (length xs)) as (λ (b : Bool). cond b (Some (position_or_len p xs)) None ≡ Some k → position_or_len p xs ≡ k) [
      | true ↦ λ is. cc
      | false ↦ λ is. cc
    ] e

below-end : {A : Type 0} (p : A → Bool) (xs : List A) (k : ℕ) → position p xs ≡ Some k → position_or_len p xs < length xs
below-end p xs k e =
    elim (ltb (position_or_len p xs) (length xs)) as (λ (b : Bool). ltb (position_or_len p xs) (length xs) ≡ b → cond b (Some (position_or_len p xs)) None ≡ Some k → position_or_len p xs < length xs) [
      | true ↦ λ h is. ltb-true _ _ h
      | false ↦ λ h is. cc
    ] refl e

stands-there : {A : Type 0} (p : A → Bool) (xs : List A) → position_or_len p xs < length xs → (x : A) × (slice_get xs (position_or_len p xs) ≡ Some x) × (p x ≡ true)
stands-there p [] below = absurd (omega (arith, below))
stands-there {A} p (x ∷ xs) below =
    elim (p x) as (λ (b : Bool). p x ≡ b → cond (not b) (1 + position_or_len p xs) 0 < suc (length xs)
    → (y : A) × (slice_get (x ∷ xs) (cond (not b) (1 + position_or_len p xs) 0) ≡ Some y) × (p y ≡ true)) [
      | true ↦ λ here low. (x, refl, here)
      | false ↦ λ here low.
          let later = stands-there p xs (omega (arith, low)) in
          let one : 1 + position_or_len p xs ≡ suc (position_or_len p xs) = omega arith in
          (later.0, ap (slice_get (x ∷ xs)) one ∙ later.1, later.2)
    ] refl below

-- the first that passes stands at its place
pub at-place : {A : Type 0} (p : A → Bool) (xs : List A) (k : ℕ) → position p xs ≡ Some k → (x : A) × (slice_get xs k ≡ Some x) × (p x ≡ true)
at-place p xs k e =
    let there = stands-there p xs (below-end p xs k e) in
    (there.0, ap (slice_get xs) (sym (or-place p xs k e)) ∙ there.1, there.2)

pub get-seen : {A B : Type 0} (f : A → B) (xs : List A) (k : ℕ) → slice_get (map f xs) k ≡ option_map f (slice_get xs k)
get-seen f [] zero = refl
get-seen f [] (suc k) = refl
get-seen f (x ∷ xs) zero = refl
get-seen f (x ∷ xs) (suc k) = get-seen f xs k

-- the command of a number stands before the place of the number
pub numbered-at : (t : Script) (number before : ℕ) → 1 ≤ number → before ≡ number - 1 → command_numbered t number ≡ command_at t before
numbered-at t zero before low e = absurd (omega (arith, low))
numbered-at t (suc k) before low e = let same : k ≡ before = omega (arith, e) in ap (command_at t) same

-- ---- two lists

pub in-first : {A : Type 0} (p : A → Bool) (xs ys : List A) → is_some (find p xs) ≡ true → is_some (find p (xs ++ ys)) ≡ true
in-first p [] ys e = cc
in-first {A} p (x ∷ xs) ys e =
    elim (p x) as (λ (b : Bool). is_some (cond b (Some x) (find p xs)) ≡ true → is_some (cond b (Some x) (find p (xs ++ ys))) ≡ true) [
      | true ↦ λ h. refl
      | false ↦ λ h. in-first p xs ys h
    ] e

pub in-second : {A : Type 0} (p : A → Bool) (xs ys : List A) → is_some (find p xs) ≡ false → is_some (find p (xs ++ ys)) ≡ is_some (find p ys)
in-second p [] ys e = refl
in-second {A} p (x ∷ xs) ys e =
    elim (p x) as (λ (b : Bool). is_some (cond b (Some x) (find p xs)) ≡ false → is_some (cond b (Some x) (find p (xs ++ ys))) ≡ is_some (find p ys)) [
      | true ↦ λ h. cc
      | false ↦ λ h. in-second p xs ys h
    ] e

-- ---- names

module _ {A : Type 0} (number : A → ℕ) (name : A → List ℕ) where
  other-name : (x : A) (xs : List A) (n : ℕ) (a : A) → AllByRecursion (λ y. bytes_eq (name x) y ≡ false) (map name xs) → find (λ y. number y == n) xs ≡ Some a
      → bytes_eq (name x) (name a) ≡ false
  other-name x [] n a all e = cc
  other-name x (y ∷ xs) n a all e =
      elim (number y == n) as (λ (b : Bool). cond b (Some y) (find (λ z. number z == n) xs) ≡ Some a → bytes_eq (name x) (name a) ≡ false) [
        | true ↦ λ h. let it : y ≡ a = cc in ap (λ z. bytes_eq (name x) (name z)) (sym it) ∙ all.0
        | false ↦ λ h. other-name x xs n a all.1 h
      ] e

  -- where names differ, the name of the one with a number tells the number
  pub by-name : (xs : List A) (n : ℕ) (a : A) → IsDistinct bytes_eq (map name xs) → find (λ x. number x == n) xs ≡ Some a
      → option_map number (find (λ x. bytes_eq (name x) (name a)) xs) ≡ Some n
  unfolding IsDistinct
  by-name [] n a apart e = cc
  by-name (x ∷ xs) n a apart e =
      elim (number x == n) as (λ (b : Bool). (number x == n) ≡ b → cond b (Some x) (find (λ y. number y == n) xs) ≡ Some a
      → option_map number (cond (bytes_eq (name x) (name a)) (Some x) (find (λ y. bytes_eq (name y) (name a)) xs)) ≡ Some n) [
        | true ↦ λ here h.
            let it : x ≡ a = cc in
            let same : bytes_eq (name x) (name a) ≡ true = (bytes_eq-Decides (name x) (name a)).1 (ap name it) in
            rw same (ap Some (eqb-true (number x) n here))
        | false ↦ λ here h. rw (other-name x xs n a apart.0 h) (by-name xs n a apart.1 h)
      ] refl e
