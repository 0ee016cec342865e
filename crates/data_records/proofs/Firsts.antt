-- The first element that passes a test changed, or left out.
use Rattle.std.proofs.Common.{◌≡◌, ℕ, zero, suc, ◌≤◌, ◌+◌, Bool, true, false, List, [], ◌∷◌, refl, ap, sym, ◌∙◌, subst, cond, arith, get_or, set, length, map}
use Rattle.std.specs.Prelude.{Some, None, position, remove, if◌then◌else◌}
use Rattle.std.specs.List.{find, sum_by, AllByRecursion, position_or_len}
use Rattle.std.proofs.Math.Dec.{ltb}
use Rattle.std.proofs.lemmas.Bool.{ltb-false}
use Rattle.std.proofs.lemmas.List.Folds.{find_at}
use Rattle.std.proofs.lemmas.Option.{slice_get_past}
use Rattle.std.proofs.lemmas.List.Quantifiers.{position-Some}
use Rattle.std.proofs.lemmas.List.Sums.{sum_by-cons}
use Rattle.data_records.specs.Changed.{change_first}
use Rattle.data_records.specs.Removed.{without_first}
use Rattle.data_records.specs.Rising.{IsFirstAt}

-- ---- in a list that another list is made from

module _ {X Y : Type 0} (made : X → Y) (p : Y → Bool) (g : Y → Y) where
  pub put-at : (xs : List X) (i : ℕ) (u d : X) → IsFirstAt (λ x. p (made x)) xs i → made u ≡ g (made (get_or xs i d))
      → map made (set xs i u) ≡ change_first p g (map made xs)
  put-at [] i u d first is = absurd (omega (arith, first.0))
  put-at (x ∷ xs) zero u d first is =
      subst (λ b. made u ∷ map made xs ≡ (if b then g (made x) ∷ map made xs else made x ∷ change_first p g (map made xs))) (sym (first.1 x))
      (ap (λ y. y ∷ map made xs) is)
  put-at (x ∷ xs) (suc i) u d first is =
      subst (λ b. made x ∷ map made (set xs i u) ≡ (if b then g (made x) ∷ map made xs else made x ∷ change_first p g (map made xs))) (sym (first.2 0 x (omega arith)))
      (ap (λ ys. made x ∷ ys) (put-at xs i u d (omega (arith, first.0), (λ e. first.1 e), (λ k e less. first.2 (suc k) e (omega arith))) is))

  pub none-put : (xs : List X) → find (λ x. p (made x)) xs ≡ None → change_first p g (map made xs) ≡ map made xs
  none-put [] none = refl
  none-put (x ∷ xs) none =
      elim (p (made x)) as (λ (b : Bool). cond b (Some x) (find (λ y. p (made y)) xs) ≡ None
      → (if b then g (made x) ∷ map made xs else made x ∷ change_first p g (map made xs)) ≡ made x ∷ map made xs) [
        | true ↦ λ h. cc
        | false ↦ λ h. ap (λ ys. made x ∷ ys) (none-put xs h)
      ] none

module _ {X Y : Type 0} (made : X → Y) (p : Y → Bool) where
  pub taken-at : (xs : List X) (i : ℕ) → IsFirstAt (λ x. p (made x)) xs i → map made (remove xs i) ≡ without_first p (map made xs)
  taken-at [] i first = absurd (omega (arith, first.0))
  taken-at (x ∷ xs) zero first =
      subst (λ b. map made xs ≡ (if b then map made xs else made x ∷ without_first p (map made xs))) (sym (first.1 x)) refl
  taken-at (x ∷ xs) (suc i) first =
      subst (λ b. made x ∷ map made (remove xs i) ≡ (if b then map made xs else made x ∷ without_first p (map made xs))) (sym (first.2 0 x (omega arith)))
      (ap (λ ys. made x ∷ ys) (taken-at xs i (omega (arith, first.0), (λ e. first.1 e), (λ k e less. first.2 (suc k) e (omega arith)))))

  pub none-taken : (xs : List X) → find (λ x. p (made x)) xs ≡ None → without_first p (map made xs) ≡ map made xs
  none-taken [] none = refl
  none-taken (x ∷ xs) none =
      elim (p (made x)) as (λ (b : Bool). cond b (Some x) (find (λ y. p (made y)) xs) ≡ None
      → (if b then map made xs else made x ∷ without_first p (map made xs)) ≡ made x ∷ map made xs) [
        | true ↦ λ h. cc
        | false ↦ λ h. ap (λ ys. made x ∷ ys) (none-taken xs h)
      ] none

pub first-from_position : {X : Type 0} (p : X → Bool) (xs : List X) (i : ℕ) → position p xs ≡ Some i → X → IsFirstAt p xs i
first-from_position p xs i is some =
    ((position-Some p xs i some is).0, (λ d. (position-Some p xs i d is).1), (λ k d less. (position-Some p xs i d is).2 k less))

-- ---- sums

module _ {A : Type 0} (size : A → ℕ) (p : A → Bool) where
  pub sum-changed : (g : A → A) (xs : List A) (x : A) → find p xs ≡ Some x → sum_by size (change_first p g xs) + size x ≡ sum_by size xs + size (g x)
  sum-changed g [] x found = cc
  sum-changed g (y ∷ xs) x found =
      elim (p y) as (λ (b : Bool). cond b (Some y) (find p xs) ≡ Some x
      → sum_by size (if b then g y ∷ xs else y ∷ change_first p g xs) + size x ≡ sum_by size (y ∷ xs) + size (g x)) [
        | true ↦ λ h. let same : y ≡ x = cc in
            subst (λ z. sum_by size (g y ∷ xs) + size z ≡ sum_by size (y ∷ xs) + size (g z)) same
            (omega (arith, sum_by-cons size (g y) xs, sum_by-cons size y xs))
        | false ↦ λ h. omega (arith, sum_by-cons size y (change_first p g xs), sum_by-cons size y xs, sum-changed g xs x h)
      ] found

  pub sum-without : (xs : List A) (x : A) → find p xs ≡ Some x → sum_by size (without_first p xs) + size x ≡ sum_by size xs
  sum-without [] x found = cc
  sum-without (y ∷ xs) x found =
      elim (p y) as (λ (b : Bool). cond b (Some y) (find p xs) ≡ Some x → sum_by size (if b then xs else y ∷ without_first p xs) + size x ≡ sum_by size (y ∷ xs)) [
        | true ↦ λ h. let same : y ≡ x = cc in
            subst (λ z. sum_by size xs + size z ≡ sum_by size (y ∷ xs)) same (omega (arith, sum_by-cons size y xs))
        | false ↦ λ h. omega (arith, sum_by-cons size y (without_first p xs), sum_by-cons size y xs, sum-without xs x h)
      ] found

  pub size-within : (xs : List A) (x : A) → find p xs ≡ Some x → size x ≤ sum_by size xs
  size-within xs x found = omega (arith, sum-without xs x found)

pub length-changed : {A : Type 0} (p : A → Bool) (g : A → A) (xs : List A) → length (change_first p g xs) ≡ length xs
length-changed p g [] = refl
length-changed p g (x ∷ xs) =
    elim (p x) as (λ (b : Bool). length (if b then g x ∷ xs else x ∷ change_first p g xs) ≡ suc (length xs)) [ true ↦ refl | false ↦ ap suc (length-changed p g xs) ]

pub length-without : {A : Type 0} (p : A → Bool) (xs : List A) (x : A) → find p xs ≡ Some x → length (without_first p xs) + 1 ≡ length xs
length-without p [] x found = cc
length-without p (y ∷ xs) x found =
    elim (p y) as (λ (b : Bool). cond b (Some y) (find p xs) ≡ Some x → length (if b then xs else y ∷ without_first p xs) + 1 ≡ suc (length xs)) [
      | true ↦ λ h. omega arith
      | false ↦ λ h. omega (arith, length-without p xs x h)
    ] found

-- ---- what holds of each

pub all-without : {A : Type 0} (P : A → Type 0) (p : A → Bool) (xs : List A) → AllByRecursion P xs → AllByRecursion P (without_first p xs)
all-without P p [] all = tt
all-without P p (x ∷ xs) all =
    elim (p x) as (λ (b : Bool). AllByRecursion P (if b then xs else x ∷ without_first p xs)) [ true ↦ all.1 | false ↦ (all.0, all-without P p xs all.1) ]

pub all-changed : {A : Type 0} (P : A → Type 0) (p : A → Bool) (g : A → A) → ((x : A) → P x → P (g x)) → (xs : List A) → AllByRecursion P xs → AllByRecursion P (change_first p g xs)
all-changed P p g step [] all = tt
all-changed P p g step (x ∷ xs) all =
    elim (p x) as (λ (b : Bool). AllByRecursion P (if b then g x ∷ xs else x ∷ change_first p g xs)) [
      | true ↦ (step x all.0, all.1)
      | false ↦ (all.0, all-changed P p g step xs all.1)
    ]

pub none-from_position : {X : Type 0} (p : X → Bool) (xs : List X) → position p xs ≡ None → find p xs ≡ None
none-from_position p xs none =
    elim (ltb (position_or_len p xs) (length xs)) as (λ (b : Bool). ltb (position_or_len p xs) (length xs) ≡ b → cond b (Some (position_or_len p xs)) None ≡ None → find p xs ≡ None) [
      | true ↦ λ t h. cc
      | false ↦ λ f h. find_at p xs ∙ slice_get_past xs (position_or_len p xs) (ltb-false (position_or_len p xs) (length xs) f)
    ] refl none

pub found-passes : {A : Type 0} (p : A → Bool) (xs : List A) (x : A) → find p xs ≡ Some x → p x ≡ true
found-passes p [] x found = cc
found-passes {A} p (y ∷ xs) x found =
    elim (p y) as (λ (b : Bool). p y ≡ b → cond b (Some y) (find p xs) ≡ Some x → p x ≡ true) [
      | true ↦ λ here h. let same : y ≡ x = cc in ap p (sym same) ∙ here
      | false ↦ λ here h. found-passes p xs x h
    ] refl found

pub found-among : {A : Type 0} (P : A → Type 0) (p : A → Bool) (xs : List A) (x : A) → AllByRecursion P xs → find p xs ≡ Some x → P x
found-among P p [] x all found = cc
found-among {A} P p (y ∷ xs) x all found =
    elim (p y) as (λ (b : Bool). cond b (Some y) (find p xs) ≡ Some x → P x) [
      | true ↦ λ h. let same : y ≡ x = cc in subst P same all.0
      | false ↦ λ h. found-among P p xs x all.1 h
    ] found
