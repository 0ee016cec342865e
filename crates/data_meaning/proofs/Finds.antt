-- The first element that passes a test, in lists that were changed.
use Rattle.std.proofs.Common.{◌≡◌, Bool, true, false, List, [], ◌∷◌, ◌++◌, refl, ap, sym, ◌∙◌, subst, cond, inl, inr}
use Rattle.std.specs.Prelude.{Option, Some, None, map, filter, ◌⊎◌}
use Rattle.std.specs.List.{find, AllByRecursion}
use Rattle.std.specs.Option.{option_map}
use Rattle.std.proofs.lemmas.Bool.{false_from_ne_true}

pub find-holds : {A : Type 0} (p : A → Bool) (xs : List A) (x : A) → find p xs ≡ Some x → p x ≡ true
find-holds p [] x e = cc
find-holds {A} p (y ∷ xs) x e =
    elim (p y) as (λ (b : Bool). p y ≡ b → cond b (Some y) (find p xs) ≡ Some x → p x ≡ true) [
      | true ↦ λ here h. let same : y ≡ x = cc in ap p (sym same) ∙ here
      | false ↦ λ here h. find-holds p xs x h
    ] refl e

pub find-among : {A : Type 0} (P : A → Type 0) (p : A → Bool) (xs : List A) (x : A) → AllByRecursion P xs → find p xs ≡ Some x → P x
find-among P p [] x all e = cc
find-among {A} P p (y ∷ xs) x all e =
    elim (p y) as (λ (b : Bool). cond b (Some y) (find p xs) ≡ Some x → P x) [
      | true ↦ λ h. let same : y ≡ x = cc in subst P same all.0
      | false ↦ λ h. find-among P p xs x all.1 h
    ] e

cond-map : {A B : Type 0} (g : A → B) (b : Bool) (x : A) (o : Option A) → cond b (Some (g x)) (option_map g o) ≡ option_map g (cond b (Some x) o)
cond-map g true x o = refl
cond-map g false x o = refl

-- a change of the elements that keeps the test
pub find-map : {A : Type 0} (p : A → Bool) (g : A → A) (xs : List A) → ((x : A) → p (g x) ≡ p x) → find p (map g xs) ≡ option_map g (find p xs)
find-map p g [] e = refl
find-map p g (x ∷ xs) e =
    ap (λ b. cond b (Some (g x)) (find p (map g xs))) (e x) ∙ ap (λ o. cond (p x) (Some (g x)) o) (find-map p g xs e) ∙ cond-map g (p x) x (find p xs)

-- elements dropped that do not pass
pub find-filter : {A : Type 0} (p q : A → Bool) (xs : List A) → ((x : A) → p x ≡ true → q x ≡ true) → find p (filter q xs) ≡ find p xs
find-filter p q [] e = refl
find-filter {A} p q (x ∷ xs) e =
    elim (q x) as (λ (b : Bool). q x ≡ b → find p (cond b (x ∷ filter q xs) (filter q xs)) ≡ find p (x ∷ xs)) [
      | true ↦ λ here. ap (λ o. cond (p x) (Some x) o) (find-filter p q xs e)
      | false ↦ λ here.
          let fails : p x ≡ false = false_from_ne_true (p x) (λ h. let k = e x h in cc) in
          find-filter p q xs e ∙ sym (ap (λ b. cond b (Some x) (find p xs)) fails)
    ] refl

-- all dropped that pass
pub find-none : {A : Type 0} (p q : A → Bool) (xs : List A) → ((x : A) → p x ≡ true → q x ≡ false) → find p (filter q xs) ≡ None
find-none p q [] e = refl
find-none {A} p q (x ∷ xs) e =
    elim (q x) as (λ (b : Bool). q x ≡ b → find p (cond b (x ∷ filter q xs) (filter q xs)) ≡ None) [
      | true ↦ λ here.
          let fails : p x ≡ false = false_from_ne_true (p x) (λ h. let k = e x h in cc) in
          ap (λ b. cond b (Some x) (find p (filter q xs))) fails ∙ find-none p q xs e
      | false ↦ λ here. find-none p q xs e
    ] refl

-- one more element that does not pass
pub find-more : {A : Type 0} (p : A → Bool) (xs : List A) (y : A) → p y ≡ false → find p (xs ++ y ∷ []) ≡ find p xs
find-more p [] y e = ap (λ b. cond b (Some y) None) e
find-more p (x ∷ xs) y e = ap (λ o. cond (p x) (Some x) o) (find-more p xs y e)

-- one more element
pub find-last : {A : Type 0} (p : A → Bool) (xs : List A) (y z : A) → find p (xs ++ y ∷ []) ≡ Some z → (find p xs ≡ Some z) ⊎ (z ≡ y)
find-last {A} p [] y z e =
    elim (p y) as (λ (b : Bool). cond b (Some y) None ≡ Some z → (None ≡ Some z) ⊎ (z ≡ y)) [
      | true ↦ λ h. let same : z ≡ y = cc in inr same
      | false ↦ λ h. inl h
    ] e
find-last {A} p (x ∷ xs) y z e =
    elim (p x) as (λ (b : Bool). cond b (Some x) (find p (xs ++ y ∷ [])) ≡ Some z → (cond b (Some x) (find p xs) ≡ Some z) ⊎ (z ≡ y)) [
      | true ↦ λ h. inl h
      | false ↦ λ h. find-last p xs y z h
    ] e

pub map-none : {A : Type 0} (xs : List A) → map (λ (x : A). x) xs ≡ xs
map-none [] = refl
map-none (x ∷ xs) = ap (λ ys. x ∷ ys) (map-none xs)
