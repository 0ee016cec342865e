-- What holds of each element of a list, and of elements of two lists side by side.
use Rattle.std.proofs.Common.{◌≡◌, Bool, true, false, ◌||◌, cond, List, [], ◌∷◌, ◌++◌, map, refl, ◌∙◌, ap}
use Rattle.std.specs.Prelude.{Some}
use Rattle.std.specs.List.{AllByRecursion, AllZip, IsDistinct, find, list_any, list_all}
use Rattle.std.proofs.lemmas.List.Folds.{list_any-append}

-- ---- of each

pub all-from : {A : Type 0} (P Q : A → Type 0) → ((x : A) → P x → Q x) → (xs : List A) → AllByRecursion P xs → AllByRecursion Q xs
all-from P Q follows [] all = tt
all-from P Q follows (x ∷ xs) all = (follows x all.0, all-from P Q follows xs all.1)

pub all-mapped : {A B : Type 0} (f : A → B) (P : B → Type 0) (xs : List A) → AllByRecursion P (map f xs) → AllByRecursion (λ x. P (f x)) xs
all-mapped f P [] all = tt
all-mapped f P (x ∷ xs) all = (all.0, all-mapped f P xs all.1)

pub map-same : {A B : Type 0} (g h : A → B) (xs : List A) → AllByRecursion (λ x. g x ≡ h x) xs → map g xs ≡ map h xs
map-same g h [] all = refl
map-same g h (x ∷ xs) all = ap (λ y. y ∷ map g xs) all.0 ∙ ap (λ ys. h x ∷ ys) (map-same g h xs all.1)

pub all-pass : {A : Type 0} (p : A → Bool) (xs : List A) → AllByRecursion (λ x. p x ≡ true) xs → list_all p xs ≡ true
all-pass p [] all = refl
all-pass p (x ∷ xs) all = rw (all.0, all-pass p xs all.1) refl

pub any-of-found : {A : Type 0} (p : A → Bool) (xs : List A) (x : A) → find p xs ≡ Some x → list_any p xs ≡ true
any-of-found p [] x e = cc
any-of-found p (y ∷ xs) x e =
    elim (p y) as (λ (b : Bool). cond b (Some y) (find p xs) ≡ Some x → (b || list_any p xs) ≡ true) [
      | true ↦ λ h. refl
      | false ↦ λ h. any-of-found p xs x h
    ] e

-- ---- side by side

pub zip-from : {A B : Type 0} (R Q : A → B → Type 0) → ((x : A) (y : B) → R x y → Q x y) → (xs : List A) (ys : List B) → AllZip R xs ys → AllZip Q xs ys
zip-from R Q follows [] [] zip = tt
zip-from R Q follows [] (y ∷ ys) zip = absurd zip
zip-from R Q follows (x ∷ xs) [] zip = absurd zip
zip-from R Q follows (x ∷ xs) (y ∷ ys) zip = (follows x y zip.0, zip-from R Q follows xs ys zip.1)

pub zip-left : {A B : Type 0} (R : A → B → Type 0) (P : A → Type 0) → ((x : A) (y : B) → R x y → P x) → (xs : List A) (ys : List B) → AllZip R xs ys → AllByRecursion P xs
zip-left R P follows [] [] zip = tt
zip-left R P follows [] (y ∷ ys) zip = absurd zip
zip-left R P follows (x ∷ xs) [] zip = absurd zip
zip-left R P follows (x ∷ xs) (y ∷ ys) zip = (follows x y zip.0, zip-left R P follows xs ys zip.1)

pub zip-right : {A B : Type 0} (R : A → B → Type 0) (P : B → Type 0) → ((x : A) (y : B) → R x y → P y) → (xs : List A) (ys : List B) → AllZip R xs ys → AllByRecursion P ys
zip-right R P follows [] [] zip = tt
zip-right R P follows [] (y ∷ ys) zip = absurd zip
zip-right R P follows (x ∷ xs) [] zip = absurd zip
zip-right R P follows (x ∷ xs) (y ∷ ys) zip = (follows x y zip.0, zip-right R P follows xs ys zip.1)

-- with what holds of the elements on either side
pub zip-with : {A B : Type 0} (R : A → B → Type 0) (P : A → Type 0) (Q : B → Type 0) (xs : List A) (ys : List B) → AllZip R xs ys → AllByRecursion P xs → AllByRecursion Q ys
    → AllZip (λ x y. R x y × P x × Q y) xs ys
zip-with R P Q [] [] zip all every = tt
zip-with R P Q [] (y ∷ ys) zip all every = absurd zip
zip-with R P Q (x ∷ xs) [] zip all every = absurd zip
zip-with R P Q (x ∷ xs) (y ∷ ys) zip all every = ((zip.0, all.0, every.0), zip-with R P Q xs ys zip.1 all.1 every.1)

pub zip-maps : {A B C : Type 0} (R : A → B → Type 0) (f : A → C) (g : B → C) → ((x : A) (y : B) → R x y → g y ≡ f x) → (xs : List A) (ys : List B) → AllZip R xs ys → map g ys ≡ map f xs
zip-maps R f g same [] [] zip = refl
zip-maps R f g same [] (y ∷ ys) zip = absurd zip
zip-maps R f g same (x ∷ xs) [] zip = absurd zip
zip-maps R f g same (x ∷ xs) (y ∷ ys) zip = ap (λ z. z ∷ map g ys) (same x y zip.0) ∙ ap (λ zs. f x ∷ zs) (zip-maps R f g same xs ys zip.1)

-- by what two lists are mapped to
pub zip-of-maps : {A B C : Type 0} (f : A → C) (g : B → C) (xs : List A) (ys : List B) → map g ys ≡ map f xs → AllZip (λ x y. g y ≡ f x) xs ys
zip-of-maps f g [] [] e = tt
zip-of-maps f g [] (y ∷ ys) e = cc
zip-of-maps f g (x ∷ xs) [] e = cc
zip-of-maps f g (x ∷ xs) (y ∷ ys) e = (cc, zip-of-maps f g xs ys cc)

-- ---- keys

module _ {A K : Type 0} (eq : K → K → Bool) (key : A → K) where
  later : (x : A) (all xs : List A) → AllByRecursion (λ k. eq (key x) k ≡ false) (map key xs) → AllByRecursion (λ z. find (λ y. eq (key y) (key z)) all ≡ Some z) xs
      → AllByRecursion (λ z. find (λ y. eq (key y) (key z)) (x ∷ all) ≡ Some z) xs
  later x all [] apart found = tt
  later x all (y ∷ xs) apart found =
      (ap (λ b. cond b (Some x) (find (λ z. eq (key z) (key y)) all)) apart.0 ∙ found.0, later x all xs apart.1 found.1)

  pub finds : ((k : K) → eq k k ≡ true) → (xs : List A) → IsDistinct eq (map key xs) → AllByRecursion (λ x. find (λ y. eq (key y) (key x)) xs ≡ Some x) xs
  unfolding IsDistinct
  finds same [] apart = tt
  finds same (x ∷ xs) apart =
      (ap (λ b. cond b (Some x) (find (λ z. eq (key z) (key x)) xs)) (same (key x)), later x xs xs apart.0 (finds same xs apart.1))

  -- no element has the key
  abbrev pub IsNew : List A → A → Type 0
  IsNew before x = list_any (λ v. eq (key v) (key x)) before ≡ false

  pub still-new : (before : List A) (x : A) (xs : List A) → AllByRecursion (IsNew before) xs → AllByRecursion (λ k. eq (key x) k ≡ false) (map key xs)
      → AllByRecursion (IsNew (before ++ x ∷ [])) xs
  still-new before x [] new apart = tt
  still-new before x (y ∷ xs) new apart =
      (list_any-append (λ v. eq (key v) (key y)) before (x ∷ []) ∙ rw (new.0, apart.0) refl, still-new before x xs new.1 apart.1)
