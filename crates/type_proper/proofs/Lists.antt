-- Lists of things, of which each has a number.
use Rattle.std.proofs.Common.{◌≡◌, ℕ, ◌+◌, ◌<◌, ◌≤◌, Bool, true, false, cond, List, [], ◌∷◌, ◌++◌, map, refl, subst, arith}
use Rattle.std.specs.Prelude.{◌==◌, nat_eq, Some, None, filter}
use Rattle.std.specs.List.{AllByRecursion, IsDistinct, find, flat_map}
use Rattle.std.proofs.lemmas.Bool.{eqb-true}
use Rattle.type_schema.specs.Proper.{AreNumbers}

-- ---- what holds of all

pub all-weaken : {A : Type 0} (P Q : A → Type 0) → ((x : A) → P x → Q x) → (xs : List A) → AllByRecursion P xs → AllByRecursion Q xs
all-weaken P Q f [] all = tt
all-weaken P Q f (x ∷ xs) all = (f x all.0, all-weaken P Q f xs all.1)

pub all-append : {A : Type 0} (P : A → Type 0) (xs ys : List A) → AllByRecursion P xs → AllByRecursion P ys → AllByRecursion P (xs ++ ys)
all-append P [] ys one other = other
all-append P (x ∷ xs) ys one other = (one.0, all-append P xs ys one.1 other)

pub all-front : {A : Type 0} (P : A → Type 0) (xs ys : List A) → AllByRecursion P (xs ++ ys) → AllByRecursion P xs
all-front P [] ys all = tt
all-front P (x ∷ xs) ys all = (all.0, all-front P xs ys all.1)

pub all-back : {A : Type 0} (P : A → Type 0) (xs ys : List A) → AllByRecursion P (xs ++ ys) → AllByRecursion P ys
all-back P [] ys all = all
all-back P (x ∷ xs) ys all = all-back P xs ys all.1

pub all-map : {A B : Type 0} (P : B → Type 0) (f : A → B) (xs : List A) → AllByRecursion (λ x. P (f x)) xs → AllByRecursion P (map f xs)
all-map P f [] all = tt
all-map P f (x ∷ xs) all = (all.0, all-map P f xs all.1)

pub all-unmap : {A B : Type 0} (P : B → Type 0) (f : A → B) (xs : List A) → AllByRecursion P (map f xs) → AllByRecursion (λ x. P (f x)) xs
all-unmap P f [] all = tt
all-unmap P f (x ∷ xs) all = (all.0, all-unmap P f xs all.1)

-- of those that pass a test what holds of them all, and that they pass
pub all-filter : {A : Type 0} (P Q : A → Type 0) (p : A → Bool) → ((x : A) → p x ≡ true → P x → Q x) → (xs : List A) → AllByRecursion P xs → AllByRecursion Q (filter p xs)
all-filter P Q p f [] all = tt
all-filter {A} P Q p f (x ∷ xs) all = at (all-filter P Q p f xs all.1) (p x) refl
  where
    at : AllByRecursion Q (filter p xs) → (b : Bool) → p x ≡ b → AllByRecursion Q (cond b (x ∷ filter p xs) (filter p xs))
    at rest true is = (f x is all.0, rest)
    at rest false is = rest

pub all-flat_map : {A B : Type 0} (P : B → Type 0) (f : A → List B) (xs : List A) → AllByRecursion P (flat_map f xs) → AllByRecursion (λ x. AllByRecursion P (f x)) xs
all-flat_map P f [] all = tt
all-flat_map P f (x ∷ xs) all = (all-front P (f x) (flat_map f xs) all, all-flat_map P f xs (all-back P (f x) (flat_map f xs) all))

pub all-both : {A : Type 0} (P Q R : A → Type 0) → ((x : A) → P x → Q x → R x) → (xs : List A) → AllByRecursion P xs → AllByRecursion Q xs → AllByRecursion R xs
all-both P Q R f [] one other = tt
all-both P Q R f (x ∷ xs) one other = (f x one.0 other.0, all-both P Q R f xs one.1 other.1)

pub all-any : {A : Type 0} (P : A → Type 0) → ((x : A) → P x) → (xs : List A) → AllByRecursion P xs
all-any P f [] = tt
all-any P f (x ∷ xs) = (f x, all-any P f xs)

-- nothing passes a test by which nothing is found
pub all-fail : {A : Type 0} (p : A → Bool) (xs : List A) → find p xs ≡ None → AllByRecursion (λ x. p x ≡ false) xs
all-fail p [] is = tt
all-fail {A} p (x ∷ xs) is = at (λ h. all-fail p xs h) (p x) refl is
  where
    at : (find p xs ≡ None → AllByRecursion (λ y. p y ≡ false) xs) → (b : Bool) → p x ≡ b → cond b (Some x) (find p xs) ≡ None
        → (p x ≡ false) × AllByRecursion (λ y. p y ≡ false) xs
    at rest true e h = absurd (cc h)
    at rest false e h = (e, rest h)

-- what is found is one of them
pub found-is : {A : Type 0} (P : A → Type 0) (p : A → Bool) (xs : List A) (a : A) → AllByRecursion P xs → find p xs ≡ Some a → P a × (p a ≡ true)
found-is P p [] a all is = absurd (cc is)
found-is {A} P p (x ∷ xs) a all is = at (λ h. found-is P p xs a all.1 h) (p x) refl is
  where
    at : (find p xs ≡ Some a → P a × (p a ≡ true)) → (b : Bool) → p x ≡ b → cond b (Some x) (find p xs) ≡ Some a → P a × (p a ≡ true)
    at rest true e h = let same : x ≡ a = cc h in (subst P same all.0, subst (λ z. p z ≡ true) same e)
    at rest false e h = rest h

-- ---- distinct keys

module _ {K : Type 0} (e : K → K → Bool) where
  pub distinct-append : (xs ys : List K) → IsDistinct e xs → IsDistinct e ys → AllByRecursion (λ x. AllByRecursion (λ y. e x y ≡ false) ys) xs → IsDistinct e (xs ++ ys)
  unfolding IsDistinct
  distinct-append [] ys one other apart = other
  distinct-append (x ∷ xs) ys one other apart = (all-append (λ y. e x y ≡ false) xs ys one.0 apart.0, distinct-append xs ys one.1 other apart.1)

  pub distinct-front : (xs ys : List K) → IsDistinct e (xs ++ ys) → IsDistinct e xs
  unfolding IsDistinct
  distinct-front [] ys all = tt
  distinct-front (x ∷ xs) ys all = (all-front (λ y. e x y ≡ false) xs ys all.0, distinct-front xs ys all.1)

  pub distinct-back : (xs ys : List K) → IsDistinct e (xs ++ ys) → IsDistinct e ys
  unfolding IsDistinct
  distinct-back [] ys all = all
  distinct-back (x ∷ xs) ys all = distinct-back xs ys all.1

  pub distinct-apart : (xs ys : List K) → IsDistinct e (xs ++ ys) → AllByRecursion (λ x. AllByRecursion (λ y. e x y ≡ false) ys) xs
  unfolding IsDistinct
  distinct-apart [] ys all = tt
  distinct-apart (x ∷ xs) ys all = (all-back (λ y. e x y ≡ false) xs ys all.0, distinct-apart xs ys all.1)

  pub distinct-one : (x : K) → IsDistinct e (x ∷ [])
  unfolding IsDistinct
  distinct-one x = (tt, tt)

  pub distinct-none : IsDistinct e []
  unfolding IsDistinct
  distinct-none = tt

  -- of those that pass a test
  pub all-map-filter : {A : Type 0} (f : A → K) (P : K → Type 0) (p : A → Bool) (xs : List A) → AllByRecursion P (map f xs) → AllByRecursion P (map f (filter p xs))
  all-map-filter f P p xs all = all-map P f (filter p xs) (all-filter (λ x. P (f x)) (λ x. P (f x)) p (λ x is h. h) xs (all-unmap P f xs all))

  pub distinct-filter : {A : Type 0} (f : A → K) (p : A → Bool) (xs : List A) → IsDistinct e (map f xs) → IsDistinct e (map f (filter p xs))
  unfolding IsDistinct
  distinct-filter f p [] all = tt
  distinct-filter {A} f p (x ∷ xs) all = at (all-map-filter f (λ y. e (f x) y ≡ false) p xs all.0) (distinct-filter f p xs all.1) (p x)
    where
      at : AllByRecursion (λ y. e (f x) y ≡ false) (map f (filter p xs)) → IsDistinct e (map f (filter p xs)) → (b : Bool)
          → IsDistinct e (map f (cond b (x ∷ filter p xs) (filter p xs)))
      at apart rest true = (apart, rest)
      at apart rest false = rest

-- ---- numbers

pub numbers-weaken : (next more : ℕ) (ns : List ℕ) → next ≤ more → AreNumbers next ns → AreNumbers more ns
numbers-weaken next more ns le are = record {
  distinct = are.distinct;
  below = all-weaken (λ n. n < next) (λ n. n < more) (λ n below. omega arith) ns are.below;
}

pub numbers-filter : {A : Type 0} (f : A → ℕ) (p : A → Bool) (next : ℕ) (xs : List A) → AreNumbers next (map f xs) → AreNumbers next (map f (filter p xs))
numbers-filter f p next xs are = record {
  distinct = distinct-filter nat_eq f p xs are.distinct;
  below = all-map-filter nat_eq f (λ n. n < next) p xs are.below;
}

differ : (m n : ℕ) → m < n → nat_eq m n ≡ false
differ m n lt = at (m == n) refl
  where
    at : (b : Bool) → (m == n) ≡ b → b ≡ false
    at true e = let same : m ≡ n = eqb-true m n e in absurd (omega arith)
    at false e = refl

-- the next number, behind these
pub numbers-next : (next : ℕ) (ns : List ℕ) → AreNumbers next ns → AreNumbers (next + 1) (ns ++ next ∷ [])
numbers-next next ns are = record {
  distinct =
      distinct-append nat_eq ns (next ∷ []) are.distinct (distinct-one nat_eq next)
      (all-weaken (λ n. n < next) (λ n. AllByRecursion (λ m. nat_eq n m ≡ false) (next ∷ [])) (λ n below. (differ n next below, tt)) ns are.below);
  below = all-append (λ n. n < next + 1) ns (next ∷ []) (all-weaken (λ n. n < next) (λ n. n < next + 1) (λ n below. omega arith) ns are.below) (omega arith, tt);
}
