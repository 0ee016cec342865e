-- Lists by their elements and places.
use Rattle.std.proofs.Common.{◌≡◌, ℕ, zero, suc, ◌+◌, ◌<◌, ◌≤◌, Bool, true, false, List, [], ◌∷◌, ◌++◌, length, refl, ap, sym, ◌∙◌, subst, arith, cond}
use Rattle.std.specs.Prelude.{Some, None, map, filter, ◌==◌, nat_eq, slice_get, slice_index_or, slice_index}
use Rattle.std.specs.List.{All, find, flat_map, range_with_len, AllByRecursion, IsDistinct}
use Rattle.std.specs.List.Sorted.{IsStrictlyIncreasing}
use Rattle.std.proofs.lemmas.Bool.{eqb-true, eq-eqb, false_from_ne_true}
use Rattle.data_meaning.proofs.Agreement.{ap2}
use Rattle.duty_meaning.specs.Structures.{before}

-- ---- what holds of all elements

pub all-implied : {A : Type 0} (P Q : A → Type 0) → ((x : A) → P x → Q x) → (xs : List A) → AllByRecursion P xs → AllByRecursion Q xs
all-implied P Q f [] all = tt
all-implied P Q f (x ∷ xs) all = (f x all.0, all-implied P Q f xs all.1)

pub all-both : {A : Type 0} (P Q : A → Type 0) (xs : List A) → AllByRecursion P xs → AllByRecursion Q xs → AllByRecursion (λ x. P x × Q x) xs
all-both P Q [] p q = tt
all-both P Q (x ∷ xs) p q = ((p.0, q.0), all-both P Q xs p.1 q.1)

pub all-map : {A B : Type 0} (P : B → Type 0) (f : A → B) (xs : List A) → AllByRecursion (λ x. P (f x)) xs → AllByRecursion P (map f xs)
all-map P f [] all = tt
all-map P f (x ∷ xs) all = (all.0, all-map P f xs all.1)

pub all-unmap : {A B : Type 0} (P : B → Type 0) (f : A → B) (xs : List A) → AllByRecursion P (map f xs) → AllByRecursion (λ x. P (f x)) xs
all-unmap P f [] all = tt
all-unmap P f (x ∷ xs) all = (all.0, all-unmap P f xs all.1)

pub all-append : {A : Type 0} (P : A → Type 0) (xs ys : List A) → AllByRecursion P xs → AllByRecursion P ys → AllByRecursion P (xs ++ ys)
all-append P [] ys p q = q
all-append P (x ∷ xs) ys p q = (p.0, all-append P xs ys p.1 q)

pub all-flat : {A B : Type 0} (P : B → Type 0) (f : A → List B) (xs : List A) → AllByRecursion (λ x. AllByRecursion P (f x)) xs → AllByRecursion P (flat_map f xs)
all-flat P f [] all = tt
all-flat P f (x ∷ xs) all = all-append P (f x) (flat_map f xs) all.0 (all-flat P f xs all.1)

pub all-filter : {A : Type 0} (P : A → Type 0) (p : A → Bool) (xs : List A) → AllByRecursion P xs → AllByRecursion P (filter p xs)
all-filter P p [] all = tt
all-filter P p (x ∷ xs) all =
    elim (p x) as (λ (t : Bool). AllByRecursion P (cond t (x ∷ filter p xs) (filter p xs))) [
      | true ↦ (all.0, all-filter P p xs all.1)
      | false ↦ all-filter P p xs all.1
    ]

pub all-passing : {A : Type 0} (p : A → Bool) (xs : List A) → AllByRecursion (λ x. p x ≡ true) (filter p xs)
all-passing p [] = tt
all-passing {A} p (x ∷ xs) =
    elim (p x) as (λ (t : Bool). p x ≡ t → AllByRecursion (λ (y : A). p y ≡ true) (cond t (x ∷ filter p xs) (filter p xs))) [
      | true ↦ λ here. (here, all-passing p xs)
      | false ↦ λ here. all-passing p xs
    ] refl

pub all-at : {A : Type 0} (P : A → Type 0) (xs : List A) (k : ℕ) (x : A) → AllByRecursion P xs → slice_get xs k ≡ Some x → P x
all-at P [] k x all e = cc
all-at P (y ∷ xs) zero x all e = let same : y ≡ x = cc in subst P same all.0
all-at P (y ∷ xs) (suc k) x all e = all-at P xs k x all.1 e

pub all-or : {A : Type 0} (P : A → Type 0) (xs : List A) (k : ℕ) (d : A) → AllByRecursion P xs → P d → P (slice_index_or xs k d)
all-or P [] k d all other = other
all-or P (x ∷ xs) zero d all other = all.0
all-or P (x ∷ xs) (suc k) d all other = all-or P xs k d all.1 other

pub all-range : (P : ℕ → Type 0) (n a : ℕ) → ((x : ℕ) → a ≤ x → x < a + n → P x) → AllByRecursion P (range_with_len a n)
all-range P zero a h = tt
all-range P (suc n) a h =
    (h a (omega arith) (omega arith), all-range P n (a + 1) (λ x low high. h x (omega (arith, low)) (omega (arith, high))))

-- ---- places

pub at-map : {A B : Type 0} (f : A → B) (xs : List A) (k : ℕ) (x : A) → slice_get xs k ≡ Some x → slice_get (map f xs) k ≡ Some (f x)
at-map f [] k x e = cc
at-map f (y ∷ xs) zero x e = let same : y ≡ x = cc in ap (λ z. Some (f z)) same
at-map f (y ∷ xs) (suc k) x e = at-map f xs k x e

pub at-found : {A : Type 0} (p : A → Bool) (xs : List A) (x : A) → find p xs ≡ Some x → slice_get xs (before p xs) ≡ Some x
at-found p [] x e = cc
at-found {A} p (y ∷ xs) x e =
    elim (p y) as (λ (t : Bool). cond t (Some y) (find p xs) ≡ Some x → slice_get (y ∷ xs) (cond t 0 (suc (before p xs))) ≡ Some x) [
      | true ↦ λ e. e
      | false ↦ λ e. at-found p xs x e
    ] e

pub past-end : {A : Type 0} (xs : List A) (k : ℕ) (d : A) → length xs ≤ k → slice_index_or xs k d ≡ d
past-end [] k d past = refl
past-end (x ∷ xs) zero d past = absurd (omega (arith, past))
past-end (x ∷ xs) (suc k) d past = past-end xs k d (omega (arith, past))

-- the elements of a list, each of which belongs to one of another list
pub map-by-place : {A B : Type 0} (f : A → B) (d : B) (xs : List A) (ys : List B) → length ys ≡ length xs
    → ((k : ℕ) (x : A) → slice_get xs k ≡ Some x → f x ≡ slice_index_or ys k d) → map f xs ≡ ys
map-by-place f d [] [] long h = refl
map-by-place f d [] (y ∷ ys) long h = absurd (omega (arith, long))
map-by-place f d (x ∷ xs) [] long h = absurd (omega (arith, long))
map-by-place f d (x ∷ xs) (y ∷ ys) long h =
    ap2 (λ a b. a ∷ b) (h 0 x refl) (map-by-place f d xs ys (omega (arith, long)) (λ k z e. h (suc k) z e))

pub map-same : {A B : Type 0} (f g : A → B) (xs : List A) → AllByRecursion (λ x. f x ≡ g x) xs → map f xs ≡ map g xs
map-same f g [] all = refl
map-same f g (x ∷ xs) all = ap2 (λ a b. a ∷ b) all.0 (map-same f g xs all.1)

pub map-twice : {A B C : Type 0} (f : B → C) (g : A → B) (xs : List A) → map f (map g xs) ≡ map (λ x. f (g x)) xs
map-twice f g [] = refl
map-twice f g (x ∷ xs) = ap (λ zs. f (g x) ∷ zs) (map-twice f g xs)

pub map-long : {A B : Type 0} (f : A → B) (xs : List A) → length (map f xs) ≡ length xs
map-long f [] = refl
map-long f (x ∷ xs) = ap suc (map-long f xs)

pub index-at : {A : Type 0} (xs : List A) (k : ℕ) (x d : A) → slice_get xs k ≡ Some x → slice_index_or xs k d ≡ x
index-at [] k x d e = cc
index-at (y ∷ xs) zero x d e = let same : y ≡ x = cc in same
index-at (y ∷ xs) (suc k) x d e = index-at xs k x d e

pub none-past : {A : Type 0} (xs : List A) (k : ℕ) → slice_get xs k ≡ None → length xs ≤ k
none-past [] k e = omega arith
none-past (x ∷ xs) zero e = cc
none-past (x ∷ xs) (suc k) e = let later = none-past xs k e in omega (arith, later)

pub all-recursive : {A : Type 0} (P : A → Type 0) (xs : List A) → All P xs → AllByRecursion P xs
all-recursive P [] all = tt
all-recursive P (x ∷ xs) all = (all 0 x (omega arith), all-recursive P xs (λ k d below. all (suc k) d (omega (arith, below))))

-- the lists of numbers one after another, and of those that follow them
pub flat-next : {B : Type 0} (f h : ℕ → List B) (n a : ℕ) → ((x : ℕ) → a ≤ x → x < a + n → f (suc x) ≡ h x)
    → flat_map f (range_with_len (a + 1) n) ≡ flat_map h (range_with_len a n)
flat-next f h zero a e = refl
flat-next f h (suc n) a e =
    let next : a + 1 ≡ suc a = omega arith in
    ap2 (λ x y. x ++ y) (ap f next ∙ e a (omega arith) (omega arith))
    (flat-next f h n (a + 1) (λ x low high. e x (omega (arith, low)) (omega (arith, high))))

-- ---- search

pub find-of-map : {A B : Type 0} (p : A → Bool) (q : B → Bool) (f : A → B) → ((x : A) → q (f x) ≡ p x) → (xs : List A) (y : A)
    → find p xs ≡ Some y → find q (map f xs) ≡ Some (f y)
find-of-map p q f same [] y e = cc
find-of-map {A} {B} p q f same (x ∷ xs) y e =
    ap (λ t. cond t (Some (f x)) (find q (map f xs))) (same x)
    ∙ (elim (p x) as (λ (t : Bool). cond t (Some x) (find p xs) ≡ Some y → cond t (Some (f x)) (find q (map f xs)) ≡ Some (f y)) [
      | true ↦ λ e. let it : x ≡ y = cc in ap (λ z. Some (f z)) it
      | false ↦ λ e. find-of-map p q f same xs y e
    ]) e

pub find-none-of-map : {A B : Type 0} (p : A → Bool) (q : B → Bool) (f : A → B) → ((x : A) → q (f x) ≡ p x) → (xs : List A)
    → find p xs ≡ None → find q (map f xs) ≡ None
find-none-of-map p q f same [] e = refl
find-none-of-map {A} {B} p q f same (x ∷ xs) e =
    ap (λ t. cond t (Some (f x)) (find q (map f xs))) (same x)
    ∙ (elim (p x) as (λ (t : Bool). cond t (Some x) (find p xs) ≡ None → cond t (Some (f x)) (find q (map f xs)) ≡ None) [
      | true ↦ λ e. cc
      | false ↦ λ e. find-none-of-map p q f same xs e
    ]) e

pub before-none : {A : Type 0} (p : A → Bool) (xs : List A) → find p xs ≡ None → before p xs ≡ length xs
before-none p [] e = refl
before-none {A} p (x ∷ xs) e =
    elim (p x) as (λ (t : Bool). cond t (Some x) (find p xs) ≡ None → cond t 0 (suc (before p xs)) ≡ suc (length xs)) [
      | true ↦ λ e. cc
      | false ↦ λ e. ap suc (before-none p xs e)
    ] e

-- where no key comes twice, each element is found by its key
pub found-itself : {A : Type 0} (key : A → ℕ) (xs : List A) → IsDistinct nat_eq (map key xs) → AllByRecursion (λ x. find (λ y. key y == key x) xs ≡ Some x) xs
unfolding IsDistinct
found-itself key [] d = tt
found-itself {A} key (x ∷ xs) d = (
  ap (λ t. cond t (Some x) (find (λ y. key y == key x) xs)) (eq-eqb (key x) (key x) refl),
  all-implied (λ (z : A). (nat_eq (key x) (key z) ≡ false) × (find (λ y. key y == key z) xs ≡ Some z)) (λ (z : A). find (λ y. key y == key z) (x ∷ xs) ≡ Some z)
      (λ z h. ap (λ t. cond t (Some x) (find (λ y. key y == key z) xs)) h.0 ∙ h.1) xs
      (all-both (λ (z : A). nat_eq (key x) (key z) ≡ false) (λ (z : A). find (λ y. key y == key z) xs ≡ Some z) xs
      (all-unmap (λ n. nat_eq (key x) n ≡ false) key xs d.0) (found-itself key xs d.1)),
)

-- and stands at its place
pub number-place : (ns : List ℕ) → IsDistinct nat_eq ns → (k n : ℕ) → slice_get ns k ≡ Some n → before (λ m. m == n) ns ≡ k
unfolding IsDistinct
number-place [] d k n e = cc
number-place (m ∷ ns) d zero n e = let same : m ≡ n = cc in ap (λ t. cond t 0 (suc (before (λ m. m == n) ns))) (eq-eqb m n same)
number-place (m ∷ ns) d (suc k) n e =
    ap (λ t. cond t 0 (suc (before (λ m. m == n) ns))) (all-at (λ i. nat_eq m i ≡ false) ns k n d.0 e) ∙ ap suc (number-place ns d.1 k n e)

-- ---- numbers one after another

pub range-at : (n a k x : ℕ) → slice_get (range_with_len a n) k ≡ Some x → (x ≡ a + k) × (k < n)
range-at zero a k x e = cc
range-at (suc n) a zero x e = let same : a ≡ x = cc in (omega (arith, same), omega arith)
range-at (suc n) a (suc k) x e = let one = range-at n (a + 1) k x e in (omega (arith, one.0), omega (arith, one.1))

pub range-long : (n a : ℕ) → length (range_with_len a n) ≡ n
range-long zero a = refl
range-long (suc n) a = ap suc (range-long n (a + 1))

pub range-before : (n a k x : ℕ) → k < n → x ≡ a + k → before (λ i. i == x) (range_with_len a n) ≡ k
range-before zero a k x below e = absurd (omega (arith, below))
range-before (suc n) a zero x below e =
    let same : a ≡ x = omega (arith, e) in
    ap (λ t. cond t 0 (suc (before (λ i. i == x) (range_with_len (a + 1) n)))) (eq-eqb a x same)
range-before (suc n) a (suc k) x below e =
    let differs : (a == x) ≡ false = false_from_ne_true _ (λ h. let same : a ≡ x = eqb-true _ _ h in absurd (omega (arith, same, e))) in
    ap (λ t. cond t 0 (suc (before (λ i. i == x) (range_with_len (a + 1) n)))) differs
    ∙ ap suc (range-before n (a + 1) k x (omega (arith, below)) (omega (arith, e)))

-- ---- rising numbers

abbrev pub Rises : List ℕ → Type 0
Rises [] = Unit {0}
Rises (x ∷ xs) = AllByRecursion (λ y. x < y) xs × Rises xs

pub range-rises : (n a : ℕ) → Rises (range_with_len a n)
range-rises zero a = tt
range-rises (suc n) a = (all-range (λ y. a < y) n (a + 1) (λ x low high. omega (arith, low)), range-rises n (a + 1))

pub filter-rises : (p : ℕ → Bool) (xs : List ℕ) → Rises xs → Rises (filter p xs)
filter-rises p [] up = tt
filter-rises p (x ∷ xs) up =
    elim (p x) as (λ (t : Bool). Rises (cond t (x ∷ filter p xs) (filter p xs))) [
      | true ↦ (all-filter (λ y. x < y) p xs up.0, filter-rises p xs up.1)
      | false ↦ filter-rises p xs up.1
    ]

pub next-rises : (xs : List ℕ) → Rises xs → Rises (map suc xs)
next-rises [] up = tt
next-rises (x ∷ xs) up =
    (all-map (λ y. suc x < y) suc xs (all-implied (λ y. x < y) (λ y. suc x < suc y) (λ y h. omega (arith, h)) xs up.0), next-rises xs up.1)

pub increases : (xs : List ℕ) → Rises xs → IsStrictlyIncreasing xs
increases [] up k long = absurd (omega (arith, long))
increases (x ∷ []) up k long = absurd (omega (arith, long))
increases (x ∷ y ∷ xs) up zero long = up.0.0
increases (x ∷ y ∷ xs) up (suc k) long =
    let next : suc k + 1 ≡ suc (k + 1) = omega arith in
    subst (λ n. slice_index (y ∷ xs) k < slice_index (x ∷ y ∷ xs) n) (sym next) (increases (y ∷ xs) up.1 k (omega (arith, long)))
