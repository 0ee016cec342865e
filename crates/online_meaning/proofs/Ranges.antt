-- What passes a test, in rising lists that hold all that passes.
use Rattle.std.proofs.Common.{◌≡◌, ℕ, ◌<◌, Bool, true, false, ◌||◌, ◌&&◌, List, [], ◌∷◌, ◌++◌, refl, ap, sym, ◌∙◌, subst, arith, cond}
use Rattle.std.specs.Prelude.{◌==◌, filter, if◌then◌else◌}
use Rattle.std.specs.List.{list_any, flat_map, AllByRecursion}
use Rattle.std.specs.List.Sorted.{IsStrictlyIncreasing, IsStrictlySortedBy}
use Rattle.std.specs.Ordering.{nat_cmp}
use Rattle.std.specs.declared.cmp.Ordering.TheVariants.{Less}
use Rattle.std.proofs.lemmas.Bool.{eqb-true, eq-eqb}
use Rattle.std.proofs.lemmas.Bool.Decides.{nat_tests}
use Rattle.std.proofs.lemmas.List.Kept.{IsStrictlyIncreasing-filter}
use Rattle.std.proofs.lemmas.Map.Keys.{sorted_from_strictly_increasing}
use Rattle.data_meaning.proofs.Carried.{all-front, all-behind, all-append}
use Rattle.data_meaning.proofs.Tests.{or-left, or-right}

-- ---- rising lists with the same elements

abbrev pub is_in : List ℕ → ℕ → Bool
is_in xs i = list_any (λ j. j == i) xs

is-less : (a b : ℕ) → nat_cmp a b ≡ Less → a < b
is-less a b less = grind (arith, nat_tests)

above : (x : ℕ) (ys : List ℕ) → AllByRecursion (λ y. nat_cmp x y ≡ Less) ys → (i : ℕ) → is_in ys i ≡ true → x < i
above x [] all i there = cc
above x (y ∷ ys) all i there =
    elim (y == i) as (λ (b : Bool). (y == i) ≡ b → (b || is_in ys i) ≡ true → x < i) [
      | true ↦ λ same h. subst (λ k. x < k) (eqb-true y i same) (is-less x y all.0)
      | false ↦ λ other h. above x ys all.1 i h
    ] refl there

-- the heads are one, where each is in the other list
one-head : (x y : ℕ) (xs ys : List ℕ) → AllByRecursion (λ z. nat_cmp x z ≡ Less) xs → AllByRecursion (λ z. nat_cmp y z ≡ Less) ys
    → is_in (y ∷ ys) x ≡ true → is_in (x ∷ xs) y ≡ true → x ≡ y
one-head x y xs ys up up' there there' =
    elim (y == x) as (λ (b : Bool). (y == x) ≡ b → (b || is_in ys x) ≡ true → x ≡ y) [
      | true ↦ λ same h. sym (eqb-true y x same)
      | false ↦ λ other h.
          elim (x == y) as (λ (b : Bool). (x == y) ≡ b → (b || is_in xs y) ≡ true → x ≡ y) [
            | true ↦ λ same k. eqb-true x y same
            | false ↦ λ other' k. let l : y < x = above y ys up' x h in let g : x < y = above x xs up y k in absurd (omega arith)
          ] refl there'
    ] refl there

tail-in : (x y : ℕ) (xs ys : List ℕ) → x ≡ y → AllByRecursion (λ z. nat_cmp x z ≡ Less) xs → ((i : ℕ) → is_in (x ∷ xs) i ≡ true → is_in (y ∷ ys) i ≡ true)
    → (i : ℕ) → is_in xs i ≡ true → is_in ys i ≡ true
tail-in x y xs ys same up more i there =
    elim (y == i) as (λ (b : Bool). (y == i) ≡ b → (b || is_in ys i) ≡ true → is_in ys i ≡ true) [
      | true ↦ λ is h. let here : y ≡ i = eqb-true y i is in let l : x < i = above x xs up i there in absurd (omega arith)
      | false ↦ λ is h. h
    ] refl (more i (or-last (x == i) (is_in xs i) there))
  where
    or-last : (a b : Bool) → b ≡ true → (a || b) ≡ true
    or-last true b h = refl
    or-last false b h = h

first-in : (x : ℕ) (xs : List ℕ) → is_in (x ∷ xs) x ≡ true
first-in x xs = ap (λ b. b || is_in xs x) (eq-eqb x x refl)

same-lists : (xs ys : List ℕ) → IsStrictlySortedBy nat_cmp xs → IsStrictlySortedBy nat_cmp ys → ((i : ℕ) → is_in xs i ≡ true → is_in ys i ≡ true)
    → ((i : ℕ) → is_in ys i ≡ true → is_in xs i ≡ true) → xs ≡ ys
unfolding IsStrictlySortedBy
same-lists [] [] up up' more less = refl
same-lists [] (y ∷ ys) up up' more less = let h = less y (first-in y ys) in cc
same-lists (x ∷ xs) [] up up' more less = let h = more x (first-in x xs) in cc
same-lists (x ∷ xs) (y ∷ ys) up up' more less =
    let same = one-head x y xs ys up.0 up'.0 (more x (first-in x xs)) (less y (first-in y ys)) in
    let rest = same-lists xs ys up.1 up'.1 (tail-in x y xs ys same up.0 more) (tail-in y x ys xs (sym same) up'.0 less) in
    cc

-- ---- what a filter keeps

kept-passes : (p : ℕ → Bool) (i : ℕ) (xs : List ℕ) → is_in (filter p xs) i ≡ true → (p i ≡ true) × (is_in xs i ≡ true)
kept-passes p i [] there = cc
kept-passes p i (x ∷ xs) there =
    elim (p x) as (λ (b : Bool). p x ≡ b → is_in (cond b (x ∷ filter p xs) (filter p xs)) i ≡ true → (p i ≡ true) × ((x == i) || is_in xs i) ≡ true) [
      | true ↦ λ passes h.
          elim (x == i) as (λ (b : Bool). (x == i) ≡ b → (b || is_in (filter p xs) i) ≡ true → (p i ≡ true) × ((b || is_in xs i) ≡ true)) [
            | true ↦ λ same k. (subst (λ n. p n ≡ true) (eqb-true x i same) passes, refl)
            | false ↦ λ other k. kept-passes p i xs k
          ] refl h
      | false ↦ λ fails h. let rest = kept-passes p i xs h in (rest.0, or-last (x == i) (is_in xs i) rest.1)
    ] refl there
  where
    or-last : (a b : Bool) → b ≡ true → (a || b) ≡ true
    or-last true b h = refl
    or-last false b h = h

passes-kept : (p : ℕ → Bool) (i : ℕ) (xs : List ℕ) → p i ≡ true → is_in xs i ≡ true → is_in (filter p xs) i ≡ true
passes-kept p i [] passes there = there
passes-kept p i (x ∷ xs) passes there =
    elim (x == i) as (λ (b : Bool). (x == i) ≡ b → (b || is_in xs i) ≡ true → is_in (cond (p x) (x ∷ filter p xs) (filter p xs)) i ≡ true) [
      | true ↦ λ same h.
          ap (λ b. is_in (cond b (x ∷ filter p xs) (filter p xs)) i) (ap p (eqb-true x i same) ∙ passes) ∙ ap (λ b. b || is_in (filter p xs) i) same
      | false ↦ λ other h.
          elim (p x) as (λ (b : Bool). is_in (cond b (x ∷ filter p xs) (filter p xs)) i ≡ true) [
            | true ↦ ap (λ b. b || is_in (filter p xs) i) other ∙ passes-kept p i xs passes h
            | false ↦ passes-kept p i xs passes h
          ]
    ] refl there

-- two tests that say the same, and all that passes is in both lists
pub same-filtered : (p q : ℕ → Bool) (xs ys : List ℕ) → IsStrictlyIncreasing xs → IsStrictlyIncreasing ys → ((i : ℕ) → p i ≡ q i)
    → ((i : ℕ) → p i ≡ true → is_in xs i ≡ true) → ((i : ℕ) → p i ≡ true → is_in ys i ≡ true) → filter p xs ≡ filter q ys
same-filtered p q xs ys up up' same in-xs in-ys =
    same-lists (filter p xs) (filter q ys)
    (sorted_from_strictly_increasing (filter p xs) (IsStrictlyIncreasing-filter p xs up))
    (sorted_from_strictly_increasing (filter q ys) (IsStrictlyIncreasing-filter q ys up'))
    (λ i there. let k = kept-passes p i xs there in passes-kept q i ys (sym (same i) ∙ k.0) (in-ys i k.0))
    (λ i there. let k = kept-passes q i ys there in passes-kept p i xs (same i ∙ k.0) (in-xs i (same i ∙ k.0)))

-- ---- what is said of each that passes

pub any-filtered : (p q : ℕ → Bool) (xs : List ℕ) → list_any (λ y. p y && q y) xs ≡ list_any q (filter p xs)
any-filtered p q [] = refl
any-filtered p q (x ∷ xs) =
    elim (p x) as (λ (b : Bool). ((b && q x) || list_any (λ y. p y && q y) xs) ≡ list_any q (cond b (x ∷ filter p xs) (filter p xs))) [
      | true ↦ ap (λ b. q x || b) (any-filtered p q xs)
      | false ↦ any-filtered p q xs
    ]

pub flat-filtered : {A : Type 0} (p : ℕ → Bool) (f : ℕ → List A) (xs : List ℕ) → flat_map (λ y. if p y then f y else []) xs ≡ flat_map f (filter p xs)
flat-filtered p f [] = refl
flat-filtered {A} p f (x ∷ xs) =
    elim (p x) as (λ (b : Bool). ((if b then f x else []) ++ flat_map (λ y. if p y then f y else []) xs) ≡ flat_map f (cond b (x ∷ filter p xs) (filter p xs))) [
      | true ↦ ap (λ rest. f x ++ rest) (flat-filtered p f xs)
      | false ↦ flat-filtered p f xs
    ]

pub each-of-flat : {A B : Type 0} (P : B → Type 0) (f : A → List B) (xs : List A) → AllByRecursion P (flat_map f xs) → AllByRecursion (λ x. AllByRecursion P (f x)) xs
each-of-flat P f [] all = tt
each-of-flat P f (x ∷ xs) all = (all-front P (f x) (flat_map f xs) all, each-of-flat P f xs (all-behind P (f x) (flat_map f xs) all))

pub flat-same : {A B : Type 0} (f g : A → List B) (xs : List A) → AllByRecursion (λ x. f x ≡ g x) xs → flat_map f xs ≡ flat_map g xs
flat-same f g [] all = refl
flat-same f g (x ∷ xs) all = ap (λ ys. ys ++ flat_map f xs) all.0 ∙ ap (λ ys. g x ++ ys) (flat-same f g xs all.1)

pub any-same-in : {A : Type 0} (p q : A → Bool) (xs : List A) → AllByRecursion (λ x. p x ≡ q x) xs → list_any p xs ≡ list_any q xs
any-same-in p q [] all = refl
any-same-in p q (x ∷ xs) all = ap (λ b. b || list_any p xs) all.0 ∙ ap (λ b. q x || b) (any-same-in p q xs all.1)

pub flat-of-each : {A B : Type 0} (P : B → Type 0) (f : A → List B) (xs : List A) → AllByRecursion (λ x. AllByRecursion P (f x)) xs → AllByRecursion P (flat_map f xs)
flat-of-each P f [] all = tt
flat-of-each P f (x ∷ xs) all = all-append P (f x) (flat_map f xs) all.0 (flat-of-each P f xs all.1)

pub every : {A : Type 0} (P : A → Type 0) → ((x : A) → P x) → (xs : List A) → AllByRecursion P xs
every P each [] = tt
every P each (x ∷ xs) = (each x, every P each xs)

-- a test that none passes
pub none-passes : {A : Type 0} (p : A → Bool) (xs : List A) → list_any p xs ≡ false → AllByRecursion (λ x. p x ≡ false) xs
none-passes p [] none = tt
none-passes p (x ∷ xs) none = (or-left (p x) (list_any p xs) none, none-passes p xs (or-right (p x) (list_any p xs) none))
