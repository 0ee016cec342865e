-- Two rising lists of pairs with the same members are one list.
use Rattle.std.proofs.Common.{◌≡◌, ℕ, zero, suc, ◌+◌, ◌<◌, ◌≤◌, Bool, true, false, ◌&&◌, ◌||◌, List, [], ◌∷◌, ◌++◌, refl, ap, sym, ◌∙◌, subst, arith, cond, inl, inr}
use Rattle.std.specs.Prelude.{map, filter, ◌==◌, ◌⊎◌}
use Rattle.std.specs.List.{flat_map, range_with_len, AllByRecursion, list_any}
use Rattle.std.proofs.lemmas.Bool.{eqb-true, eq-eqb}
use Rattle.data_meaning.proofs.Agreement.{ap2}
use Rattle.data_meaning.proofs.Tests.{and-left, and-right, and-both, or-true}
use Rattle.check_witness.specs.Back.{IsBefore, IsRising}
use Rattle.check_witness.proofs.Lists.{all-passing, all-implied, all-map, all-append, all-flat, all-range, Rises, range-rises, filter-rises}

abbrev pub Pair : Type 0
Pair = ℕ × ℕ

abbrev pub In : {A : Type 0} → List A → A → Type 0
In [] x = ⊥
In (y ∷ ys) x = (y ≡ x) ⊎ In ys x

pub all-in : {A : Type 0} (P : A → Type 0) (xs : List A) (x : A) → AllByRecursion P xs → In xs x → P x
all-in P [] x all i = absurd i
all-in P (y ∷ ys) x all (inl same) = subst P same all.0
all-in P (y ∷ ys) x all (inr later) = all-in P ys x all.1 later

pub in-front : {A : Type 0} (xs ys : List A) (x : A) → In xs x → In (xs ++ ys) x
in-front [] ys x i = absurd i
in-front (z ∷ xs) ys x (inl same) = inl same
in-front (z ∷ xs) ys x (inr later) = inr (in-front xs ys x later)

pub in-behind : {A : Type 0} (xs ys : List A) (x : A) → In ys x → In (xs ++ ys) x
in-behind [] ys x i = i
in-behind (z ∷ xs) ys x i = inr (in-behind xs ys x i)

pub in-map : {A B : Type 0} (f : A → B) (xs : List A) (x : A) → In xs x → In (map f xs) (f x)
in-map f [] x i = absurd i
in-map f (z ∷ xs) x (inl same) = inl (ap f same)
in-map f (z ∷ xs) x (inr later) = inr (in-map f xs x later)

pub in-filter : {A : Type 0} (p : A → Bool) (xs : List A) (x : A) → p x ≡ true → In xs x → In (filter p xs) x
in-filter p [] x passes i = absurd i
in-filter {A} p (z ∷ xs) x passes (inl same) =
    let here : p z ≡ true = ap p same ∙ passes in
    subst (λ (t : Bool). In (cond t (z ∷ filter p xs) (filter p xs)) x) (sym here) (inl same)
in-filter {A} p (z ∷ xs) x passes (inr later) =
    elim (p z) as (λ (t : Bool). In (cond t (z ∷ filter p xs) (filter p xs)) x) [
      | true ↦ inr (in-filter p xs x passes later)
      | false ↦ in-filter p xs x passes later
    ]

pub in-range : (n a x : ℕ) → a ≤ x → x < a + n → In (range_with_len a n) x
in-range zero a x low high = absurd (omega (arith, low, high))
in-range (suc n) a x low high =
    elim (a == x) as (λ (t : Bool). (a == x) ≡ t → (a ≡ x) ⊎ In (range_with_len (a + 1) n) x) [
      | true ↦ λ here. inl (eqb-true _ _ here)
      | false ↦ λ here.
          let less : a + 1 ≤ x = above here in
          inr (in-range n (a + 1) x less (omega (arith, high)))
    ] refl
  where
    above : (a == x) ≡ false → a + 1 ≤ x
    above differs = let other : (a ≡ x) → ⊥ = λ same. (let e = eq-eqb a x same in cc) in grind (arith, other, low)

-- ---- the members of a set relation

abbrev pub is_pair : ℕ → ℕ → Pair → Bool
is_pair x y p = (p.0 == x) && (p.1 == y)

pub in-any : (ps : List Pair) (x y : ℕ) → In ps (x, y) → list_any (is_pair x y) ps ≡ true
in-any [] x y i = absurd i
in-any (p ∷ ps) x y (inl same) =
    let first : (p.0 == x) ≡ true = eq-eqb _ _ (ap (λ (q : Pair). q.0) same) in
    let second : (p.1 == y) ≡ true = eq-eqb _ _ (ap (λ (q : Pair). q.1) same) in
    ap (λ t. t || list_any (is_pair x y) ps) (and-both _ _ first second)
in-any (p ∷ ps) x y (inr later) =
    elim (is_pair x y p) as (λ (t : Bool). (t || list_any (is_pair x y) ps) ≡ true) [
      | true ↦ refl
      | false ↦ in-any ps x y later
    ]

pub any-in : (ps : List Pair) (x y : ℕ) → list_any (is_pair x y) ps ≡ true → In ps (x, y)
any-in [] x y e = cc
any-in (p ∷ ps) x y e =
    elim (or-true (is_pair x y p) (list_any (is_pair x y) ps) e) as (λ _. (p ≡ (x, y)) ⊎ In ps (x, y)) [
      | inl here ↦ inl (ap2 (λ a b. (a, b)) (eqb-true p.0 x (and-left (p.0 == x) (p.1 == y) here)) (eqb-true p.1 y (and-right (p.0 == x) (p.1 == y) here)))
      | inr later ↦ inr (any-in ps x y later)
    ]

-- ---- one list

not-before : (p : Pair) → IsBefore p p → ⊥
not-before p (inl less) = absurd (omega (arith, less))
not-before p (inr less) = absurd (omega (arith, less.1))

not-both : (p q : Pair) → IsBefore p q → IsBefore q p → ⊥
not-both p q (inl a) (inl b) = absurd (omega (arith, a, b))
not-both p q (inl a) (inr b) = absurd (omega (arith, a, b.0))
not-both p q (inr a) (inl b) = absurd (omega (arith, a.0, b))
not-both p q (inr a) (inr b) = absurd (omega (arith, a.1, b.1))

-- what follows a pair that stands before it is in the rest of the other list
rest : (p q : Pair) (ps qs : List Pair) → p ≡ q → AllByRecursion (IsBefore p) ps → (x : Pair) → In ps x → In (q ∷ qs) x → In qs x
rest p q ps qs same up x i (inl here) =
    let less : IsBefore p x = all-in (IsBefore p) ps x up i in
    absurd (not-before p (subst (λ (z : Pair). IsBefore p z) (sym (same ∙ here)) less))
rest p q ps qs same up x i (inr later) = later

first : (p q : Pair) (ps qs : List Pair) → AllByRecursion (IsBefore p) ps → AllByRecursion (IsBefore q) qs → In (q ∷ qs) p → In (p ∷ ps) q → p ≡ q
first p q ps qs up also (inl same) j = sym same
first p q ps qs up also (inr i) (inl same) = same
first p q ps qs up also (inr i) (inr j) = absurd (not-both p q (all-in (IsBefore p) ps q up j) (all-in (IsBefore q) qs p also i))

pub one-list : (ps qs : List Pair) → IsRising ps → IsRising qs → ((x : Pair) → In ps x → In qs x) → ((x : Pair) → In qs x → In ps x) → ps ≡ qs
one-list [] [] up also to back = refl
one-list [] (q ∷ qs) up also to back = absurd (back q (inl refl))
one-list (p ∷ ps) [] up also to back = absurd (to p (inl refl))
one-list (p ∷ ps) (q ∷ qs) up also to back =
    let same : p ≡ q = first p q ps qs up.0 also.0 (to p (inl refl)) (back q (inl refl)) in
    ap2 (λ a b. a ∷ b) same
    (one-list ps qs up.1 also.1 (λ x i. rest p q ps qs same up.0 x i (to x (inr i))) (λ x i. rest q p qs ps (sym same) also.0 x i (back x (inr i))))

-- ---- the pairs of a relation, row by row

module _ (R : ℕ → ℕ → Bool) (w : ℕ) where
  abbrev pub row : ℕ → List Pair
  row x = map (λ y. (x, y)) (filter (R x) (range_with_len 0 w))

  abbrev pub rows : ℕ → ℕ → List Pair
  rows a n = flat_map row (range_with_len a n)

  in-rows : (n a x y : ℕ) → a ≤ x → x < a + n → In (row x) (x, y) → In (rows a n) (x, y)
  in-rows zero a x y low high i = absurd (omega (arith, low, high))
  in-rows (suc n) a x y low high i =
      elim (in-range (suc n) a x low high) as (λ _. In (row a ++ rows (a + 1) n) (x, y)) [
        | inl same ↦ in-front (row a) (rows (a + 1) n) (x, y) (subst (λ (z : ℕ). In (row z) (x, y)) (sym same) i)
        | inr later ↦
            let within = all-in (λ z. (a + 1 ≤ z) × (z < (a + 1) + n)) (range_with_len (a + 1) n) x (all-range (λ z. (a + 1 ≤ z) × (z < (a + 1) + n)) n (a + 1) (λ z l h. (l, h))) later in
            in-behind (row a) (rows (a + 1) n) (x, y) (in-rows n (a + 1) x y within.0 within.1 i)
      ]

  pub related-in : (n x y : ℕ) → x < n → y < w → R x y ≡ true → In (rows 0 n) (x, y)
  related-in n x y below within e =
      in-rows n 0 x y (omega arith) (omega (arith, below))
      (in-map (λ z. (x, z)) (filter (R x) (range_with_len 0 w)) y (in-filter (R x) (range_with_len 0 w) y e (in-range w 0 y (omega arith) (omega (arith, within)))))

  up-row : (x : ℕ) (ys : List ℕ) → Rises ys → IsRising (map (λ y. (x, y)) ys)
  up-row x [] up = tt
  up-row x (y ∷ ys) up =
      (all-map (IsBefore (x, y)) (λ z. (x, z)) ys (all-implied (λ z. y < z) (λ z. IsBefore (x, y) (x, z)) (λ z less. inr (refl, less)) ys up.0), up-row x ys up.1)

  up-append : (ps qs : List Pair) → IsRising ps → IsRising qs → AllByRecursion (λ p. AllByRecursion (IsBefore p) qs) ps → IsRising (ps ++ qs)
  up-append [] qs up also all = also
  up-append (p ∷ ps) qs up also all = (all-append (IsBefore p) ps qs up.0 all.0, up-append ps qs up.1 also all.1)

  -- the pairs of a row begin with its number
  pub row-first : (x : ℕ) (ys : List ℕ) → AllByRecursion (λ (p : Pair). p.0 ≡ x) (map (λ y. (x, y)) ys)
  row-first x [] = tt
  row-first x (y ∷ ys) = (refl, row-first x ys)

  rows-above : (n a : ℕ) → AllByRecursion (λ (p : Pair). a ≤ p.0) (rows a n)
  rows-above n a =
      all-flat (λ (p : Pair). a ≤ p.0) row (range_with_len a n)
      (all-range (λ x. AllByRecursion (λ (p : Pair). a ≤ p.0) (row x)) n a
      (λ x low high. all-implied (λ (p : Pair). p.0 ≡ x) (λ (p : Pair). a ≤ p.0) (λ p e. omega (arith, e, low)) (row x) (row-first x (filter (R x) (range_with_len 0 w)))))

  pub rows-rise : (n a : ℕ) → IsRising (rows a n)
  rows-rise zero a = tt
  rows-rise (suc n) a =
      up-append (row a) (rows (a + 1) n) (up-row a (filter (R a) (range_with_len 0 w)) (filter-rises (R a) (range_with_len 0 w) (range-rises w 0)))
      (rows-rise n (a + 1))
      (all-implied (λ (p : Pair). p.0 ≡ a) (λ p. AllByRecursion (IsBefore p) (rows (a + 1) n))
      (λ p e. all-implied (λ (q : Pair). a + 1 ≤ q.0) (IsBefore p) (λ q above. inl (omega (arith, e, above))) (rows (a + 1) n) (rows-above n (a + 1)))
      (row a) (row-first a (filter (R a) (range_with_len 0 w))))

  -- what is in a row is related
  pub row-related : (x : ℕ) → AllByRecursion (λ (p : Pair). R p.0 p.1 ≡ true) (row x)
  row-related x =
      all-map (λ (p : Pair). R p.0 p.1 ≡ true) (λ y. (x, y)) (filter (R x) (range_with_len 0 w)) (all-passing (R x) (range_with_len 0 w))

  pub rows-related : (n a : ℕ) → AllByRecursion (λ (p : Pair). R p.0 p.1 ≡ true) (rows a n)
  rows-related n a =
      all-flat (λ (p : Pair). R p.0 p.1 ≡ true) row (range_with_len a n)
      (all-range (λ x. AllByRecursion (λ (p : Pair). R p.0 p.1 ≡ true) (row x)) n a (λ x low high. row-related x))
