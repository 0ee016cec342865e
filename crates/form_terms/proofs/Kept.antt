-- Lists of the numbers that pass a test, and where each stands.
use Rattle.std.proofs.Common.{◌≡◌, ℕ, zero, suc, ◌+◌, ◌<◌, ◌≤◌, inl, inr, Bool, true, false, not, ◌||◌, refl, sym, ◌∙◌, List, [], ◌∷◌, Some, length, cond, ap, subst, arith, slice_get, Contains, map}
use Rattle.std.specs.Prelude.{slice_index_or, ◌==◌}
use Rattle.std.specs.List.{list_any, list_all, range_with_len, filter, position_or_len, enumerate_from, All}
use Rattle.std.proofs.lemmas.Bool.Decides.{eqb_tells}
use Rattle.std.proofs.lemmas.List.Elements.{Contains-get_or}
use Rattle.form_terms.proofs.Lists.{Contains-head, Contains-tail, Contains-cons_cases, Contains-none, either_true}

pub nat_same : (n : ℕ) → (n == n) ≡ true
nat_same n = elim (eqb_tells n n) [ inl p ↦ p.0 | inr p ↦ absurd (p.1 refl) ]

pub nat_apart : (n m : ℕ) → n < m → (n == m) ≡ false
nat_apart n m h = elim (eqb_tells n m) [ inl p ↦ absurd (omega (arith, h, p.1)) | inr p ↦ p.0 ]

-- the position of x in y and the others
position-cons : (x y : ℕ) (xs : List ℕ) (b : Bool) → (y == x) ≡ b → position_or_len (λ z. z == x) (y ∷ xs) ≡ cond b 0 (1 + position_or_len (λ z. z == x) xs)
position-cons x y xs true e = ap (λ b. cond (not b) (1 + position_or_len (λ z. z == x) xs) 0) e
position-cons x y xs false e = ap (λ b. cond (not b) (1 + position_or_len (λ z. z == x) xs) 0) e

-- x stands at its position
abbrev StandsAt : List ℕ → ℕ → Type 0
StandsAt xs x = slice_get xs (position_or_len (λ y. y == x) xs) ≡ Some x

stands_first : (x : ℕ) (xs : List ℕ) → StandsAt (x ∷ xs) x
stands_first x xs =
    let Q : ℕ → Type 0 = λ i. slice_get (x ∷ xs) i ≡ Some x in subst Q (sym (position-cons x x xs true (nat_same x))) refl

stands_later : (x y : ℕ) (xs : List ℕ) → (y == x) ≡ false → StandsAt xs x → StandsAt (y ∷ xs) x
stands_later x y xs e h =
    let k : ℕ = position_or_len (λ z. z == x) xs in
    let Q : ℕ → Type 0 = λ i. slice_get (y ∷ xs) i ≡ Some x in
    let step : 1 + k ≡ suc k = omega arith in
    subst Q (sym (position-cons x y xs false e ∙ step)) h

module _ (p : ℕ → Bool) where
  -- the numbers from a on, n of them, that pass
  abbrev pub passing : ℕ → ℕ → List ℕ
  passing a n = filter p (range_with_len a n)

  -- where such a number stands
  pub at_position : (a n x : ℕ) → a ≤ x → x < a + n → p x ≡ true → StandsAt (passing a n) x
  at_position a zero x low high h = absurd (omega (arith, low, high))
  at_position a (suc n) x low high h = choose (λ less. at_position (a + 1) n x (omega (arith, less)) (omega (arith, high)) h) (p a) refl
    where
      choose : (a < x → StandsAt (passing (a + 1) n) x) → (b : Bool) → p a ≡ b → StandsAt (cond b (a ∷ passing (a + 1) n) (passing (a + 1) n)) x
      choose later true e =
          elim (eqb_tells a x) [
            | inl same ↦ let Q : ℕ → Type 0 = λ y. StandsAt (y ∷ passing (a + 1) n) x in subst Q (sym same.1) (stands_first x (passing (a + 1) n))
            | inr other ↦ stands_later x a (passing (a + 1) n) other.0 (later (omega (arith, low, other.1)))
          ]
      choose later false e =
          elim (eqb_tells a x) [
            | inl same ↦ let both : p a ≡ true = ap p same.1 ∙ h in cc
            | inr other ↦ later (omega (arith, low, other.1))
          ]

  abbrev IsAt : List ℕ → ℕ → ℕ → ℕ → ℕ → Type 0
  IsAt xs a n i x = (a ≤ x) × (x < a + n) × (p x ≡ true) × (position_or_len (λ y. y == x) xs ≡ i)

  -- what stands at a place
  pub position_at : (a n i x : ℕ) → slice_get (passing a n) i ≡ Some x → IsAt (passing a n) a n i x
  position_at a zero i x e = cc
  position_at a (suc n) i x e = choose (λ i e. position_at (a + 1) n i x e) (p a) refl i e
    where
      choose : ((i : ℕ) → slice_get (passing (a + 1) n) i ≡ Some x → IsAt (passing (a + 1) n) (a + 1) n i x)
          → (b : Bool) → p a ≡ b → (i : ℕ) → slice_get (cond b (a ∷ passing (a + 1) n) (passing (a + 1) n)) i ≡ Some x
          → IsAt (cond b (a ∷ passing (a + 1) n) (passing (a + 1) n)) a (suc n) i x
      choose ih true h zero e =
          let same : a ≡ x = cc in
          let Q : ℕ → Type 0 = λ y. IsAt (a ∷ passing (a + 1) n) a (suc n) 0 y in
          subst Q same (omega arith, omega arith, h, position-cons a a (passing (a + 1) n) true (nat_same a))
      choose ih true h (suc i) e =
          let later = ih i e in
          let away : (a == x) ≡ false = nat_apart a x (omega (arith, later.0)) in
          (omega (arith, later.0), omega (arith, later.1), later.2, omega (arith, position-cons x a (passing (a + 1) n) false away, later.3))
      choose ih false h i e = let later = ih i e in (omega (arith, later.0), omega (arith, later.1), later.2, later.3)

-- what a list made by place of another has
pub enumerated : {X Y : Type 0} (h : ℕ × X → Y) (a i : ℕ) (xs : List X) (x : X) (d : Y)
    → slice_get xs i ≡ Some x → slice_index_or (map h (enumerate_from a xs)) i d ≡ h (a + i, x)
enumerated h a i [] x d e = cc
enumerated h a zero (y ∷ xs) x d e = let same : y ≡ x = cc in let sum : a ≡ a + 0 = omega arith in cc
enumerated h a (suc i) (y ∷ xs) x d e = let sum : a + 1 + i ≡ a + suc i = omega arith in enumerated h (a + 1) i xs x d e ∙ ap (λ n. h (n, x)) sum

pub length-enumerated : {X Y : Type 0} (h : ℕ × X → Y) (a : ℕ) (xs : List X) → length (map h (enumerate_from a xs)) ≡ length xs
length-enumerated h a [] = refl
length-enumerated h a (x ∷ xs) = ap suc (length-enumerated h (a + 1) xs)

-- all elements, one after another
pub All-from : {X : Type 0} (P : X → Type 0) (xs : List X) → ((x : X) → Contains xs x → P x) → All P xs
All-from P xs h k d within = h (slice_index_or xs k d) (Contains-get_or xs k d within)

pub All-Contains : {X : Type 0} (P : X → Type 0) (xs : List X) (x : X) → All P xs → Contains xs x → P x
All-Contains P xs x all c = subst P c.2 (all c.0 x c.1)

pub list_all-from : {X : Type 0} (p : X → Bool) (xs : List X) → ((x : X) → Contains xs x → p x ≡ true) → list_all p xs ≡ true
list_all-from p [] h = refl
list_all-from p (x ∷ xs) h =
    let here = h x (Contains-head x xs) in
    let later = list_all-from p xs (λ y c. h y (Contains-tail x xs y c)) in cc

pub or_right : (a b : Bool) → b ≡ true → (a || b) ≡ true
or_right true b e = refl
or_right false b e = e

pub list_any-from : {X : Type 0} (p : X → Bool) (xs : List X) (x : X) → Contains xs x → p x ≡ true → list_any p xs ≡ true
list_any-from p [] x c e = Contains-none x c
list_any-from {X} p (y ∷ xs) x c e =
    elim (Contains-cons_cases y xs x c) [
      | inl same ↦ let here : p y ≡ true = ap p same ∙ e in ap (λ b. b || list_any p xs) here
      | inr later ↦ let rest = list_any-from p xs x later e in or_right (p y) (list_any p xs) rest
    ]

-- an element that passes
pub list_any-some : {X : Type 0} (p : X → Bool) (xs : List X) → list_any p xs ≡ true → (x : X) × Contains xs x × (p x ≡ true)
list_any-some p [] e = cc
list_any-some p (x ∷ xs) e =
    elim (either_true (p x) (list_any p xs) e) [
      | inl here ↦ (x, Contains-head x xs, here)
      | inr later ↦ let found = list_any-some p xs later in (found.0, Contains-tail x xs found.0 found.1, found.2)
    ]
