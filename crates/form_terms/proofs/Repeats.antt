-- Lists without repeats, and where an element stands twice.
use Rattle.std.proofs.Common.{◌≡◌, ℕ, zero, suc, ◌<◌, ◌≤◌, ◌⊎◌, inl, inr, Bool, true, false, not, refl, sym, ◌∙◌, List, [], ◌∷◌, ◌++◌, length, cond, ap, subst, arith, Contains}
use Rattle.std.specs.Prelude.{◌==◌}
use Rattle.std.specs.List.{list_any, filter}
use Rattle.std.proofs.lemmas.Bool.{eqb-true}
use Rattle.std.proofs.lemmas.Bool.Decides.{eqb_tells}
use Rattle.form_terms.specs.Listing.{HasNoRepeats}
use Rattle.form_terms.proofs.Lists.{Contains-head, Contains-tail, Contains-cons_cases, Contains-none}
use Rattle.form_terms.proofs.Kept.{list_any-some, list_any-from, nat_same}
use Rattle.form_terms.proofs.Listed.{in_filter}

-- a number stands twice
abbrev pub Repeats : List ℕ → Type 0
Repeats xs = (front : List ℕ) × (x : ℕ) × (middle : List ℕ) × (back : List ℕ) × (xs ≡ front ++ x ∷ (middle ++ x ∷ back))

split_at : (xs : List ℕ) (x : ℕ) → Contains xs x → (front : List ℕ) × (back : List ℕ) × (xs ≡ front ++ x ∷ back)
split_at [] x c = Contains-none x c
split_at (y ∷ xs) x c =
    elim (Contains-cons_cases y xs x c) [
      | inl e ↦ ([], xs, ap (λ y. y ∷ xs) e)
      | inr later ↦ let found = split_at xs x later in (y ∷ found.0, found.1, ap (λ xs. y ∷ xs) found.2)
    ]

find_repeat : (xs : List ℕ) → Repeats xs ⊎ HasNoRepeats xs
find_repeat [] = inr tt
find_repeat (x ∷ xs) = choose (find_repeat xs) (list_any (λ y. y == x) xs) refl
  where
    choose : Repeats xs ⊎ HasNoRepeats xs → (b : Bool) → list_any (λ y. y == x) xs ≡ b → Repeats (x ∷ xs) ⊎ HasNoRepeats (x ∷ xs)
    choose later true e =
        let found = list_any-some (λ y. y == x) xs e in
        let same : found.0 ≡ x = eqb-true found.0 x found.2 in
        let P : ℕ → Type 0 = λ y. Contains xs y in
        let cut = split_at xs x (subst P same found.1) in
        inl ([], x, cut.0, cut.1, ap (λ xs. x ∷ xs) cut.2)
    choose (inl (front, y, middle, back, e')) false e = inl (x ∷ front, y, middle, back, ap (λ xs. x ∷ xs) e')
    choose (inr none) false e = inr ((λ c. let yes' = list_any-from (λ y. y == x) xs x c (nat_same x) in let no' : true ≡ false = sym yes' ∙ e in cc), none)

pub filter-HasNoRepeats : {A : Type 0} (p : A → Bool) (xs : List A) → HasNoRepeats xs → HasNoRepeats (filter p xs)
filter-HasNoRepeats p [] h = tt
filter-HasNoRepeats {A} p (x ∷ xs) h = choose (filter-HasNoRepeats p xs h.1) (p x)
  where
    choose : HasNoRepeats (filter p xs) → (b : Bool) → HasNoRepeats (cond b (x ∷ filter p xs) (filter p xs))
    choose later true = ((λ c. h.0 (in_filter p xs x c).0), later)
    choose later false = later

abbrev other_than : ℕ → ℕ → Bool
other_than n x = not (x == n)

without : (n : ℕ) (xs : List ℕ) → (Contains xs n → ⊥) → filter (other_than n) xs ≡ xs
without n [] h = refl
without n (x ∷ xs) h =
    elim (eqb_tells x n) [
      | inl same ↦ let P : ℕ → Type 0 = λ y. Contains (x ∷ xs) y in absurd (h (subst P same.1 (Contains-head x xs)))
      | inr other ↦ let later = without n xs (λ c. h (Contains-tail x xs n c)) in let test = other.0 in cc
    ]

one_less : (n : ℕ) (xs : List ℕ) → HasNoRepeats xs → length xs ≤ suc (length (filter (other_than n) xs))
one_less n [] h = omega arith
one_less n (x ∷ xs) h =
    elim (eqb_tells x n) [
      | inl same ↦
          let P : ℕ → Type 0 = λ y. Contains xs y → ⊥ in
          let rest = without n xs (subst P same.1 h.0) in
          let test = same.0 in
          let whole : filter (other_than n) (x ∷ xs) ≡ xs = cc in
          omega (arith, ap length whole)
      | inr other ↦
          let test = other.0 in
          let whole : filter (other_than n) (x ∷ xs) ≡ x ∷ filter (other_than n) xs = cc in
          omega (arith, ap length whole, one_less n xs h.1)
    ]

-- different numbers below n are n at most
pub short : (n : ℕ) (xs : List ℕ) → HasNoRepeats xs → ((x : ℕ) → Contains xs x → x < n) → length xs ≤ n
short zero [] h under = omega arith
short zero (x ∷ xs) h under = absurd (omega (arith, under x (Contains-head x xs)))
short (suc n) xs h under =
    let rest = short n (filter (other_than n) xs) (filter-HasNoRepeats (other_than n) xs h) (λ x c.
    let own = in_filter (other_than n) xs x c in
    let low = under x own.0 in
    elim (eqb_tells x n) [
      | inl same ↦ let test = own.1 in let e = same.0 in cc
      | inr other ↦ omega (arith, low, other.1)
    ]) in
    omega (arith, rest, one_less n xs h)

-- more than n numbers below n repeat
pub repeats : (n : ℕ) (xs : List ℕ) → ((x : ℕ) → Contains xs x → x < n) → n < length xs → Repeats xs
repeats n xs under long =
    elim (find_repeat xs) [
      | inl found ↦ found
      | inr none ↦ absurd (omega (arith, long, short n xs none under))
    ]
