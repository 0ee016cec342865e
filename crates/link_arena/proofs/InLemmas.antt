-- Membership in a list, as a fact by recursion on the list.
use Rattle.std.proofs.Common.{◌≡◌, ◌⊎◌, ℕ, ◌<◌, ◌≤◌, true, false, List, [], ◌∷◌, ◌++◌, length, refl, sym, ◌∙◌, inl, inr, nat_eq}
use Rattle.std.proofs.lemmas.Bool.{eqb-true, eq-eqb, ne_eqb, or_cases, or_left, or_right, false_from_ne_true, false≢true}
use Rattle.std.proofs.lemmas.Map.Steps.{length-le_from_distinct_below}
use Rattle.std.specs.List.{IsDistinct, AllByRecursion}
use Rattle.link_arena.specs.Lists.{is_in}

-- q is in the list
abbrev pub In : ℕ → List ℕ → Type 0
In q [] = ⊥
In q (x ∷ xs) = (q ≡ x) ⊎ In q xs

pub In-from_is_in : (q : ℕ) (xs : List ℕ) → is_in q xs ≡ true → In q xs
In-from_is_in q [] h = absurd (false≢true h)
In-from_is_in q (x ∷ xs) h =
    elim (or_cases (nat_eq q x) (is_in q xs) h) [ inl same ↦ inl (eqb-true q x same) | inr later ↦ inr (In-from_is_in q xs later) ]

pub is_in-from_In : (q : ℕ) (xs : List ℕ) → In q xs → is_in q xs ≡ true
is_in-from_In q [] h = absurd h
is_in-from_In q (x ∷ xs) (inl same) = or_left (nat_eq q x) (is_in q xs) (eq-eqb q x same)
is_in-from_In q (x ∷ xs) (inr later) = or_right (nat_eq q x) (is_in q xs) (is_in-from_In q xs later)

pub is_in_not : (q : ℕ) (xs : List ℕ) → (In q xs → ⊥) → is_in q xs ≡ false
is_in_not q xs h = false_from_ne_true (is_in q xs) (λ yes. h (In-from_is_in q xs yes))

pub In-append : (q : ℕ) (xs ys : List ℕ) → In q (xs ++ ys) → In q xs ⊎ In q ys
In-append q [] ys h = inr h
In-append q (x ∷ xs) ys (inl same) = inl (inl same)
In-append q (x ∷ xs) ys (inr later) =
    elim (In-append q xs ys later) [ inl left ↦ inl (inr left) | inr right ↦ inr right ]

-- what is in no place behind it differs from each element behind it
differs : (q : ℕ) (xs : List ℕ) → (In q xs → ⊥) → AllByRecursion (λ y. nat_eq q y ≡ false) xs
differs q [] h = tt
differs q (x ∷ xs) h = (ne_eqb q x (λ same. h (inl same)), differs q xs (λ later. h (inr later)))

pub IsDistinct-nil : IsDistinct nat_eq []
unfolding IsDistinct
IsDistinct-nil = tt

pub IsDistinct-cons_In : (x : ℕ) (xs : List ℕ) → (In x xs → ⊥) → IsDistinct nat_eq xs → IsDistinct nat_eq (x ∷ xs)
unfolding IsDistinct
IsDistinct-cons_In x xs h rest = (differs x xs h, rest)

same_differs : (q x : ℕ) (xs : List ℕ) → AllByRecursion (λ y. nat_eq x y ≡ false) xs → In x xs → ⊥
same_differs q x [] h there = absurd there
same_differs q x (y ∷ ys) h (inl same) = false≢true (sym h.0 ∙ eq-eqb x y same)
same_differs q x (y ∷ ys) h (inr later) = same_differs q x ys h.1 later

-- two lists that share no element, one after the other
pub IsDistinct-append : (xs ys : List ℕ) → IsDistinct nat_eq xs → IsDistinct nat_eq ys → ((q : ℕ) → In q xs → In q ys → ⊥) → IsDistinct nat_eq (xs ++ ys)
unfolding IsDistinct
IsDistinct-append [] ys hx hy apart = hy
IsDistinct-append (x ∷ xs) ys hx hy apart =
    IsDistinct-cons_In x (xs ++ ys)
    (λ both. elim (In-append x xs ys both) [ inl left ↦ same_differs x x xs hx.0 left | inr right ↦ apart x (inl refl) right ])
    (IsDistinct-append xs ys hx.1 hy (λ q left right. apart q (inr left) right))

-- distinct numbers below n are at most n
pub length-le_distinct : (xs : List ℕ) (n : ℕ) → IsDistinct nat_eq xs → ((q : ℕ) → In q xs → q < n) → length xs ≤ n
length-le_distinct xs n distinct below = length-le_from_distinct_below xs n distinct (λ q h. below q (In-from_is_in q xs h))
