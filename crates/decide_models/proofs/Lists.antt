-- Lists that are made by their places.
use Rattle.std.proofs.Common.{◌≡◌, ℕ, zero, suc, ◌+◌, ◌<◌, refl, sym, ◌∙◌, List, [], ◌∷◌, Some, length, map, ap, arith, slice_get}
use Rattle.std.specs.List.{range_with_len, enumerate_from}
use Rattle.std.proofs.lemmas.List.FromFn.{get_or-map-range_with_len, length-map-range_with_len}
use Rattle.std.proofs.lemmas.Option.{slice_get-get_or}

-- two functions that agree below a number give the same list
pub range_same : {X : Type 0} (f h : ℕ → X) (a n : ℕ) → ((k : ℕ) → k < a + n → f k ≡ h k) → map f (range_with_len a n) ≡ map h (range_with_len a n)
range_same f h a zero e = refl
range_same f h a (suc n) e =
    let here : f a ≡ h a = e a (omega arith) in
    let later : map f (range_with_len (a + 1) n) ≡ map h (range_with_len (a + 1) n) = range_same f h (a + 1) n (λ k l. e k (omega (arith, l))) in cc

pub slice_get-range : {X : Type 0} (f : ℕ → X) (n k : ℕ) → k < n → slice_get (map f (range_with_len 0 n)) k ≡ Some (f k)
slice_get-range f n k lt =
    let ys = map f (range_with_len 0 n) in
    let within : k < length ys = omega (arith, length-map-range_with_len f 0 n) in
    slice_get-get_or ys k (f k) within ∙ ap (λ y. Some y) (get_or-map-range_with_len f 0 n k k (f k) lt (omega arith))

-- and so do two that agree at the items of a list with their places
pub enumerated_same : {X Y : Type 0} (f h : ℕ × X → Y) (a : ℕ) (xs : List X) → ((k : ℕ) (x : X) → slice_get xs k ≡ Some x → f (a + k, x) ≡ h (a + k, x))
    → map f (enumerate_from a xs) ≡ map h (enumerate_from a xs)
enumerated_same f h a [] e = refl
enumerated_same f h a (x ∷ xs) e =
    let none : a + 0 ≡ a = omega arith in
    let here : f (a, x) ≡ h (a, x) = sym (ap (λ n. f (n, x)) none) ∙ (e 0 x refl ∙ ap (λ n. h (n, x)) none) in
    let later : map f (enumerate_from (a + 1) xs) ≡ map h (enumerate_from (a + 1) xs) =
    enumerated_same f h (a + 1) xs (λ k y l. let sum : a + 1 + k ≡ a + suc k = omega arith in ap (λ n. f (n, y)) sum ∙ (e (suc k) y l ∙ sym (ap (λ n. h (n, y)) sum))) in cc

-- a function that looks at places alone
pub enumerated_places : {X Y : Type 0} (f : ℕ → Y) (h : ℕ × X → Y) (a : ℕ) (xs : List X) → ((p : ℕ × X) → f p.0 ≡ h p)
    → map f (range_with_len a (length xs)) ≡ map h (enumerate_from a xs)
enumerated_places f h a [] e = refl
enumerated_places f h a (x ∷ xs) e =
    let here : f a ≡ h (a, x) = e (a, x) in
    let later : map f (range_with_len (a + 1) (length xs)) ≡ map h (enumerate_from (a + 1) xs) = enumerated_places f h (a + 1) xs e in cc
