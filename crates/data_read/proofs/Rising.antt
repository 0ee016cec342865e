-- Numbers that rise: each is put into a set at its end.
use Rattle.std.proofs.Common.{◌≡◌, ◌<◌, ℕ, false, List, [], ◌∷◌, ◌++◌, refl, ap, arith}
use Rattle.std.specs.Prelude.{nat_eq, nat_lt, ◌==◌}
use Rattle.std.specs.BTreeSet.{insert_key}
use Rattle.std.specs.List.{AllByRecursion, IsDistinct}
use Rattle.std.specs.List.Sorted.{IsStrictlyIncreasing, IsStrictlySortedBy}
use Rattle.std.specs.Ordering.{nat_cmp}
use Rattle.std.specs.declared.cmp.Ordering.TheVariants.{Less}
use Rattle.std.proofs.lemmas.Bool.{le-ltb, ne_eqb}
use Rattle.std.proofs.lemmas.Bool.Decides.{nat_tests}
use Rattle.std.proofs.lemmas.Map.Keys.{sorted_from_strictly_increasing}

-- each number is below those after it
abbrev pub Rises : List ℕ → Type 0
Rises [] = Unit {0}
Rises (x ∷ xs) = AllByRecursion (λ y. x < y) xs × Rises xs

less-of : (a b : ℕ) → nat_cmp a b ≡ Less → a < b
less-of a b e = grind (arith, nat_tests, e)

all-above : (x : ℕ) (xs : List ℕ) → AllByRecursion (λ y. nat_cmp x y ≡ Less) xs → AllByRecursion (λ y. x < y) xs
all-above x [] all = tt
all-above x (y ∷ xs) all = (less-of x y all.0, all-above x xs all.1)

rises-of : (xs : List ℕ) → IsStrictlySortedBy nat_cmp xs → Rises xs
unfolding IsStrictlySortedBy
rises-of [] sorted = tt
rises-of (x ∷ xs) sorted = (all-above x xs sorted.0, rises-of xs sorted.1)

pub rises : (xs : List ℕ) → IsStrictlyIncreasing xs → Rises xs
rises xs up = rises-of xs (sorted_from_strictly_increasing xs up)

other : (x y : ℕ) → x < y → nat_eq x y ≡ false
other x y less = ne_eqb x y (λ e. omega (arith, less, e))

others : (x : ℕ) (xs : List ℕ) → AllByRecursion (λ y. x < y) xs → AllByRecursion (λ y. nat_eq x y ≡ false) xs
others x [] all = tt
others x (y ∷ xs) all = (other x y all.0, others x xs all.1)

pub rising-apart : (xs : List ℕ) → Rises xs → IsDistinct nat_eq xs
unfolding IsDistinct
rising-apart [] r = tt
rising-apart (x ∷ xs) r = (others x xs r.0, rising-apart xs r.1)

-- a number above all others is put behind them
pub put-last : (ns : List ℕ) (n : ℕ) → AllByRecursion (λ x. x < n) ns → insert_key nat_cmp ns n ≡ ns ++ n ∷ []
put-last [] n all = refl
put-last (x ∷ ns) n all =
    let below : x < n = all.0 in
    let less : nat_lt n x ≡ false = le-ltb n x (omega (arith, below)) in
    let same : (n == x) ≡ false = ne_eqb n x (λ e. omega (arith, below, e)) in
    rw (less, same) (ap (λ z. x ∷ z) (put-last ns n all.1))

all-put : (P : ℕ → Type 0) (xs ys : List ℕ) → AllByRecursion P xs → AllByRecursion P ys → AllByRecursion P (xs ++ ys)
all-put P [] ys all more = more
all-put P (x ∷ xs) ys all more = (all.0, all-put P xs ys all.1 more)

-- all before are below all that follow
abbrev pub AreBelow : List ℕ → List ℕ → Type 0
AreBelow ns xs = AllByRecursion (λ x. AllByRecursion (λ n. n < x) ns) xs

pub below-more : (ns : List ℕ) (x : ℕ) (xs : List ℕ) → AreBelow ns xs → AllByRecursion (λ y. x < y) xs → AreBelow (ns ++ x ∷ []) xs
below-more ns x [] all above = tt
below-more ns x (y ∷ xs) all above = (all-put (λ n. n < y) ns (x ∷ []) all.0 (above.0, tt), below-more ns x xs all.1 above.1)

pub none-below : (xs : List ℕ) → AreBelow [] xs
none-below [] = tt
none-below (x ∷ xs) = (tt, none-below xs)
