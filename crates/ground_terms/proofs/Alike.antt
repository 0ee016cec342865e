-- Numbers that are counted as the same.
use Rattle.std.proofs.Common.{◌≡◌, ℕ, ◌+◌, ◌*◌, ◌<◌, ◌≤◌, ◌⊎◌, inl, inr, min, sym, ◌∙◌, List, [], ◌∷◌, ◌++◌, ap, arith, lit<}
use Rattle.std.proofs.Math.Nat.{le-mul_of_pos_right}
use Rattle.form_terms.specs.Counts.{counted, sum_of, product_of}
use Rattle.form_terms.specs.Limits.{most_counted}
use Rattle.ground_terms.specs.Counting.{IsAlike}

below_or_from : (n m : ℕ) → (n < m) ⊎ (m ≤ n)
below_or_from n m = grind arith

sum_cut : (m a b c d : ℕ) → min a m ≡ min c m → min b m ≡ min d m → min (a + b) m ≡ min (c + d) m
sum_cut m a b c d p q = omega arith

-- a product that passes the last number
product_passes : (m a b : ℕ) → m ≤ a → 0 < b → m ≤ a * b
product_passes m a b p q = omega (arith, le-mul_of_pos_right {m = b} a q)

both_pass : (m x y : ℕ) → m ≤ x → m ≤ y → min x m ≡ min y m
both_pass m x y p q = omega arith

both_below : (m x y : ℕ) → x < m → min x m ≡ min y m → x ≡ y
both_below m x y p q = omega arith

stays_above : (m x y : ℕ) → m ≤ x → min x m ≡ min y m → m ≤ y
stays_above m x y p q = omega arith

zero_or_more : (n : ℕ) → (n ≡ 0) ⊎ (0 < n)
zero_or_more n = grind arith

product_cut_left : (m a b c d : ℕ) → 0 < m → m ≤ a → min a m ≡ min c m → min b m ≡ min d m → min (a * b) m ≡ min (c * d) m
product_cut_left m a b c d pos big p q =
    elim (zero_or_more b) [
      | inl none ↦
          let none' : d ≡ 0 = omega (arith, none) in
          let x : a * b ≡ 0 = omega (arith, ap (λ n. a * n) none) in
          let y : c * d ≡ 0 = omega (arith, ap (λ n. c * n) none') in
          omega (arith, x, y)
      | inr some ↦
          let some' : 0 < d = omega (arith, some) in
          both_pass m (a * b) (c * d) (product_passes m a b big some) (product_passes m c d (stays_above m a c big p) some')
    ]

product_cut : (m a b c d : ℕ) → 0 < m → min a m ≡ min c m → min b m ≡ min d m → min (a * b) m ≡ min (c * d) m
product_cut m a b c d pos p q =
    elim (below_or_from a m) [
      | inr big ↦ product_cut_left m a b c d pos big p q
      | inl small ↦ elim (below_or_from b m) [
        | inr big ↦
            let swap : a * b ≡ b * a = omega arith in
            let swap' : c * d ≡ d * c = omega arith in
            ap (λ n. min n m) swap ∙ (product_cut_left m b a d c pos big q p ∙ sym (ap (λ n. min n m) swap'))
        | inl small' ↦
            let e : a ≡ c = both_below m a c small p in
            let e' : b ≡ d = both_below m b d small' q in
            cc
      ]
    ]

pub alike_sum : (a b c d : ℕ) → IsAlike a c → IsAlike b d → IsAlike (a + b) (c + d)
alike_sum a b c d p q = sum_cut most_counted a b c d p q

pub alike_product : (a b c d : ℕ) → IsAlike a c → IsAlike b d → IsAlike (a * b) (c * d)
alike_product a b c d p q = product_cut most_counted a b c d (lit< tt) p q

cut_again : (m n : ℕ) → min (min n m) m ≡ min n m
cut_again m n = omega arith

-- a number that was cut
pub alike_cut : (n : ℕ) → IsAlike (counted n) n
alike_cut n = cut_again most_counted n

pub sum_of-append : (xs ys : List ℕ) → sum_of (xs ++ ys) ≡ sum_of xs + sum_of ys
sum_of-append [] ys = omega arith
sum_of-append (x ∷ xs) ys = omega (arith, sum_of-append xs ys)

pub product_of-append : (xs ys : List ℕ) → product_of (xs ++ ys) ≡ product_of xs * product_of ys
product_of-append [] ys = omega arith
product_of-append (x ∷ xs) ys = ap (λ n. x * n) (product_of-append xs ys) ∙ regroup x (product_of xs) (product_of ys)
  where
    regroup : (a b c : ℕ) → a * (b * c) ≡ a * b * c
    regroup a b c = omega arith

cut_small : (m n : ℕ) → n ≤ m → min n m ≡ n
cut_small m n h = omega arith

-- a number that is not cut
pub counted-small : (n : ℕ) → n ≤ most_counted → counted n ≡ n
counted-small n h = cut_small most_counted n h
