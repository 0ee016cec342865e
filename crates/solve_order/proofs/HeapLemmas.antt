-- Steps of a binary heap, seen as a function from places to keys.
use Rattle.std.proofs.Common.{◌≡◌, ◌≢◌, ℕ, zero, suc, ◌+◌, ◌*◌, ◌-◌, ◌/◌, ◌<◌, ◌≤◌, ℤ, ◌≤ℤ◌, ⊎_elim, arith, ap, ◌∙◌}
use Rattle.std.proofs.lemmas.Int.{ints}
use Rattle.std.proofs.lemmas.Bool.{cases_eq}
use Rattle.std.proofs.lemmas.List.Edits.{Swapped}
use Rattle.solve_order.specs.Reach.{IsHeap, IsAlmostHeapAbove, IsAlmostHeapBelow}

module _ (f g : ℕ → ℤ) (n : ℕ) where
  -- the key at `at` goes up to its parent
  pub up_step : (at p : ℕ) → Swapped f g at p → 2 * p < at → at ≤ 2 * p + 2 → at < n → IsAlmostHeapAbove f n at → f p ≤ℤ f at → IsAlmostHeapAbove g n p
  up_step at p s low high within h le = record {
    elsewhere = λ q i b1 b2 b3 ne.
        ⊎_elim
        (λ (e : i ≡ at). let e2 : q ≡ p = omega arith in let x : g i ≡ f p = ap g e ∙ s.0 in let y : g q ≡ f at = ap g e2 ∙ s.1 in omega (arith, ints))
        (λ (ne2 : i ≢ at). let x = s.2 i ne2 ne in
        ⊎_elim
        (λ (e : q ≡ at). let y : g q ≡ f p = ap g e ∙ s.0 in let z = h.across p i low high (omega arith) (omega arith) b3 in omega (arith, ints))
        (λ (ne3 : q ≢ at). ⊎_elim
        (λ (e : q ≡ p). let y : g q ≡ f at = ap g e ∙ s.1 in let z = h.elsewhere p i (omega arith) (omega arith) b3 ne2 in omega (arith, ints))
        (λ (ne4 : q ≢ p). let y = s.2 q ne3 ne4 in let z = h.elsewhere q i b1 b2 b3 ne2 in omega (arith, ints))
        (cases_eq q p))
        (cases_eq q at))
        (cases_eq i at);
    across = λ q i b1 b2 b3 b4 b5.
        let y = s.2 q (omega arith) (omega arith) in
        let z = h.elsewhere q p b1 b2 (omega arith) (omega arith) in
        ⊎_elim
        (λ (e : i ≡ at). let x : g i ≡ f p = ap g e ∙ s.0 in omega (arith, ints))
        (λ (ne : i ≢ at). let x = s.2 i ne (omega arith) in let w = h.elsewhere p i b3 b4 b5 ne in omega (arith, ints))
        (cases_eq i at);
  }

  -- the key at `at` goes down to the greater one of its children
  pub down_step : (at c : ℕ) → Swapped f g at c → 2 * at < c → c ≤ 2 * at + 2 → c < n → IsAlmostHeapBelow f n at → ((i : ℕ) → 2 * at < i → i ≤ 2 * at + 2 → i < n → f i ≤ℤ f c) → f at ≤ℤ f c → IsAlmostHeapBelow g n c
  down_step at c s low high within h best le = record {
    elsewhere = λ q i b1 b2 b3 ne.
        ⊎_elim
        (λ (e : i ≡ at). let x : g i ≡ f c = ap g e ∙ s.0 in let y = s.2 q (omega arith) ne in let z = h.across q c (omega arith) (omega arith) low high within in omega (arith, ints))
        (λ (ne2 : i ≢ at). ⊎_elim
        (λ (e : i ≡ c). let e2 : q ≡ at = omega arith in let x : g i ≡ f at = ap g e ∙ s.1 in let y : g q ≡ f c = ap g e2 ∙ s.0 in omega (arith, ints))
        (λ (ne3 : i ≢ c). let x = s.2 i ne2 ne3 in
        ⊎_elim
        (λ (e : q ≡ at). let y : g q ≡ f c = ap g e ∙ s.0 in let z = best i (omega arith) (omega arith) b3 in omega (arith, ints))
        (λ (ne4 : q ≢ at). let y = s.2 q ne4 ne in let z = h.elsewhere q i b1 b2 b3 ne4 in omega (arith, ints))
        (cases_eq q at))
        (cases_eq i c))
        (cases_eq i at);
    across = λ q i b1 b2 b3 b4 b5.
        let e : q ≡ at = omega arith in
        let y : g q ≡ f c = ap g e ∙ s.0 in
        let x = s.2 i (omega arith) (omega arith) in
        let z = h.elsewhere c i b3 b4 b5 (omega arith) in
        omega (arith, ints);
  }

  -- the last key is exchanged with the first, and left out
  pub down_start : (m : ℕ) → n ≡ m + 1 → Swapped f g 0 m → IsHeap f n → IsAlmostHeapBelow g m 0
  down_start m e s h = record {
    elsewhere = λ q i b1 b2 b3 ne.
        let x = s.2 i (omega arith) (omega arith) in
        let y = s.2 q ne (omega arith) in
        let z = h q i b1 b2 (omega arith) in
        omega (arith, ints);
    across = λ q i b1 b2 b3 b4 b5. absurd (omega arith);
  }

-- a key in a heap grows
pub up_start : (f g : ℕ → ℤ) (n at : ℕ) → IsHeap f n → ((i : ℕ) → i < n → i ≢ at → g i ≡ f i) → at < n → f at ≤ℤ g at → IsAlmostHeapAbove g n at
up_start f g n at h same at_within grows = record {
  elsewhere = λ p i b1 b2 b3 ne.
      let x = same i b3 ne in
      let z = h p i b1 b2 b3 in
      ⊎_elim
      (λ (e : p ≡ at). let y : g p ≡ g at = ap g e in let w : f p ≡ f at = ap f e in omega (arith, ints))
      (λ (ne2 : p ≢ at). let y = same p (omega arith) ne2 in omega (arith, ints))
      (cases_eq p at);
  across = λ p i b1 b2 b3 b4 b5.
      let x = same i b5 (omega arith) in
      let y = same p (omega arith) (omega arith) in
      let z = h p at b1 b2 at_within in
      let w = h at i b3 b4 b5 in
      omega (arith, ints);
}

-- no key in a heap is greater than the first
first_is_greatest : (f : ℕ → ℤ) (n k i : ℕ) → IsHeap f n → i ≤ k → i < n → f i ≤ℤ f 0
first_is_greatest f n zero i h le within = let e : i ≡ 0 = omega arith in let x : f i ≡ f 0 = ap f e in omega (arith, ints)
first_is_greatest f n (suc k) i h le within =
    ⊎_elim
    (λ (e : i ≡ 0). let x : f i ≡ f 0 = ap f e in omega (arith, ints))
    (λ (ne : i ≢ 0).
    let z = h ((i - 1) / 2) i (omega arith) (omega arith) within in
    let w = first_is_greatest f n k ((i - 1) / 2) h (omega arith) (omega arith) in
    omega (arith, ints))
    (cases_eq i 0)

pub greatest_at_first : (f : ℕ → ℤ) (n i : ℕ) → IsHeap f n → i < n → f i ≤ℤ f 0
greatest_at_first f n i h within = first_is_greatest f n i i h (omega arith) within

-- one more key after those of a heap
pub up_new : (f g : ℕ → ℤ) (n : ℕ) → IsHeap f n → ((i : ℕ) → i < n → g i ≡ f i) → IsAlmostHeapAbove g (n + 1) n
up_new f g n h same = record {
  elsewhere = λ p i b1 b2 b3 ne.
      let x = same i (omega arith) in
      let y = same p (omega arith) in
      let z = h p i b1 b2 (omega arith) in
      omega (arith, ints);
  across = λ p i b1 b2 b3 b4 b5. absurd (omega arith);
}

-- other keys that are the same below n
pub IsHeap-same : (f g : ℕ → ℤ) (n : ℕ) → IsHeap f n → ((i : ℕ) → i < n → g i ≡ f i) → IsHeap g n
IsHeap-same f g n h same p i b1 b2 b3 =
    let x = same i b3 in
    let y = same p (omega arith) in
    let z = h p i b1 b2 b3 in
    omega (arith, ints)
