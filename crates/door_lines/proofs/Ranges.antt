-- Ranges of a list.
use Rattle.std.proofs.Common.{◌≡◌, ℕ, ◌+◌, ◌-◌, ◌≤◌, List, [], ◌++◌, length, take, drop, refl, sym, ap, ◌∙◌, arith}
use Rattle.std.specs.Prelude.{slice_range}
use Rattle.std.proofs.lemmas.List.{take-append-drop, drop-drop, drop-take, take-take, length-take, length-drop}

module _ {X : Type 0} (xs : List X) where
  pub size_range : (a b : ℕ) → a ≤ b → b ≤ length xs → length (slice_range xs a b) ≡ b - a
  size_range a b ordered within = omega (arith, length-take (b - a) (drop a xs), length-drop a xs)

  pub take_range : (a b k : ℕ) → a + k ≤ b → take k (slice_range xs a b) ≡ slice_range xs a (a + k)
  take_range a b k within =
      let e : k ≡ a + k - a = omega arith in
      take-take k (b - a) (drop a xs) (omega arith) ∙ ap (λ n. take n (drop a xs)) e

  pub drop_range : (a b k : ℕ) → a + k ≤ b → drop k (slice_range xs a b) ≡ slice_range xs (a + k) b
  drop_range a b k within =
      let e : b - a ≡ k + (b - (a + k)) = omega arith in
      ap (λ n. drop k (take n (drop a xs))) e ∙ drop-take k (b - (a + k)) (drop a xs) ∙ ap (take (b - (a + k))) (drop-drop k a xs)

  pub split_range : (a m b : ℕ) → a ≤ m → m ≤ b → slice_range xs a b ≡ slice_range xs a m ++ slice_range xs m b
  split_range a m b low high =
      let e : a + (m - a) ≡ m = omega arith in
      let front = take_range a b (m - a) (omega arith) ∙ ap (slice_range xs a) e in
      let back = drop_range a b (m - a) (omega arith) ∙ ap (λ n. slice_range xs n b) e in
      sym (take-append-drop (m - a) (slice_range xs a b))
      ∙ ap (λ l. l ++ drop (m - a) (slice_range xs a b)) front
      ∙ ap (λ l. slice_range xs a m ++ l) back

  pub empty_range : (a b : ℕ) → b ≤ a → slice_range xs a b ≡ []
  empty_range a b past = let e : b - a ≡ 0 = omega arith in ap (λ n. take n (drop a xs)) e

  range_of_front : (a b : ℕ) → a ≤ b → slice_range xs a b ≡ drop a (take b xs)
  range_of_front a b ordered =
      let e : a + (b - a) ≡ b = omega arith in
      sym (drop-take a (b - a) xs) ∙ ap (λ n. drop a (take n xs)) e

-- lists with one front have the same ranges in it
pub kept_range : {X : Type 0} (xs ys : List X) (a b : ℕ) → a ≤ b → take b ys ≡ take b xs → slice_range ys a b ≡ slice_range xs a b
kept_range xs ys a b ordered same = range_of_front ys a b ordered ∙ ap (drop a) same ∙ sym (range_of_front xs a b ordered)
