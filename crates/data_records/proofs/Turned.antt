-- Lists whose elements are changed one after the other.
use Rattle.std.proofs.Common.{◌≡◌, ℕ, zero, suc, ◌<◌, ◌≤◌, ◌+◌, List, [], ◌∷◌, ◌++◌, refl, ap, sym, ◌∙◌, arith, get_or, set, length, map, take, drop}

module _ {X Y : Type 0} (seen : X → Y) (turn : Y → Y) where
  -- the elements before the place are changed: where those from there on are too, all are
  abbrev pub IsTurned : List X → List X → ℕ → Type 0
  IsTurned before now i = map seen (take i now) ++ map turn (map seen (drop i now)) ≡ map turn (map seen before)

  pub none-turned : (xs : List X) → IsTurned xs xs 0
  none-turned xs = refl

  one-turned : (xs : List X) (i : ℕ) (u d : X) → i < length xs → seen u ≡ turn (seen (get_or xs i d))
      → map seen (take (suc i) (set xs i u)) ++ map turn (map seen (drop (suc i) (set xs i u))) ≡ map seen (take i xs) ++ map turn (map seen (drop i xs))
  one-turned [] i u d below is = absurd (omega arith)
  one-turned (x ∷ xs) zero u d below is = ap (λ y. y ∷ map turn (map seen xs)) is
  one-turned (x ∷ xs) (suc i) u d below is = ap (λ ys. seen x ∷ ys) (one-turned xs i u d (omega arith) is)

  pub more-turned : (before xs : List X) (i : ℕ) (u d : X) → i < length xs → seen u ≡ turn (seen (get_or xs i d)) → IsTurned before xs i → IsTurned before (set xs i u) (i + 1)
  more-turned before xs i u d below is turned =
      let on : i + 1 ≡ suc i = omega arith in
      ap (λ n. map seen (take n (set xs i u)) ++ map turn (map seen (drop n (set xs i u)))) on ∙ one-turned xs i u d below is ∙ turned

  whole : (xs : List X) (i : ℕ) → length xs ≤ i → map seen (take i xs) ++ map turn (map seen (drop i xs)) ≡ map seen xs
  whole [] zero past = refl
  whole [] (suc i) past = refl
  whole (x ∷ xs) zero past = absurd (omega arith)
  whole (x ∷ xs) (suc i) past = ap (λ ys. seen x ∷ ys) (whole xs i (omega arith))

  pub all-turned : (before xs : List X) (i : ℕ) → length xs ≤ i → IsTurned before xs i → map seen xs ≡ map turn (map seen before)
  all-turned before xs i past turned = sym (whole xs i past) ∙ turned
