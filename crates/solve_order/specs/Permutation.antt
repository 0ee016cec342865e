-- The numbers below a bound in some order.
use Rattle.std.specs.Prelude.{◌≡◌, ◌≢◌, ℕ, ◌^◌, ◌<◌, List, length, slice_index}
use Rattle.std.specs.List.{swap}

-- `items` has each number below its length once, and `places` says where
pub record IsPaired (items places : List ℕ) : Type 0 where
  pub short : length items < 2 ^ 32
  pub as_long : length places ≡ length items
  pub item_at : (i : ℕ) → i < length items → (slice_index items i < length items) × (slice_index places (slice_index items i) ≡ i)
  pub place_of : (v : ℕ) → v < length items → (slice_index places v < length items) × (slice_index items (slice_index places v) ≡ v)

-- the numbers at the places i and j are exchanged
pub record Exchanges (i j : ℕ) (items places items' places' : List ℕ) : Type 0 where
  pub swapped : items' ≡ swap items i j
  pub first : slice_index places' (slice_index items i) ≡ j
  pub second : slice_index places' (slice_index items j) ≡ i
  pub others : (v : ℕ) → v ≢ slice_index items i → v ≢ slice_index items j → slice_index places' v ≡ slice_index places v
