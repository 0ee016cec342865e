-- Numbers of which each has one that comes next.
use Rattle.std.specs.Prelude.{◌≡◌, ℕ, ◌<◌, List, length, slice_index}

-- no two numbers have the same one next
abbrev pub IsInjective : List ℕ → Type 0
IsInjective next = (i j : ℕ) → i < length next → j < length next → slice_index next i ≡ slice_index next j → i ≡ j

-- each of the two leads back where the other came from
pub record AreInverse (next prev : List ℕ) : Type 0 where
  pub same_length : length prev ≡ length next
  pub next_below : (i : ℕ) → i < length next → slice_index next i < length next
  pub prev_below : (i : ℕ) → i < length next → slice_index prev i < length next
  pub prev_next : (i : ℕ) → i < length next → slice_index prev (slice_index next i) ≡ i
  pub next_prev : (i : ℕ) → i < length next → slice_index next (slice_index prev i) ≡ i
