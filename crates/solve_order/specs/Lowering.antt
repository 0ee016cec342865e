-- The values after a search: each vertex is lowered, and all are raised as far as vertex 0 is lowered.
use Rattle.std.specs.Prelude.{◌≡◌, ℕ, ◌-◌, ◌^◌, ◌<◌, List, length, ℤ, pos, neg_ℤ, ◌+ℤ◌, ◌-ℤ◌, ◌≤ℤ◌}
use Rattle.solve_order.specs.declared.frontier.Reach.{Reach}
use Rattle.solve_order.specs.Difference.{value_of}
use Rattle.solve_order.specs.Reach.{reach_of}

abbrev pub moved_value : List ℤ → List Reach → ℤ → ℕ → ℤ
moved_value values reached rise v = (value_of values v -ℤ (reach_of reached v).lowered) +ℤ rise

-- each value can be moved, and then is in range
pub record CanMove (values : List ℤ) (reached : List Reach) (rise : ℤ) : Type 0 where
  pub as_long : length reached ≡ length values
  pub rise_low : pos 0 ≤ℤ rise
  pub rise_high : rise ≤ℤ pos (2 ^ 67)
  pub lowered_low : (v : ℕ) → v < length values → pos 0 ≤ℤ (reach_of reached v).lowered
  pub lowered_high : (v : ℕ) → v < length values → (reach_of reached v).lowered ≤ℤ pos (2 ^ 67)
  pub low : (v : ℕ) → v < length values → neg_ℤ (pos (2 ^ 63)) ≤ℤ moved_value values reached rise v
  pub high : (v : ℕ) → v < length values → moved_value values reached rise v ≤ℤ pos (2 ^ 63 - 1)

-- the values are moved
pub record Moves (old new : List ℤ) (reached : List Reach) (rise : ℤ) : Type 0 where
  pub as_long : length new ≡ length old
  pub moved : (v : ℕ) → v < length old → value_of new v ≡ moved_value old reached rise v
