-- How a `Trail` keeps its entries.
use Rattle.std.specs.Prelude.{◌≡◌, ℕ, ◌<◌, ◌≤◌, ◌^◌, Bool, List, length, Option, None, slice_index_or}
use Rattle.solve_solver.specs.declared.trail.Entry.{Entry}
use Rattle.solve_solver.specs.Trail.{IsTrail, value_in}

-- the values by variable are those of the entries, and there is room for all of them
pub record IsKept (values : List (Option Bool)) (room places : ℕ) (es : List Entry) : Type 0 where
  pub in_step : (var : ℕ) → var < length values → slice_index_or values var None ≡ value_in es var
  pub is_trail : IsTrail (length values) es
  pub few : length values < 2 ^ 32
  pub fits : length values ≤ room
  pub place_each : places ≡ length values
