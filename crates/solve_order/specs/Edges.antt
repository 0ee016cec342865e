-- The literals as edges of a graph: x - y <= c leads from y to x.
use Rattle.std.specs.Prelude.{◌≡◌, ◌≢◌, ℕ, ◌-◌, ◌^◌, ◌<◌, ◌≤◌, List, length, pos, IsTrue, slice_index, slice_index_or}
use Rattle.solve_order.specs.declared.diff.Diff.{Diff}
use Rattle.solve_order.specs.Difference.{is_literal}

-- the literal at position p
abbrev pub literal_at : List Diff → ℕ → Diff
literal_at literals p = slice_index_or literals p (record { x = 0; y = 0; c = pos 0 })

-- `last` is one more than the position of the last of the first n literals that leads from v, or 0 where none does
pub record IsLastFrom (literals : List Diff) (n v last : ℕ) : Type 0 where
  pub below : last ≤ n
  pub leads : 0 < last → (literal_at literals (last - 1)).y ≡ v
  pub none_after : (k : ℕ) → last ≤ k → k < n → (literal_at literals k).y ≢ v

-- each literal is linked with the last one before it from the same vertex, and each vertex with the last one from it
pub record IsLinked (literals : List Diff) (earlier latest : List ℕ) : Type 0 where
  pub as_long : length earlier ≡ length literals
  pub literals_fit : (p : ℕ) → p < length literals → IsTrue (is_literal (length latest) (literal_at literals p))
  pub chained : (p : ℕ) → p < length literals → IsLastFrom literals p (literal_at literals p).y (slice_index earlier p)
  pub headed : (v : ℕ) → v < length latest → IsLastFrom literals (length literals) v (slice_index latest v)

-- the literals are within their limit, for which there is room, and numbers of 32 bits serve for all
pub record HasRoom (literals vertices limit room room_earlier : ℕ) : Type 0 where
  pub within : literals ≤ limit
  pub literals_short : limit < 2 ^ 32
  pub vertices_short : vertices < 2 ^ 32
  pub fits : limit ≤ room
  pub fits_earlier : limit ≤ room_earlier
