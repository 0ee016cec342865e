-- What a search knows of the vertices, and how it keeps those in order that it has reached.
use Rattle.std.specs.Prelude.{◌≡◌, ◌≢◌, ℕ, ◌+◌, ◌-◌, ◌*◌, ◌<◌, ◌≤◌, List, length, ℤ, pos, ◌<ℤ◌, ◌≤ℤ◌, slice_index, slice_index_or, slice_set}
use Rattle.solve_order.specs.declared.frontier.TheConstants.{UNSETTLED}
use Rattle.solve_order.specs.declared.frontier.Reach.{Reach}

-- a vertex to which the search has not come
abbrev pub unreached : Reach
unreached = record { lowered = pos 0; rank = UNSETTLED; from = 0; via = 0 }

abbrev pub reach_of : List Reach → ℕ → Reach
reach_of reached v = slice_index_or reached v unreached

-- by how much the vertex at place i of an order is lowered
abbrev pub lowered_at : List Reach → List ℕ → ℕ → ℤ
lowered_at reached order i = (reach_of reached (slice_index order i)).lowered

-- among the first n places none has a greater key than its parent: p is the parent of 2 p + 1 and 2 p + 2
abbrev pub IsHeap : (ℕ → ℤ) → ℕ → Type 0
IsHeap key n = (p i : ℕ) → 2 * p < i → i ≤ 2 * p + 2 → i < n → key i ≤ℤ key p

-- the same, but that the key at `at` may be greater than those above it
pub record IsAlmostHeapAbove (key : ℕ → ℤ) (n at : ℕ) : Type 0 where
  pub elsewhere : (p i : ℕ) → 2 * p < i → i ≤ 2 * p + 2 → i < n → i ≢ at → key i ≤ℤ key p
  pub across : (p i : ℕ) → 2 * p < at → at ≤ 2 * p + 2 → 2 * at < i → i ≤ 2 * at + 2 → i < n → key i ≤ℤ key p

-- the same, but that the keys just below `at` may be greater than the one there
pub record IsAlmostHeapBelow (key : ℕ → ℤ) (n at : ℕ) : Type 0 where
  pub elsewhere : (p i : ℕ) → 2 * p < i → i ≤ 2 * p + 2 → i < n → p ≢ at → key i ≤ℤ key p
  pub across : (p i : ℕ) → 2 * p < at → at ≤ 2 * p + 2 → 2 * at < i → i ≤ 2 * at + 2 → i < n → key i ≤ℤ key p

-- what stood at the first n places still does, and what stood beyond stands where it did
pub record KeepsBeyond (n : ℕ) (old new : List ℕ) : Type 0 where
  pub as_long : length new ≡ length old
  pub within : (v : ℕ) → v < length old → slice_index old v < n → slice_index new v < n
  pub beyond : (v : ℕ) → v < length old → n ≤ slice_index old v → slice_index new v ≡ slice_index old v

-- no vertex waits to be settled
abbrev pub IsExplored : List Reach → Type 0
IsExplored reached = (v : ℕ) → v < length reached → (reach_of reached v).rank ≡ UNSETTLED → (reach_of reached v).lowered ≡ pos 0

-- v waited, was lowered most of those that are not settled, and is now settled after all others
pub record SettlesLowest (old new : List Reach) (v : ℕ) : Type 0 where
  pub within : v < length old
  pub waited : (reach_of old v).rank ≡ UNSETTLED
  pub lowered : pos 0 <ℤ (reach_of old v).lowered
  pub lowest : (u : ℕ) → u < length old → (reach_of old u).rank ≡ UNSETTLED → (reach_of old u).lowered ≤ℤ (reach_of old v).lowered
  pub after : (u : ℕ) → u < length old → (reach_of old u).rank ≢ UNSETTLED → (reach_of old u).rank < (reach_of new v).rank
  pub ranked : (reach_of new v).rank < UNSETTLED
  pub settled : new ≡ slice_set old v (record (reach_of old v) { rank = (reach_of new v).rank })

-- first in order are the vertices that wait, then the settled ones, and then those not reached
pub record IsGrouped (reached : List Reach) (places : List ℕ) (waiting touched : ℕ) : Type 0 where
  pub waits : (v : ℕ) → v < length reached → slice_index places v < waiting → (pos 0 <ℤ (reach_of reached v).lowered) × ((reach_of reached v).rank ≡ UNSETTLED)
  pub settled : (v : ℕ) → v < length reached → waiting ≤ slice_index places v → slice_index places v < touched → (pos 0 <ℤ (reach_of reached v).lowered) × ((reach_of reached v).rank < touched - waiting)
  pub beyond : (v : ℕ) → v < length reached → touched ≤ slice_index places v → reach_of reached v ≡ unreached

-- so they are, and those that wait are a heap
pub record IsFrontier (reached : List Reach) (order places : List ℕ) (waiting touched : ℕ) : Type 0 where
  pub as_long : length reached ≡ length order
  pub waiting_below : waiting ≤ touched
  pub touched_below : touched ≤ length order
  pub heap : IsHeap (lowered_at reached order) waiting
  pub grouped : IsGrouped reached places waiting touched

-- v joins those that wait as their last, and no other vertex changes its group
pub record JoinsWaiting (waiting touched : ℕ) (items places items' places' : List ℕ) (v : ℕ) : Type 0 where
  pub as_long : length items' ≡ length items
  pub joined : slice_index places' v ≡ waiting
  pub item : slice_index items' waiting ≡ v
  pub items_stay : (i : ℕ) → i < waiting → slice_index items' i ≡ slice_index items i
  pub waiting_stay : (u : ℕ) → u < length items → slice_index places u < waiting → slice_index places' u ≡ slice_index places u
  pub settled_stay : (u : ℕ) → u < length items → waiting ≤ slice_index places u → slice_index places u < touched → (waiting < slice_index places' u) × (slice_index places' u ≤ touched)
  pub others_stay : (u : ℕ) → u < length items → u ≢ v → touched ≤ slice_index places u → touched < slice_index places' u
