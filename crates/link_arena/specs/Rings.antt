-- Lists as rings: each list is a ring of its nodes and of a number above all nodes, where it begins and ends.
use Rattle.std.specs.Prelude.{◌≡◌, ℕ, zero, suc, ◌+◌, ◌<◌, ◌^◌, nat_lt, false, List, [], ◌∷◌, length, slice_index, ⊤, if◌then◌else◌}
use Rattle.link_arena.specs.Links.{IsInjective}
use Rattle.link_arena.specs.Lists.{is_linked}

-- the nodes from `at` on up to a number that is no node, but no more than `most`
unfoldable pub walk : ℕ → ℕ → List ℕ → ℕ → List ℕ
walk zero nodes next at = []
walk (suc most) nodes next at = if nat_lt at nodes then at ∷ walk most nodes next (slice_index next at) else []

-- the lists of `count` rings, of which the first has the number `at`
unfoldable pub rings : ℕ → ℕ → List ℕ → ℕ → List (List ℕ)
rings zero nodes next at = []
rings (suc count) nodes next at = walk nodes nodes next (slice_index next at) ∷ rings count nodes next (suc at)

-- next leads from one number through the nodes of the list to the other number
unfoldable pub Leads : ℕ → List ℕ → ℕ → List ℕ → ℕ → Type 0
Leads nodes next from [] to = slice_index next from ≡ to
Leads nodes next from (x ∷ xs) to = (slice_index next from ≡ x) × (x < nodes) × Leads nodes next x xs to

-- each list is a ring; the first has the number `at`
unfoldable pub AreRings : ℕ → List ℕ → ℕ → List (List ℕ) → Type 0
AreRings nodes next at [] = ⊤
AreRings nodes next at (list ∷ lists) = Leads nodes next at list at × AreRings nodes next (suc at) lists

-- the lists stand in the rings, and every other node is a ring of its own
pub record Hold (nodes : ℕ) (next : List ℕ) (lists : List (List ℕ)) : Type 0 where
  pub size : length next ≡ nodes + length lists
  pub injective : IsInjective next
  pub are_rings : AreRings nodes next nodes lists
  pub alone : (x : ℕ) → x < nodes → is_linked x lists ≡ false → slice_index next x ≡ x

-- the rings hold lists, as many as there should be, and all numbers of nodes and lists fit
pub record AreSound (nodes lists : ℕ) (next : List ℕ) : Type 0 where
  pub hold : Hold nodes next (rings lists nodes next nodes)
  pub count : length (rings lists nodes next nodes) ≡ lists
  pub nodes_fit : nodes < 2 ^ 32
  pub lists_fit : lists < 2 ^ 32
