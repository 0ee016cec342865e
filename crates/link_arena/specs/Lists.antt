-- Lists of nodes, and what the calls do to them.
use Rattle.std.specs.Prelude.{ℕ, nat_eq, Bool, not, List, [], ◌∷◌, ◌++◌, map, filter, find, Option, None, unwrap_or, slice_set, slice_index_or, if◌then◌else◌}
use Rattle.std.specs.List.{list_any, slice_get, concat, IsDistinct}

-- numbered lists, over nodes that are numbered from 0 too
pub record Lists : Type 0 where
  pub nodes : ℕ
  pub lists : List (List ℕ)

-- the list of this number
abbrev pub list_at : List (List ℕ) → ℕ → List ℕ
list_at lists list = slice_index_or lists list []

-- whether the node is in a list
abbrev pub is_in : ℕ → List ℕ → Bool
is_in node list = list_any (nat_eq node) list

-- whether the node is in one of the lists
abbrev pub is_linked : ℕ → List (List ℕ) → Bool
is_linked node lists = list_any (is_in node) lists

-- no node is in two lists, and none stands twice in one
abbrev pub EachOnce : List (List ℕ) → Type 0
EachOnce lists = IsDistinct nat_eq (concat lists)

-- the lists once the node is put at the end of one of them
abbrev pub pushed : ℕ → ℕ → List (List ℕ) → List (List ℕ)
pushed list node lists = slice_set lists list (list_at lists list ++ node ∷ [])

-- a list with the node taken out
abbrev pub without : ℕ → List ℕ → List ℕ
without node list = filter (λ other. not (nat_eq node other)) list

-- the lists once the node is taken out of its list
abbrev pub unlinked : ℕ → List (List ℕ) → List (List ℕ)
unlinked node lists = map (without node) lists

-- the node behind this one in a list
abbrev pub next_in : ℕ → List ℕ → Option ℕ
next_in node [] = None
next_in node (other ∷ rest) = if nat_eq node other then slice_get rest 0 else next_in node rest

-- the node behind this one in its list
abbrev pub next_of : ℕ → List (List ℕ) → Option ℕ
next_of node lists = next_in node (unwrap_or (find (is_in node) lists) [])
