-- Numbered ground terms, and what the numbers stand for.
use Rattle.std.specs.Prelude.{◌≡◌, ℕ, ◌<◌, Bool, true, false, List, [], ◌∷◌, ◌++◌, take, fold, Option, Some, slice_get, slice_index_or}
use Rattle.std.specs.Option.{option_map}
use Rattle.form_terms.specs.GroundTerms.{GroundTerm, GroundTerms, constant, skolem, field, no_terms, term_and}
use Rattle.ground_terms.specs.declared.node.TermNode.{TermNode}
use Rattle.ground_terms.specs.declared.node.TermNode.TheVariants.{Constant, Skolem, Field, Empty, Cons}

-- what a node stands for: a term, or a list of terms
pub data TermTree : Type 0 where
  one : GroundTerm → TermTree
  some : GroundTerms → TermTree

-- the term of a number; a number of no term, which no arena points to, reads as a constant
abbrev pub term_part : TermTree → GroundTerm
term_part (one t) = t
term_part (some ts) = constant 0

-- the list of a number; a number of no list, which no arena points to, reads as the one without terms
abbrev pub list_part : TermTree → GroundTerms
list_part (one t) = no_terms
list_part (some ts) = ts

module _ (trees : List TermTree) where
  abbrev pub term_in : ℕ → GroundTerm
  term_in id = term_part (slice_index_or trees id (some no_terms))

  abbrev pub list_in : ℕ → GroundTerms
  list_in id = list_part (slice_index_or trees id (some no_terms))

  -- what a node stands for where the numbers in it have these trees
  abbrev pub tree_from : TermNode → TermTree
  tree_from (Constant sort) = one (constant sort)
  tree_from (Skolem number sort ts) = one (skolem number sort (list_in ts))
  tree_from (Field h t) = one (field h (term_in t))
  tree_from Empty = some no_terms
  tree_from (Cons t ts) = some (term_and (term_in t) (list_in ts))

-- what the nodes stand for, each by the trees of those before it
unfoldable pub trees_of : List TermNode → List TermTree
trees_of nodes = fold (λ trees node. trees ++ tree_from trees node ∷ []) [] nodes

-- what a number stands for
abbrev pub tree_of : List TermNode → ℕ → TermTree
tree_of nodes id = slice_index_or (trees_of nodes) id (some no_terms)

-- the term and the list of a number
abbrev pub term_of : List TermNode → ℕ → GroundTerm
term_of nodes id = term_in (trees_of nodes) id

abbrev pub list_of : List TermNode → ℕ → GroundTerms
list_of nodes id = list_in (trees_of nodes) id

-- whether a node is a term
abbrev pub is_one : TermNode → Bool
is_one (Constant sort) = true
is_one (Skolem number sort ts) = true
is_one (Field h t) = true
is_one Empty = false
is_one (Cons t ts) = false

-- the number is that of a term, of a list
abbrev pub kind_at : List TermNode → ℕ → Option Bool
kind_at nodes id = option_map is_one (slice_get nodes id)

abbrev pub IsOne : List TermNode → ℕ → Type 0
IsOne nodes id = kind_at nodes id ≡ Some true

abbrev pub IsList : List TermNode → ℕ → Type 0
IsList nodes id = kind_at nodes id ≡ Some false

-- the numbers in the node are those of terms and of lists, as their places ask
abbrev pub IsPlaced : List TermNode → TermNode → Type 0
IsPlaced nodes (Constant sort) = Unit {0}
IsPlaced nodes (Skolem number sort ts) = IsList nodes ts
IsPlaced nodes (Field h t) = IsOne nodes t
IsPlaced nodes Empty = Unit {0}
IsPlaced nodes (Cons t ts) = IsOne nodes t × IsList nodes ts

-- each node is placed among those before it
abbrev pub ArePlaced : List TermNode → Type 0
ArePlaced nodes = (id : ℕ) (node : TermNode) → slice_get nodes id ≡ Some node → IsPlaced (take id nodes) node

-- the numbers in the node are below this one
abbrev pub IsBelow : ℕ → TermNode → Type 0
IsBelow id (Constant sort) = Unit {0}
IsBelow id (Skolem number sort ts) = ts < id
IsBelow id (Field h t) = t < id
IsBelow id Empty = Unit {0}
IsBelow id (Cons t ts) = (t < id) × (ts < id)

-- no node stands twice
abbrev pub AreOnce : List TermNode → Type 0
AreOnce nodes = (i j : ℕ) (node : TermNode) → slice_get nodes i ≡ Some node → slice_get nodes j ≡ Some node → i ≡ j

-- all nodes are there as before, under their numbers
pub record Extends (old new : List TermNode) : Type 0 where
  pub more : List TermNode
  pub whole : new ≡ old ++ more

-- the number stands for what the node names, and all nodes are there as before
pub record IsAdded (old : List TermNode) (node : TermNode) (new : List TermNode) (id : ℕ) : Type 0 where
  pub there : slice_get new id ≡ Some node
  pub kept : Extends old new
  pub means : tree_of new id ≡ tree_from (trees_of old) node
  pub kind : kind_at new id ≡ Some (is_one node)
