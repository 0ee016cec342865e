-- What a maker does to the nodes.
use Rattle.std.specs.Prelude.{◌≡◌, ℕ, ◌+◌, ◌<◌, ◌≤◌, Bool, List, [], ◌∷◌, ◌++◌, length, take, Some, slice_get, Contains}
use Rattle.form_formula.specs.declared.node.Node.{Node}
use Rattle.form_formula.specs.Nodes.{trees_of, tree_of, tree_from, is_term, kind_at}

-- all nodes are there as before, under their numbers
abbrev pub Extends : List Node → List Node → Type 0
Extends old new = take (length old) new ≡ old

-- the number is the node's and stands for what the node names; where the node was there nothing changes, and else it goes last
pub record IsAdded (old : List Node) (node : Node) (new : List Node) (id : ℕ) : Type 0 where
  pub there : slice_get new id ≡ Some node
  pub shared : Contains old node → new ≡ old
  pub fresh : (Contains old node → ⊥) → new ≡ old ++ node ∷ []
  pub kept : Extends old new
  pub one_more : length new ≤ length old + 1
  pub means : tree_of new id ≡ tree_from (trees_of old) node
  pub kind : kind_at new id ≡ Some (is_term node)
  pub kept_kinds : (k : ℕ) (kind : Bool) → kind_at old k ≡ Some kind → kind_at new k ≡ Some kind
  pub kept_trees : (k : ℕ) → k < length old → tree_of new k ≡ tree_of old k
