-- How many terms and nodes an instantiation has, counted without listing them.
use Rattle.std.specs.Prelude.{◌≡◌, ℕ, ◌+◌, ◌*◌, ◌<◌, List, [], ◌∷◌, cond, length, map, Option, None, Some, slice_index_or, ◌==◌}
use Rattle.form_formula.specs.declared.node.Node.{Node}
use Rattle.form_formula.specs.declared.node.Node.TheVariants.{Bound, Num, Str, App, Yes, No, Eq, Less, Has, Flag, Present, Not, And, Or, Exists, Forall}
use Rattle.form_formula.specs.declared.structure.Signature.{Signature}
use Rattle.form_formula.specs.Nodes.{Tree, term, formula}
use Rattle.form_terms.specs.Counts.{counted, sum_of, product_of, term_nodes, nodes_over}
use Rattle.form_terms.specs.GroundTerms.{source_of, target_of, is_number}
use Rattle.ground_terms.specs.declared.part.Part.{Part}
use Rattle.ground_terms.specs.declared.part.Part.TheVariants.{Existential, Universal, Named, Dependent, Literal}

-- two numbers are counted as the same
abbrev pub IsAlike : ℕ → ℕ → Type 0
IsAlike a b = counted a ≡ counted b

-- the count at a place: none where there is no place
abbrev pub count_in : List ℕ → ℕ → ℕ
count_in counts place = slice_index_or counts place 0

-- the counts of so many sorts
pub record AreCounts (sorts : ℕ) (count : ℕ → ℕ) (counts : List ℕ) : Type 0 where
  pub size : length counts ≡ sorts
  pub are : (sort : ℕ) → sort < sorts → IsAlike (count_in counts sort) (count sort)

-- this was added to the count of each sort
pub record AreRaised (added : ℕ → ℕ) (old new : List ℕ) : Type 0 where
  pub size : length new ≡ length old
  pub raised : (sort : ℕ) → sort < length old → IsAlike (count_in new sort) (count_in old sort + added sort)

module _ (count : ℕ → ℕ) where
  -- what a round adds to a sort, where so many terms of each sort are there: a function as many as its source has
  abbrev pub source_count : Option ℕ → ℕ
  source_count None = 0
  source_count (Some sort) = count sort

  abbrev pub function_count : Signature → ℕ → ℕ → ℕ
  function_count g sort h = cond (is_number (target_of g h) sort) (source_count (source_of g h)) 0

  -- and the variable of an `exists` below `forall`s of these sorts the product of what these have
  abbrev pub variable_count : ℕ → ℕ → List ℕ → ℕ
  variable_count sort own [] = 0
  variable_count sort own (s ∷ above) = cond (own == sort) (product_of (map count (s ∷ above))) 0

  abbrev pub part_count : ℕ → Part → ℕ
  part_count sort (Existential w) = variable_count sort w.sort w.above
  part_count sort (Universal s) = 0
  part_count sort (Named id n) = 0
  part_count sort (Dependent id) = 0
  part_count sort (Literal id) = 0

  abbrev pub functions_count : Signature → List ℕ → ℕ → ℕ
  functions_count g functions sort = sum_of (map (function_count g sort) functions)

  abbrev pub parts_count : List Part → ℕ → ℕ
  parts_count parts sort = sum_of (map (part_count sort) parts)

  abbrev pub round_count : Signature → List ℕ → List Part → ℕ → ℕ
  round_count g functions parts sort = functions_count g functions sort + parts_count parts sort

  -- the size of what a number stands for, where each `forall` is written out over so many terms of its sort
  abbrev pub tree_size : Tree → ℕ
  tree_size (term t) = term_nodes t
  tree_size (formula a) = nodes_over count a

  -- the size of what a node stands for, where what the numbers in it stand for have these sizes
  abbrev pub node_size : (ℕ → ℕ) → Node → ℕ
  node_size size (Bound sort depth) = 1
  node_size size (Num n) = 1
  node_size size (Str t) = 1
  node_size size (App f t) = 1 + size t
  node_size size Yes = 1
  node_size size No = 1
  node_size size (Eq s t) = 1 + (size s + size t)
  node_size size (Less s t) = 1 + (size s + size t)
  node_size size (Has r s t) = 1 + (size s + size t)
  node_size size (Flag f t) = 1 + size t
  node_size size (Present f t) = 1 + size t
  node_size size (Not a) = size a
  node_size size (And a b) = 1 + (size a + size b)
  node_size size (Or a b) = 1 + (size a + size b)
  node_size size (Exists sort a) = 1 + size a
  node_size size (Forall sort a) = 1 + count sort * size a
