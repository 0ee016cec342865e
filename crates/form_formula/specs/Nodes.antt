-- Numbered nodes, and the trees that they stand for.
use Rattle.std.specs.Prelude.{◌≡◌, ℕ, ◌<◌, Bool, true, false, List, [], ◌∷◌, ◌++◌, take, fold, Option, Some, pos, slice_get, slice_index_or}
use Rattle.std.specs.Option.{option_map}
use Rattle.form_formula.specs.declared.node.Node.{Node}
use Rattle.form_formula.specs.declared.node.Node.TheVariants.{Bound, Num, Str, App, Yes, No, Eq, Less, Has, Flag, Present, Not, And, Or, Exists, Forall}
use Rattle.form_formula.specs.Trees.{Term, bound, num, str, app, Formula, yes, no, equal, less, has, flag, present, negation, both, either, exists, forall}

-- what a node stands for
pub data Tree : Type 0 where
  term : Term → Tree
  formula : Formula → Tree

-- the term of a number; a number of no term, which no arena points to, reads as 0
abbrev pub term_part : Tree → Term
term_part (term t) = t
term_part (formula a) = num (pos 0)

-- the formula of a number; a number of no formula, which no arena points to, reads as no
abbrev pub formula_part : Tree → Formula
formula_part (term t) = no
formula_part (formula a) = a

module _ (trees : List Tree) where
  abbrev pub term_in : ℕ → Term
  term_in id = term_part (slice_index_or trees id (formula no))

  abbrev pub formula_in : ℕ → Formula
  formula_in id = formula_part (slice_index_or trees id (formula no))

  -- what a node stands for where the numbers in it have these trees
  abbrev pub tree_from : Node → Tree
  tree_from (Bound sort depth) = term (bound sort depth)
  tree_from (Num n) = term (num n)
  tree_from (Str t) = term (str t)
  tree_from (App f t) = term (app f (term_in t))
  tree_from Yes = formula yes
  tree_from No = formula no
  tree_from (Eq s t) = formula (equal (term_in s) (term_in t))
  tree_from (Less s t) = formula (less (term_in s) (term_in t))
  tree_from (Has f s t) = formula (has f (term_in s) (term_in t))
  tree_from (Flag f t) = formula (flag f (term_in t))
  tree_from (Present f t) = formula (present f (term_in t))
  tree_from (Not a) = formula (negation (formula_in a))
  tree_from (And a b) = formula (both (formula_in a) (formula_in b))
  tree_from (Or a b) = formula (either (formula_in a) (formula_in b))
  tree_from (Exists sort a) = formula (exists sort (formula_in a))
  tree_from (Forall sort a) = formula (forall sort (formula_in a))

-- what the nodes stand for, each by the trees of those before it
unfoldable pub trees_of : List Node → List Tree
trees_of nodes = fold (λ trees node. trees ++ tree_from trees node ∷ []) [] nodes

-- what a number stands for
abbrev pub tree_of : List Node → ℕ → Tree
tree_of nodes id = slice_index_or (trees_of nodes) id (formula no)

-- the term and the formula of a number
abbrev pub term_of : List Node → ℕ → Term
term_of nodes id = term_in (trees_of nodes) id

abbrev pub formula_of : List Node → ℕ → Formula
formula_of nodes id = formula_in (trees_of nodes) id

-- whether a node is a term
abbrev pub is_term : Node → Bool
is_term (Bound sort depth) = true
is_term (Num n) = true
is_term (Str t) = true
is_term (App f t) = true
is_term Yes = false
is_term No = false
is_term (Eq s t) = false
is_term (Less s t) = false
is_term (Has f s t) = false
is_term (Flag f t) = false
is_term (Present f t) = false
is_term (Not a) = false
is_term (And a b) = false
is_term (Or a b) = false
is_term (Exists sort a) = false
is_term (Forall sort a) = false

-- the number is that of a term, of a formula
abbrev pub kind_at : List Node → ℕ → Option Bool
kind_at nodes id = option_map is_term (slice_get nodes id)

abbrev pub IsTerm : List Node → ℕ → Type 0
IsTerm nodes id = kind_at nodes id ≡ Some true

abbrev pub IsFormula : List Node → ℕ → Type 0
IsFormula nodes id = kind_at nodes id ≡ Some false

-- the number stands for the formula
abbrev pub StandsFor : List Node → ℕ → Formula → Type 0
StandsFor nodes id f = IsFormula nodes id × (formula_of nodes id ≡ f)

-- the numbers in the node are those of terms and of formulas, as their places ask
abbrev pub IsPlaced : List Node → Node → Type 0
IsPlaced nodes (Bound sort depth) = Unit {0}
IsPlaced nodes (Num n) = Unit {0}
IsPlaced nodes (Str t) = Unit {0}
IsPlaced nodes (App f t) = IsTerm nodes t
IsPlaced nodes Yes = Unit {0}
IsPlaced nodes No = Unit {0}
IsPlaced nodes (Eq s t) = IsTerm nodes s × IsTerm nodes t
IsPlaced nodes (Less s t) = IsTerm nodes s × IsTerm nodes t
IsPlaced nodes (Has f s t) = IsTerm nodes s × IsTerm nodes t
IsPlaced nodes (Flag f t) = IsTerm nodes t
IsPlaced nodes (Present f t) = IsTerm nodes t
IsPlaced nodes (Not a) = IsFormula nodes a
IsPlaced nodes (And a b) = IsFormula nodes a × IsFormula nodes b
IsPlaced nodes (Or a b) = IsFormula nodes a × IsFormula nodes b
IsPlaced nodes (Exists sort a) = IsFormula nodes a
IsPlaced nodes (Forall sort a) = IsFormula nodes a

-- each node is placed among those before it
abbrev pub ArePlaced : List Node → Type 0
ArePlaced nodes = (id : ℕ) (node : Node) → slice_get nodes id ≡ Some node → IsPlaced (take id nodes) node

-- the numbers in the node are below this one
abbrev pub IsBelow : ℕ → Node → Type 0
IsBelow id (Bound sort depth) = Unit {0}
IsBelow id (Num n) = Unit {0}
IsBelow id (Str t) = Unit {0}
IsBelow id (App f t) = t < id
IsBelow id Yes = Unit {0}
IsBelow id No = Unit {0}
IsBelow id (Eq s t) = (s < id) × (t < id)
IsBelow id (Less s t) = (s < id) × (t < id)
IsBelow id (Has f s t) = (s < id) × (t < id)
IsBelow id (Flag f t) = t < id
IsBelow id (Present f t) = t < id
IsBelow id (Not a) = a < id
IsBelow id (And a b) = (a < id) × (b < id)
IsBelow id (Or a b) = (a < id) × (b < id)
IsBelow id (Exists sort a) = a < id
IsBelow id (Forall sort a) = a < id
