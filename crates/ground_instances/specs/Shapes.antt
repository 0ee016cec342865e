-- What of a formula tells its instances apart.
use Rattle.std.specs.Prelude.{◌≡◌, ℕ, ◌+◌, ◌*◌, ◌%◌, ◌^◌, Bool, true, false, ◌||◌, List, Some, cond, slice_get, slice_index_or, nat_le, nat_lt, bit_or, ◌==◌}
use Rattle.std.specs.Int.{bit_at}
use Rattle.form_formula.specs.declared.node.Node.{Node}
use Rattle.form_formula.specs.declared.node.Node.TheVariants.{Bound, Num, Str, App, Yes, No, Eq, Less, Has, Flag, Present, Not, And, Or, Exists, Forall}
use Rattle.form_formula.specs.Nodes.{Tree, term, formula, tree_of}
use Rattle.form_formula.specs.Trees.{Term, Formula, bound, num, str, app, yes, no, equal, less, has, flag, present, negation, both, either, exists, forall}
use Rattle.form_terms.specs.Parts.{quantifiers}
use Rattle.ground_instances.specs.declared.shapes.Shape.{Shape}

-- whether the variable below so many quantifiers occurs
abbrev pub occurs_in : ℕ → Term → Bool
occurs_in k (bound sort depth) = depth == k
occurs_in k (num n) = false
occurs_in k (str t) = false
occurs_in k (app f t) = occurs_in k t

abbrev pub occurs : ℕ → Formula → Bool
occurs k yes = false
occurs k no = false
occurs k (equal t u) = occurs_in k t || occurs_in k u
occurs k (less t u) = occurs_in k t || occurs_in k u
occurs k (has r t u) = occurs_in k t || occurs_in k u
occurs k (flag f t) = occurs_in k t
occurs k (present f t) = occurs_in k t
occurs k (negation a) = occurs k a
occurs k (both a b) = occurs k a || occurs k b
occurs k (either a b) = occurs k a || occurs k b
occurs k (exists sort a) = occurs k a
occurs k (forall sort a) = occurs k a

-- whether a formula in normal form has an `exists`
abbrev pub has_exists : Formula → Bool
has_exists yes = false
has_exists no = false
has_exists (equal t u) = false
has_exists (less t u) = false
has_exists (has r t u) = false
has_exists (flag f t) = false
has_exists (present f t) = false
has_exists (negation a) = false
has_exists (both a b) = has_exists a || has_exists b
has_exists (either a b) = has_exists a || has_exists b
has_exists (exists sort a) = true
has_exists (forall sort a) = has_exists a

-- whether a mask of variables has one; those that it has no place for count as in it
abbrev pub is_in : ℕ → ℕ → Bool
is_in mask k = nat_le 64 k || (bit_at mask k == 1)

-- all that occurs is in the mask
abbrev pub Covers : ℕ → (ℕ → Bool) → Type 0
Covers mask test = (k : ℕ) → test k ≡ true → is_in mask k ≡ true

-- the shape of what a number stands for
abbrev pub IsShapeOf : Tree → Shape → Type 0
IsShapeOf (term t) shape = Covers shape.variables (λ k. occurs_in k t)
IsShapeOf (formula a) shape = (shape.exists ≡ has_exists a) × (shape.quantifiers ≡ quantifiers a) × Covers shape.variables (λ k. occurs k a)

-- and of all numbers below a bound
abbrev pub AreShapes : List Node → List Shape → Type 0
AreShapes nodes shapes = (k : ℕ) (shape : Shape) → slice_get shapes k ≡ Some shape → IsShapeOf (tree_of nodes k) shape

abbrev pub plain_shape : ℕ → Shape
plain_shape variables = record { exists = false; quantifiers = 0; variables = variables }

abbrev pub shape_at : List Shape → ℕ → Shape
shape_at shapes k = slice_index_or shapes k (plain_shape 0)

-- a mask that has a variable
abbrev pub mask_of : ℕ → ℕ
mask_of k = cond (nat_lt k 64) (1 * 2 ^ k % 2 ^ 64) 0

abbrev pub shape_of_both : Shape → Shape → Shape
shape_of_both s t = record { exists = s.exists || t.exists; quantifiers = s.quantifiers + t.quantifiers; variables = bit_or s.variables t.variables }

-- the shape of a node, where what the numbers in it stand for have these shapes
abbrev pub node_shape : List Shape → Node → Shape
node_shape shapes (Bound sort depth) = plain_shape (mask_of depth)
node_shape shapes (Num n) = plain_shape 0
node_shape shapes (Str t) = plain_shape 0
node_shape shapes (App f t) = plain_shape (shape_at shapes t).variables
node_shape shapes Yes = plain_shape 0
node_shape shapes No = plain_shape 0
node_shape shapes (Eq s t) = plain_shape (bit_or (shape_at shapes s).variables (shape_at shapes t).variables)
node_shape shapes (Less s t) = plain_shape (bit_or (shape_at shapes s).variables (shape_at shapes t).variables)
node_shape shapes (Has r s t) = plain_shape (bit_or (shape_at shapes s).variables (shape_at shapes t).variables)
node_shape shapes (Flag f t) = plain_shape (shape_at shapes t).variables
node_shape shapes (Present f t) = plain_shape (shape_at shapes t).variables
node_shape shapes (Not a) = record { exists = false; quantifiers = (shape_at shapes a).quantifiers; variables = (shape_at shapes a).variables }
node_shape shapes (And a b) = shape_of_both (shape_at shapes a) (shape_at shapes b)
node_shape shapes (Or a b) = shape_of_both (shape_at shapes a) (shape_at shapes b)
node_shape shapes (Exists sort a) = record { exists = true; quantifiers = (shape_at shapes a).quantifiers + 1; variables = (shape_at shapes a).variables }
node_shape shapes (Forall sort a) =
    record { exists = (shape_at shapes a).exists; quantifiers = (shape_at shapes a).quantifiers + 1; variables = (shape_at shapes a).variables }
