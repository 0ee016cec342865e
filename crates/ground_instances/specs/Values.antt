-- Functions at values.
use Rattle.std.specs.Prelude.{◌≡◌, ℕ, List, [], ◌∷◌}
use Rattle.form_formula.specs.declared.node.Node.{Node}
use Rattle.ground_terms.specs.declared.node.TermNode.{TermNode}
use Rattle.ground_instances.specs.declared.input.Value.{Value}
use Rattle.ground_instances.specs.GroundAtoms.{GroundValue, applied_to}
use Rattle.ground_instances.specs.Inputs.{HasValue}

-- functions at a value, the last of which is the innermost
abbrev pub apply_all : List ℕ → GroundValue → GroundValue
apply_all [] v = v
apply_all (f ∷ fs) v = applied_to f (apply_all fs v)

-- the functions that are left to apply, and what is reached
pub record IsReached (nodes : List Node) (old new : List TermNode) (whole : GroundValue) (functions : List ℕ) (v : Value) : Type 0 where
  pub is : GroundValue
  pub has : HasValue nodes old new is v
  pub left : apply_all functions is ≡ whole
