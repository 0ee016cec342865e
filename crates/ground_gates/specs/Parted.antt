-- Parts of disjunctions.
use Rattle.std.specs.Prelude.{◌≡◌, ℕ, ◌<◌, Bool, ◌||◌, List, [], ◌∷◌, ◌++◌, All, length}
use Rattle.ground_gates.specs.declared.gate.Gate.{Gate}
use Rattle.ground_gates.specs.declared.gate.Literal.{Literal}
use Rattle.ground_gates.specs.Gates.{literal_value}
use Rattle.ground_gates.specs.Clauses.{AreFactsBelow, HasVarsBelow, inputs_by}
use Rattle.ground_gates.specs.declared.parts.Parts.{Parts}
use Rattle.ground_gates.specs.Meaning.{some_part}

-- the inputs are those that there are, and the gates are below this one
pub record AreParts (inputs : List (List ℕ)) (below : ℕ) (p : Parts) : Type 0 where
  pub inputs_in : All (λ k. k < length inputs) p.inputs.items
  pub stack_below : All (λ k. k < below) p.stack.items

-- what an input's literal says is a part more
pub record IsWithInput (inputs : List (List ℕ)) (l : Literal) (old new : Parts) : Type 0 where
  pub says : (gates : List Gate) (w : ℕ → Bool) → some_part gates inputs w new ≡ (literal_value (inputs_by inputs w) l || some_part gates inputs w old)
  pub are : (below : ℕ) → AreParts inputs below old → AreParts inputs below new
  pub within : (n : ℕ) → AreFactsBelow n inputs → HasVarsBelow n old.literals.items → HasVarsBelow n new.literals.items

-- two gates are
pub record IsWithGates (a b : ℕ) (old new : Parts) : Type 0 where
  pub literals : new.literals ≡ old.literals
  pub inputs : new.inputs ≡ old.inputs
  pub stack : new.stack.items ≡ (old.stack.items ++ b ∷ []) ++ a ∷ []
