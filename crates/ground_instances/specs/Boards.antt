-- Gates over inputs, as they are built.
use Rattle.std.specs.Prelude.{◌≡◌, ℕ, ◌<◌, Bool, List, [], ◌++◌, length}
use Rattle.form_formula.specs.declared.node.Node.{Node}
use Rattle.form_terms.specs.GroundTerms.{GroundTerm}
use Rattle.ground_terms.specs.declared.node.TermNode.{TermNode}
use Rattle.ground_terms.specs.Nodes.{Extends}
use Rattle.ground_gates.specs.declared.gate.Gate.{Gate}
use Rattle.ground_gates.specs.Gates.{value_of}
use Rattle.ground_gates.specs.Clauses.{HaveInputsBelow}
use Rattle.ground_instances.specs.declared.input.Input.{Input}
use Rattle.ground_instances.specs.declared.board.Board.{Board}
use Rattle.ground_instances.specs.GroundAtoms.{GroundAtom}
use Rattle.ground_instances.specs.Inputs.{AreInputs, AreInputsOf}

-- terms, inputs and gates are there as before, under their numbers; the inputs in gates stay below their count, and the numbers in inputs those of terms
pub record Grows (old new : Board) : Type 0 where
  pub terms : Extends old.terms new.terms
  pub more_inputs : List Input
  pub inputs : new.inputs ≡ old.inputs ++ more_inputs
  pub more_gates : List Gate
  pub gates : new.gates ≡ old.gates ++ more_gates
  pub below : HaveInputsBelow (length old.inputs) old.gates → HaveInputsBelow (length new.inputs) new.gates
  pub stand : AreInputs old.terms old.inputs → AreInputs new.terms new.inputs

-- the gate is true just where the test is, now and later, in whatever setting the inputs have the values of what they stand for
pub record Means (nodes : List Node) (board : Board) (test : (GroundTerm → Bool) → (GroundAtom → Bool) → Bool) (gate : ℕ) : Type 0 where
  pub within : gate < length board.gates
  pub is : (later : Board) (is_there : GroundTerm → Bool) (holds : GroundAtom → Bool) (v : ℕ → Bool) → Grows board later
      → AreInputsOf nodes later.terms is_there holds later.inputs v → value_of v later.gates gate ≡ test is_there holds

-- there are no inputs and no gates yet
pub record IsBlank (nodes : List TermNode) (board : Board) : Type 0 where
  pub terms : board.terms ≡ nodes
  pub inputs : board.inputs ≡ []
  pub gates : board.gates ≡ []
