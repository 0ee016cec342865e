-- The instances of a formula, as one gate.
use Rattle.std.specs.Prelude.{◌≡◌, ℕ, ◌<◌, ◌↔◌, Bool, true, List, [], length}
use Rattle.form_formula.specs.declared.node.Node.{Node}
use Rattle.form_formula.specs.declared.structure.Signature.{Signature}
use Rattle.form_formula.specs.Trees.{Formula}
use Rattle.ground_gates.specs.Clauses.{HaveInputsBelow}
use Rattle.ground_gates.specs.Gates.{value_of}
use Rattle.form_terms.specs.GroundTerms.{GroundTerm, no_terms}
use Rattle.form_terms.specs.Reading.{Reads}
use Rattle.ground_instances.specs.declared.instantiation.Instances.{Instances}
use Rattle.ground_instances.specs.declared.shapes.Shape.{Shape}
use Rattle.ground_instances.specs.declared.work.Work.{Work}
use Rattle.ground_instances.specs.Boards.{Grows}
use Rattle.ground_instances.specs.GroundAtoms.{GroundAtom, holds_at}
use Rattle.ground_instances.specs.Inputs.{AreInputs, AreInputsOf}
use Rattle.ground_terms.specs.Standing.{AreTermsAt, terms_at}
use Rattle.ground_instances.specs.declared.instance.Instance.{Instance}
use Rattle.ground_instances.specs.Instances.{IsInstance, IsReady, instance_reading}
use Rattle.ground_instances.specs.Readings.{reading}

-- the gate of the root is true just where the formula is read true over the terms, whichever terms are there and whichever atoms hold,
-- if the variables have the values of what they stand for; and all variables stand for something, by numbers of terms. The terms are those with
-- the listed numbers
pub record AreInstancesOf (g : Signature) (nodes : List Node) (f : Formula) (ts : List GroundTerm) (made : Instances) : Type 0 where
  pub there : made.root < length made.gates
  pub below : HaveInputsBelow (length made.inputs) made.gates
  pub stand : AreInputs made.terms made.inputs
  pub listed : AreTermsAt made.terms made.listed.items ts
  pub reads : (is_there : GroundTerm → Bool) (holds : GroundAtom → Bool) (v : ℕ → Bool) → AreInputsOf nodes made.terms is_there holds made.inputs v
      → (value_of v made.gates made.root ≡ true) ↔ Reads g is_there (holds_at holds) ts 0 [] no_terms f

-- the work goes on
pub record GoesOn (g : Signature) (nodes : List Node) (shapes : List Shape) (listed : List ℕ) (old new : Work) : Type 0 where
  pub ready : IsReady g nodes shapes listed new
  pub grows : Grows old.board new.board

-- the work for a root that is read as the formula
pub record IsWorkFor (g : Signature) (nodes : List Node) (shapes : List Shape) (listed : List ℕ) (ts : List GroundTerm) (f : Formula) (root : Instance) (work : Work) : Type 0 where
  pub ready : IsReady g nodes shapes listed work
  pub fits : IsInstance nodes shapes work.board.terms root
  pub terms : terms_at work.board.terms listed ≡ ts
  pub reads : (is_there : GroundTerm → Bool) (holds : GroundAtom → Bool) → instance_reading g ts nodes work.board.terms root is_there holds ≡ reading g ts is_there holds 0 [] no_terms f
  pub below : HaveInputsBelow (length work.board.inputs) work.board.gates
  pub stand : AreInputs work.board.terms work.board.inputs
