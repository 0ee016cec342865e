-- A structure that was made of a table by which a formula is read over ground terms.
use Rattle.std.specs.Prelude.{◌≡◌, Bool, ℕ, true, List, Contains}
use Rattle.form_formula.specs.declared.structure.Structure.{Structure}
use Rattle.form_formula.specs.declared.structure.Signature.{Signature}
use Rattle.form_formula.specs.Trees.{Formula}
use Rattle.form_terms.specs.GroundTerms.{GroundTerm}
use Rattle.form_terms.specs.Passing.{Passes}
use Rattle.form_formula.specs.Truth.{truth}
use Rattle.form_terms.specs.Satisfying.{AreElements, SatisfiesWith, body_of, leading_sorts}
use Rattle.form_terms.specs.Structures.{IsStructure}
use Rattle.form_terms.specs.Universe.{IsClosedSet}
use Rattle.decide_verdict.specs.declared.trying.Tried.{Tried}

-- it passes the formula over the terms, and satisfies it if they are closed
pub record IsTriedOver (g : Signature) (f : Formula) (terms : List GroundTerm) (closed : Bool) (t : Tried) : Type 0 where
  pub structure : IsStructure g t.structure
  pub passes : Passes g f (Contains terms) t.structure
  pub satisfies : closed ≡ true → IsClosedSet g f (Contains terms) → SatisfiesWith g f t.structure t.picks
