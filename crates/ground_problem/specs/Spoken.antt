-- A vocabulary of a formula's instances.
use Rattle.std.specs.Prelude.{◌≡◌, Bool, true, List, Contains}
use Rattle.form_formula.specs.declared.node.Node.{Node}
use Rattle.form_formula.specs.declared.structure.Signature.{Signature}
use Rattle.form_formula.specs.Trees.{Formula}
use Rattle.form_terms.specs.GroundTerms.{GroundTerm}
use Rattle.form_tables.specs.Vocabulary.{IsVocabulary}
use Rattle.ground_instances.specs.declared.input.Input.{Input}
use Rattle.ground_instances.specs.Made.{AreInstancesOf}
use Rattle.ground_problem.specs.declared.spoken.Spoken.{Spoken}
use Rattle.ground_problem.specs.Inputs.{AreFieldsOf, IsToldInput}
use Rattle.ground_problem.specs.Words.{IsWords, vocabulary_at}

-- the instances are those of the formula over the terms; the words are a vocabulary of it, of which the inputs speak, each with the
-- number of its function at a value; and those of a closed list of terms name no more than these
pub record IsSpoken (g : Signature) (nodes : List Node) (f : Formula) (ts : List GroundTerm) (closed : Bool) (s : Spoken) : Type 0 where
  pub instances : AreInstancesOf g nodes f ts s.made
  pub words : IsWords s.made.terms s.words
  pub vocabulary : IsVocabulary g f ts (vocabulary_at s.made.terms s.words)
  pub within : closed ≡ true → (t : GroundTerm) → Contains (vocabulary_at s.made.terms s.words).named t → Contains ts t
  pub told : (i : Input) → Contains s.made.inputs i → IsToldInput g (vocabulary_at s.made.terms s.words) nodes s.made.terms i
  pub fields : AreFieldsOf s.made.terms s.made.inputs s.fields.items
