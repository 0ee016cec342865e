-- What was found of a vocabulary for instances.
use Rattle.std.specs.Prelude.{◌≡◌, ℕ, Bool, List, Contains}
use Rattle.std.specs.List.{flat_map}
use Rattle.form_formula.specs.declared.node.Node.{Node}
use Rattle.form_formula.specs.declared.structure.Signature.{Signature}
use Rattle.form_terms.specs.GroundTerms.{GroundTerm}
use Rattle.ground_terms.specs.declared.node.TermNode.{TermNode}
use Rattle.ground_terms.specs.declared.part.Variable.{Variable}
use Rattle.ground_terms.specs.Standing.{AreOnes, terms_at}
use Rattle.form_tables.specs.Vocabulary.{IsOther, only}
use Rattle.ground_instances.specs.declared.input.Input.{Input}
use Rattle.ground_instances.specs.declared.instantiation.Instances.{Instances}
use Rattle.ground_problem.specs.declared.telling.Telling.{Telling}
use Rattle.ground_problem.specs.declared.words.Words.{Words}
use Rattle.ground_instances.specs.Inputs.{AreInputs}
use Rattle.ground_problem.specs.Inputs.{AddsFields, IsToldInput, pairs_in}
use Rattle.ground_problem.specs.Telling.{AreSorted, IsFine, IsTelling, told_so_far}
use Rattle.ground_problem.specs.Words.{vocabulary_at}

module _ (g : Signature) (arena : List Node) (variables : List Variable) (closed : Bool) (nodes : List TermNode) (listed : List ℕ) (inputs : List Input) where
  -- the listed terms name elements, if they have sorts, and the inputs speak of the terms that were found
  pub record IsTellingFor (t : Telling) : Type 0 where
    pub telling : IsTelling g variables (terms_at nodes listed) closed nodes t
    pub ranged : AreSorted g nodes listed → (u : GroundTerm) → Contains (terms_at nodes listed) u → Contains (terms_at nodes t.named.items) u
    pub told : (i : Input) → Contains inputs i → IsToldInput g (told_so_far nodes t) arena nodes i

  -- the same of words, with the pairs of which inputs speak
  pub record AreWordsFor (w : Words) : Type 0 where
    pub ones : AreOnes nodes w.named.items
    pub other_ones : AreOnes nodes w.others.items
    pub fine : (u : GroundTerm) → Contains (terms_at nodes w.named.items) u → IsFine g variables (terms_at nodes listed) closed (terms_at nodes w.named.items) u
    pub functions : (u : GroundTerm) → Contains (terms_at nodes w.others.items) u → IsOther g (only (terms_at nodes w.named.items)) u
    pub ranged : AreSorted g nodes listed → (u : GroundTerm) → Contains (terms_at nodes listed) u → Contains (terms_at nodes w.named.items) u
    pub told : (i : Input) → Contains inputs i → IsToldInput g (vocabulary_at nodes w) arena nodes i
    pub pairs : w.pairs.items ≡ flat_map pairs_in inputs

-- words of which the inputs of instances speak, whose functions at values were added
pub record AreSpokenBy (g : Signature) (arena : List Node) (variables : List Variable) (closed : Bool) (old new : Instances) (w : Words) (fields : List ℕ) : Type 0 where
  pub ones : AreInputs old.terms old.inputs
  pub added : AddsFields old.terms new.terms old.inputs fields
  pub listed : new.listed ≡ old.listed
  pub inputs : new.inputs ≡ old.inputs
  pub gates : new.gates ≡ old.gates
  pub root : new.root ≡ old.root
  pub words : AreWordsFor g arena variables closed new.terms old.listed.items old.inputs w
