-- Clauses that what was found breaks.
use Rattle.std.specs.Prelude.{◌≡◌, ℕ, All, Bool, not, List, Some, int_lt, is_some, slice_get}
use Rattle.form_formula.specs.declared.structure.SVal.{SVal}
use Rattle.form_formula.specs.Truth.{are_equal, both_pass, is_raised, number_of}
use Rattle.ground_terms.specs.declared.node.TermNode.{TermNode}
use Rattle.ground_terms.specs.Nodes.{IsOne}
use Rattle.ground_instances.specs.declared.input.Value.{Value}
use Rattle.ground_instances.specs.declared.input.Value.TheVariants.{Term, Literal}
use Rattle.ground_problem.specs.declared.words.PairNode.{PairNode}
use Rattle.ground_problem.specs.declared.facts.FactNode.{FactNode}
use Rattle.ground_problem.specs.declared.facts.FactNode.TheVariants.{There, Same, Below, Raised, Related, Empty}
use Rattle.ground_problem.specs.declared.facts.FactLiteral.{FactLiteral}
use Rattle.decide_models.specs.declared.found.Found.{Found}
use Rattle.decide_reading.specs.Keys.{value_at}
use Rattle.decide_reading.specs.Settled.{related_at}

module _ (terms : List TermNode) (found : Found) where
  -- the number is that of a term that was found to be there and to have this
  abbrev pub HasFound : ℕ → SVal → Type 0
  HasFound id x = IsOne terms id × (value_at found id ≡ Some x)

  -- and so of a value; a number or a text of the formula is no term, and none was found
  abbrev pub IsFoundAs : Value → SVal → Type 0
  IsFoundAs (Term id) x = HasFound id x
  IsFoundAs (Literal id) x = ⊥

  -- two values that were found pass a test, or do not
  abbrev pub AreTold : (SVal → SVal → Bool) → Value → Value → Bool → Type 0
  AreTold test v w so = (x : SVal) × (y : SVal) × IsFoundAs v x × IsFoundAs w y × (test x y ≡ so)

  module _ (pairs : List PairNode) where
    -- what was found tells that a fact is so, or that it is not; of values only where these are there
    abbrev pub IsTold : FactNode → Bool → Type 0
    IsTold (There id) so = IsOne terms id × (is_some (value_at found id) ≡ so)
    IsTold (Same v w) so = AreTold are_equal v w so
    IsTold (Below v w) so = AreTold (λ x y. both_pass int_lt (number_of x) (number_of y)) v w so
    IsTold (Raised id) so = (x : SVal) × HasFound id x × (is_raised x ≡ so)
    IsTold (Related p) so = (k : ℕ) × (slice_get pairs k ≡ Some p) × (related_at found k ≡ so)
    IsTold (Empty sort) so = slice_get found.empty sort ≡ Some so

    -- the literal is false by what was found
    abbrev pub IsFalse : FactLiteral → Type 0
    IsFalse l = IsTold l.fact (not l.plus)

    -- and so are all literals of a clause
    abbrev pub IsBroken : List FactLiteral → Type 0
    IsBroken clause = All IsFalse clause
