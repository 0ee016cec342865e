-- What terms have is of their ranges.
use Rattle.std.specs.Prelude.{◌≡◌, ℕ, List, Some, length, slice_get}
use Rattle.form_formula.specs.declared.structure.Range.{Range}
use Rattle.form_formula.specs.declared.structure.Signature.{Signature}
use Rattle.form_formula.specs.declared.structure.SVal.{SVal}
use Rattle.form_tables.specs.Consistent.{range_of, IsOfRange}
use Rattle.ground_terms.specs.declared.node.TermNode.{TermNode}
use Rattle.ground_terms.specs.Nodes.{IsOne, term_of}
use Rattle.decide_reading.specs.Columns.{IsTypedAt}
use Rattle.decide_reading.specs.declared.columns.Columns.{Columns}

module _ (g : Signature) (terms : List TermNode) where
  -- the value is of the range of a number, if that is one of a term
  abbrev pub IsRanged : ℕ → SVal → Type 0
  IsRanged id value = IsOne terms id → (range : Range) → range_of g (term_of terms id) ≡ Some range → IsOfRange range value

  -- and so are values, one for each number below a bound
  pub record AreRangedValues (bound : ℕ) (values : List SVal) : Type 0 where
    pub one_each : length values ≡ bound
    pub ranged : (id : ℕ) (value : SVal) → slice_get values id ≡ Some value → IsRanged id value

  -- and so are all values of columns
  abbrev pub AreRanged : Columns → Type 0
  AreRanged c = (id : ℕ) → IsOne terms id → IsTypedAt g terms c id
