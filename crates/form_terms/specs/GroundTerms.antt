-- Ground terms: names of elements.
use Rattle.std.specs.Prelude.{ℕ, List, [], ◌∷◌, Option, None, Some, option_and_then, slice_get, Bool, false, ◌==◌}
use Rattle.form_formula.specs.declared.structure.Range.{Range}
use Rattle.form_formula.specs.declared.structure.Range.TheVariants.{Rec, Flag, Num, Str}
use Rattle.form_formula.specs.declared.structure.Signature.{Signature}

mutual
  -- the constant of a sort; the variable of an `exists`, by its number and its sort, at a term for each `forall` above it, the
  -- outermost first; a function at a term
  pub data GroundTerm : Type 0 where
    constant : (sort : ℕ) → GroundTerm
    skolem : (variable sort : ℕ) → GroundTerms → GroundTerm
    field : (function : ℕ) → GroundTerm → GroundTerm

  pub data GroundTerms : Type 0 where
    no_terms : GroundTerms
    term_and : GroundTerm → GroundTerms → GroundTerms

-- the terms as a list
abbrev pub list_of : GroundTerms → List GroundTerm
list_of no_terms = []
list_of (term_and t ts) = t ∷ list_of ts

-- one more term, at the end
abbrev pub and_last : GroundTerms → GroundTerm → GroundTerms
and_last no_terms t = term_and t no_terms
and_last (term_and u us) t = term_and u (and_last us t)

-- the sort whose elements a range is, if it is one
abbrev pub record_sort : Range → Option ℕ
record_sort (Rec sort) = Some sort
record_sort Flag = None
record_sort Num = None
record_sort Str = None

-- the sort whose elements a function gives, if it gives elements
abbrev pub target_of : Signature → ℕ → Option ℕ
target_of g f = option_and_then (λ sig. record_sort sig.to) (slice_get g.funs f)

-- the sort that a function is applied to
abbrev pub source_of : Signature → ℕ → Option ℕ
source_of g f = option_and_then (λ sig. Some sig.from) (slice_get g.funs f)

abbrev pub sort_of : Signature → GroundTerm → Option ℕ
sort_of g (constant sort) = Some sort
sort_of g (skolem variable sort ts) = Some sort
sort_of g (field f t) = target_of g f

-- whether there is a number, and it is this one
abbrev pub is_number : Option ℕ → ℕ → Bool
is_number None x = false
is_number (Some y) x = y == x
