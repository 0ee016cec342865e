-- What a table says of atoms at values.
use Rattle.std.specs.Prelude.{ℕ, Bool, Option, None, Some, option_and_then, is_some, int_lt}
use Rattle.std.specs.Option.{option_map}
use Rattle.form_formula.specs.declared.structure.SVal.{SVal}
use Rattle.form_formula.specs.declared.structure.SVal.TheVariants.{Num, Str}
use Rattle.form_formula.specs.Truth.{both_pass, are_equal, number_of, is_true_value}
use Rattle.form_terms.specs.GroundTerms.{GroundTerm, field}
use Rattle.form_tables.specs.Table.{Table}
use Rattle.ground_instances.specs.GroundAtoms.{GroundValue, named, number, text, GroundAtom, equal_values, less_value, related, flagged, present_at}

-- the ground term that a value is, if it is one
abbrev pub ground_term : GroundValue → Option GroundTerm
ground_term (named t) = Some t
ground_term (number n) = None
ground_term (text t) = None

-- and a function at it
abbrev pub function_at : ℕ → GroundValue → Option GroundTerm
function_at h v = option_map (field h) (ground_term v)

module _ (table : Table) where
  -- what a value has: a ground term what the table gives it, a number and a text themselves
  abbrev pub value_in : GroundValue → Option SVal
  value_in (named t) = table.value t
  value_in (number n) = Some (Num n)
  value_in (text t) = Some (Str t)

  -- whether an atom holds
  abbrev pub says : GroundAtom → Bool
  says (equal_values v w) = both_pass are_equal (value_in v) (value_in w)
  says (less_value v w) = both_pass int_lt (option_and_then number_of (value_in v)) (option_and_then number_of (value_in w))
  says (related r v w) = both_pass (table.has r) (ground_term v) (ground_term w)
  says (flagged h v) = is_true_value (option_and_then table.value (function_at h v))
  says (present_at h v) = is_some (option_and_then table.value (function_at h v))
