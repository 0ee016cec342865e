-- The worked formulas and sizes, by evaluation.
use Rattle.std.proofs.Common.{refl}
use Rattle.duty_meaning.specs.Worked.{WorkedFormulas, ExpandedIsCounted}

pub worked : WorkedFormulas
worked = record {
  number_of_option = refl;
  as_structure = refl;
  filter_of_truth = refl;
  negated_filter = refl;
  negated_list = refl;
  set_field = refl;
  option_field = refl;
  map_is_some = refl;
  negated_map = refl;
  difference = refl;
  two_kinds = refl;
  of_added = refl;
  gain_of_list = refl;
  gain_of_static = refl;
  narrowed_is_safe = refl;
  widened_is_not = refl;
  added_written_out = refl;
  use_is_reached = refl;
  filter_is_reached = refl;
  size_of_filter = refl;
  size_of_map = refl;
  size_of_value = refl;
  size_of_option = refl;
  expanded_a_little = refl;
  expanded_to_the_limit = refl;
}

pub expanded : ExpandedIsCounted
expanded = refl
