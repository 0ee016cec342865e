-- The worked values, by evaluation.
use Rattle.std.proofs.Common.{refl}
use Rattle.data_meaning.specs.Worked.{WorkedValues}

pub worked : WorkedValues
worked = record {
  admin_is_allowed = refl;
  other_is_not = refl;
  older_than_25 = refl;
  all_but_oneself = refl;
  not_oneself = refl;
  admins_but_manager = refl;
  in_a_set = refl;
  value_of_level = refl;
  one_branch_is_touched = refl;
  value_of_map = refl;
  map_touches_each = refl;
  filter_touches_each = refl;
  added_and_removed = refl;
}
