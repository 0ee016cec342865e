-- Schemas numbered anew, as they are stored.
use Rattle.std.specs.Prelude.{◌≡◌, Ok}
use Rattle.type_schema.specs.Schema.{Schema}
use Rattle.type_schema.specs.Proper.{IsProper}
use Rattle.type_specs.specs.Specs.{typed_spec}
use Rattle.type_scripts.specs.Counted.{counted}
use Rattle.type_anew.specs.RenumberedAnew.{IsAnew}
use Rattle.type_anew.specs.RetypedAnew.{HasPoliciesAnew}
use Rattle.type_anew.specs.Room.{IsWithinNumbers, IsWithinSizes}
use Rattle.type_anew.specs.Specs.{written_spec}
use Rattle.type_anew.specs.Told.{IsTold}

-- `anew` is s numbered anew: its statics, models and fields have their places as numbers, and its policies are the same under these numbers. It
-- is what typing gives of the tree that s is written as.
pub record IsRenumbered (s anew : Schema) : Type 0 where
  pub numbers : IsAnew s anew
  pub policies : HasPoliciesAnew s anew
  pub typed : typed_spec counted (written_spec s) ≡ Ok anew

-- The schema is proper, told by the tree that it is written as, and within the limits of specifications. Typing gives no others, also after
-- commands. Such a schema can be numbered anew, so only want of memory is left as a refusal.
pub record MaySettle (s : Schema) : Type 0 where
  pub proper : IsProper s
  pub told : IsTold s
  pub numbers : IsWithinNumbers s
  pub sizes : IsWithinSizes s
