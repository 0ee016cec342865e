-- A schema that is numbered anew may be stored.
use Rattle.std.specs.Prelude.{◌≡◌, Ok}
use Rattle.type_schema.specs.Schema.{Schema}
use Rattle.type_specs.specs.Specs.{typed_spec}
use Rattle.type_proper.specs.Steady.{IsSteady}
use Rattle.type_scripts.specs.Counted.{counted}
use Rattle.type_anew.specs.Specs.{written_spec}
use Rattle.type_anew.specs.Told.{IsTold}
use Rattle.store_keeper.specs.Stored.{IsSettled}

-- What typing gives of the tree of a schema, which is written as the same tree, is settled: all of this is what `renumber` answers.
abbrev pub RenumberedAreSettled : Type 0
RenumberedAreSettled =
    (s anew : Schema) → IsSteady anew → IsTold anew → written_spec anew ≡ written_spec s → typed_spec counted (written_spec s) ≡ Ok anew → IsSettled anew
