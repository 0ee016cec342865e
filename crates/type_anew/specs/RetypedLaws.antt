-- What typing gives of the tree that a schema is written as.
use Rattle.std.specs.Prelude.{◌≡◌, length, Ok}
use Rattle.type_schema.specs.Schema.{Schema}
use Rattle.type_schema.specs.Proper.{IsProper}
use Rattle.type_specs.specs.Sizes.{Sizes}
use Rattle.type_specs.specs.Specs.{typed_spec}
use Rattle.type_anew.specs.Specs.{written_spec}
use Rattle.data_records.specs.Renumbered.{field_count}
use Rattle.type_anew.specs.RenumberedAnew.{IsAnew}
use Rattle.type_anew.specs.RetypedAnew.{HasPoliciesAnew, KeepsRights}
use Rattle.type_anew.specs.Told.{IsTold}

-- It has as many models and fields.
abbrev pub CountsStay : Type 0
CountsStay =
    (sizes : Sizes) (s anew : Schema) → typed_spec sizes (written_spec s) ≡ Ok anew → (anew.next_model ≡ length s.models) × (anew.next_field ≡ field_count s.models)

-- It is the schema numbered anew, where that is proper.
abbrev pub SchemasComeAnew : Type 0
SchemasComeAnew = (sizes : Sizes) (s anew : Schema) → IsProper s → typed_spec sizes (written_spec s) ≡ Ok anew → IsAnew s anew

-- It has the policies of the schema with new numbers, where that is told by its tree.
abbrev pub PoliciesComeAnew : Type 0
PoliciesComeAnew =
    (sizes : Sizes) (s anew : Schema) → IsProper s → IsTold s → typed_spec sizes (written_spec s) ≡ Ok anew → HasPoliciesAnew s anew

-- So it gives the same rights.
abbrev pub RightsStay : Type 0
RightsStay =
    (sizes : Sizes) (s anew : Schema) → IsProper s → IsTold s → typed_spec sizes (written_spec s) ≡ Ok anew → KeepsRights s anew
