-- The tree that a schema is written as is typed again.
use Rattle.std.specs.Prelude.{◌≡◌, Ok}
use Rattle.type_schema.specs.Schema.{Schema}
use Rattle.type_schema.specs.Proper.{IsProper}
use Rattle.type_specs.specs.Specs.{resolved_spec, typed_spec}
use Rattle.type_scripts.specs.Counted.{counted}
use Rattle.type_anew.specs.Specs.{written_spec}
use Rattle.type_anew.specs.Told.{IsTold}
use Rattle.type_anew.specs.Room.{IsWithinNumbers, IsWithinSizes}

-- By every rule but those on sizes it is, where the schema is proper, told by its tree, and within the limits on numbers.
abbrev pub TreesAreResolved : Type 0
TreesAreResolved = (s : Schema) → IsProper s → IsTold s → IsWithinNumbers s → (anew : Schema) × (resolved_spec (written_spec s) ≡ Ok anew)

-- Where its policies are within the limit on sizes too, no rule refuses it.
abbrev pub TreesAreTyped : Type 0
TreesAreTyped = (s : Schema) → IsProper s → IsTold s → IsWithinNumbers s → IsWithinSizes s → (anew : Schema) × (typed_spec counted (written_spec s) ≡ Ok anew)
