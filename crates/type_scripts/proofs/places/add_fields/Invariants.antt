use Rattle.std.proofs.Common.{◌≡◌, ◌++◌, take}
use Rattle.std.specs.List.{flat_map}
use Rattle.type_specs.specs.Sizes.{field_places}
use Rattle.type_scripts.proofs.places.add_fields.Given as goal

abbrev pub invariant-loop-f : goal.invariant-loop-f
invariant-loop-f l = l.places.items ≡ l.initial.places.items ++ flat_map field_places (take l.f-index l.fields)
