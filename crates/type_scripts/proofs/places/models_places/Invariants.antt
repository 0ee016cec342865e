use Rattle.std.proofs.Common.{◌≡◌, take}
use Rattle.std.specs.List.{flat_map}
use Rattle.type_specs.specs.Sizes.{model_places}
use Rattle.type_scripts.proofs.places.models_places.Given as goal

abbrev pub invariant-loop-d : goal.invariant-loop-d
invariant-loop-d l = l.places.items ≡ flat_map model_places (take l.d-index l.defs)
