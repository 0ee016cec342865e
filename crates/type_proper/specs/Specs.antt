-- Schemas of specifications are proper, and stay so.
use Rattle.std.specs.Prelude.{◌≡◌, [], Ok}
use Rattle.std.specs.List.{AllByRecursion}
use Rattle.text_tree.specs.declared.models.Spec.{Spec}
use Rattle.type_schema.specs.Schema.{Schema}
use Rattle.type_specs.specs.Sizes.{Sizes}
use Rattle.type_specs.specs.Specs.{typed_spec}
use Rattle.type_proper.specs.Literals.{ModelHasLiterals}
use Rattle.type_proper.specs.Steady.{IsSteady}

-- where its literals are values
abbrev pub SpecsAreSteady : Type 0
SpecsAreSteady = (sizes : Sizes) (spec : Spec) (s : Schema) → AllByRecursion ModelHasLiterals s.models → typed_spec sizes spec ≡ Ok s → IsSteady s × (s.added ≡ [])
