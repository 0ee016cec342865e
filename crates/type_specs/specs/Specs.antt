-- Specifications.
use Rattle.std.specs.Prelude.{[], Ok}
use Rattle.text_tree.specs.declared.named.Named.{Named}
use Rattle.text_tree.specs.declared.models.Spec.{Spec}
use Rattle.type_schema.specs.Schema.{StaticInfo, Schema}
use Rattle.type_schema.specs.Commands.{add_static, schema_after}
use Rattle.type_typing.specs.Outcome.{Checked, ◌>>=◌}
use Rattle.type_specs.specs.InTurn.{in_turn}
use Rattle.type_specs.specs.Models.{with_models}
use Rattle.type_specs.specs.NewNames.{new_static}
use Rattle.type_specs.specs.Sizes.{Sizes, models_are_small}

abbrev pub empty_schema : Schema
empty_schema = record { statics = []; models = []; next_static = 0; next_model = 0; next_field = 0; added = []; removed = [] }

-- the static of this name, with the next number of the schema
abbrev pub next_static : Schema → Named → StaticInfo
next_static s x = record { number = s.next_static; name = x.name }

-- one more static
unfoldable pub with_static : Schema → Named → Checked Schema
with_static s x = new_static s x >>= (λ _. Ok (schema_after s (add_static (next_static s x))))

-- the schema of a specification, by every rule but those on sizes
unfoldable pub resolved_spec : Spec → Checked Schema
resolved_spec spec = in_turn with_static empty_schema spec.statics >>= (λ s. with_models s spec.models)

unfoldable pub typed_spec : Sizes → Spec → Checked Schema
typed_spec sizes spec = do
  s ← resolved_spec spec
  _ ← models_are_small sizes s s.models spec.models
  Ok s
