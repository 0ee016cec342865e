use Rattle.std.proofs.Common.{◌≡◌, [], drop, map}
use Rattle.type_schema.specs.SchemaViews.{field_info_of}
use Rattle.type_typing.specs.Names.{plain_of}
use Rattle.type_specs.specs.InTurn.{in_turn}
use Rattle.type_specs.specs.Models.{with_next_field}
use Rattle.type_specs.proofs.models.typed_fields.Given as goal

abbrev pub invariant-loop-f : goal.invariant-loop-f
invariant-loop-f l =
    in_turn (with_next_field l.stage (plain_of l.over) l.model l.first) [] l.defs
    ≡ in_turn (with_next_field l.stage (plain_of l.over) l.model l.first) (map field_info_of l.fields.items) (drop l.f-index l.defs)
