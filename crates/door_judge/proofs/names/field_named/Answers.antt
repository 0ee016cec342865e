use Rattle.std.proofs.Common.{ap, ◌∙◌}
use Rattle.std.specs.Prelude.{option_map}
use Rattle.std.specs.Str.{bytes_eq}
use Rattle.type_schema.specs.Schema.{FieldInfo}
use Rattle.type_schema.specs.SchemaViews.{field_info_of}
use Rattle.data_judge.proofs.Found.{find-seen}
use Rattle.door_judge.proofs.names.field_named.Goals as goal

pub returns : goal.returns
returns c = ap (option_map field_info_of) c.field_among.ensures ∙ find-seen field_info_of (λ (f : FieldInfo). bytes_eq f.name c.args.name.now) c.args.fields.now
