use Rattle.std.proofs.Common.{List, ap, ◌∙◌}
use Rattle.std.specs.List.{find}
use Rattle.std.specs.Prelude.{option_map}
use Rattle.std.specs.Str.{bytes_eq}
use Rattle.type_schema.specs.Schema.{StaticInfo}
use Rattle.type_schema.specs.SchemaViews.{static_info_of}
use Rattle.type_schema.specs.declared.schemas.StaticInfo as code
use Rattle.data_judge.proofs.Found.{find-seen}
use Rattle.door_judge.proofs.names.static_named.Goals as goal

pub returns : goal.returns
returns c =
    ap (option_map static_info_of) (c.static_among.ensures ∙ ap (λ (xs : List code.StaticInfo). find (λ info. bytes_eq info.name c.args.name.now) xs) c.as_slice.ensures)
    ∙ find-seen static_info_of (λ (info : StaticInfo). bytes_eq info.name c.args.name.now) c.args.s.now.statics
