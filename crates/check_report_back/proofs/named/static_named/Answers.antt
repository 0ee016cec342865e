use Rattle.std.proofs.Common.{map, ◌∙◌, ap}
use Rattle.std.specs.List.{find}
use Rattle.std.specs.Option.{option_map}
use Rattle.std.specs.Str.{bytes_eq}
use Rattle.type_schema.specs.Schema.{StaticInfo, Schema}
use Rattle.type_schema.specs.SchemaViews.{static_info_of}
use Rattle.check_report_back.proofs.named.static_named.Goals as goal

pub returns-in-None : goal.returns-in-None
returns-in-None c =
    let number = λ (i : StaticInfo). i.number in
    let is = λ (i : StaticInfo). bytes_eq i.name c.args.name.now in
    rw c.in-None.is
    (c.static_of_name.ensures ∙ ap (λ xs. option_map number (find is (map static_info_of xs))) c.as_slice.ensures
    ∙ ap (λ (s : Schema). option_map number (find is s.statics)) c.schema_at.ensures)
