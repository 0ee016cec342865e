use Rattle.std.proofs.Common.{◌≡◌, ◌==◌, map, sym, ◌∙◌, ap, subst}
use Rattle.std.specs.Prelude.{Some, None, option_and_then}
use Rattle.std.specs.List.{find}
use Rattle.std.specs.Option.{option_map}
use Rattle.std.specs.Str.{bytes_eq}
use Rattle.type_schema.specs.Schema.{FieldInfo, ModelInfo, Schema, model_of}
use Rattle.type_schema.specs.SchemaViews.{field_info_of, model_info_of}
use Rattle.check_report.proofs.Searches.{looked-further}
use Rattle.check_report_back.proofs.named.field_named.Goals as goal

pub returns-in-Some : goal.returns-in-Some
returns-in-Some c =
    let number = λ (f : FieldInfo). f.number in
    let is = λ (f : FieldInfo). bytes_eq f.name c.args.name.now in
    let in-model = λ (m : ModelInfo). find is m.fields in
    c.field_of_name.ensures ∙ ap (λ xs. option_map number (find is (map field_info_of xs))) c.as_slice-in-Some.ensures
    ∙ ap (option_map number)
    (sym (looked-further (λ (i : ModelInfo). i.number == c.args.m) model_info_of in-model c.schema_at.result.now.models (Some c.in-Some.info.now)
    (subst (λ xs. Some c.in-Some.info.now ≡ find (λ i. i.number == c.args.m) xs) c.as_slice.ensures c.in-Some.ensures))
    ∙ ap (λ (s : Schema). option_and_then in-model (model_of s c.args.m)) c.schema_at.ensures)

pub returns-in-None : goal.returns-in-None
returns-in-None c =
    let number = λ (f : FieldInfo). f.number in
    let is = λ (f : FieldInfo). bytes_eq f.name c.args.name.now in
    let in-model = λ (m : ModelInfo). find is m.fields in
    ap (option_map number)
    (sym (looked-further (λ (i : ModelInfo). i.number == c.args.m) model_info_of in-model c.schema_at.result.now.models None
    (subst (λ xs. None ≡ find (λ i. i.number == c.args.m) xs) c.as_slice.ensures c.in-None.ensures))
    ∙ ap (λ (s : Schema). option_and_then in-model (model_of s c.args.m)) c.schema_at.ensures)
