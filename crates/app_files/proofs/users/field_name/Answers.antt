use Rattle.std.proofs.Common.{◌≡◌, ◌==◌, [], sym, ◌∙◌, ap, subst}
use Rattle.std.specs.Prelude.{Some, None}
use Rattle.std.specs.List.{find}
use Rattle.std.specs.Option.{option_map_or}
use Rattle.type_schema.specs.Schema.{FieldInfo, ModelInfo, field_in}
use Rattle.type_schema.specs.SchemaViews.{model_info_of}
use Rattle.check_report.proofs.Searches.{looked-further}
use Rattle.app_files.proofs.users.field_name.Goals as goal

pub returns-in-Some : goal.returns-in-Some
returns-in-Some c =
    c.name_in.ensures
    ∙ ap (λ o. option_map_or (λ (i : FieldInfo). i.name) o [])
    (sym (looked-further (λ (i : ModelInfo). i.number == c.args.m) model_info_of (λ (i : ModelInfo). field_in i.fields c.args.f) c.args.schema.now.models (Some c.in-Some.info.now)
    (subst (λ xs. Some c.in-Some.info.now ≡ find (λ i. i.number == c.args.m) xs) c.as_slice.ensures c.in-Some.ensures)))

pub returns-in-None : goal.returns-in-None
returns-in-None c =
    ap (λ o. option_map_or (λ (i : FieldInfo). i.name) o [])
    (sym (looked-further (λ (i : ModelInfo). i.number == c.args.m) model_info_of (λ (i : ModelInfo). field_in i.fields c.args.f) c.args.schema.now.models None
    (subst (λ xs. None ≡ find (λ i. i.number == c.args.m) xs) c.as_slice.ensures c.in-None.ensures)))
