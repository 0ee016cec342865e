use Rattle.std.proofs.Common.{◌≡◌, ◌==◌, [], sym, ◌∙◌, subst}
use Rattle.std.specs.Prelude.{Some, None}
use Rattle.std.specs.List.{find}
use Rattle.type_schema.specs.Schema.{FieldInfo}
use Rattle.type_schema.specs.SchemaViews.{field_info_of}
use Rattle.check_report.proofs.Searches.{looked-up}
use Rattle.app_files.proofs.users.name_in.Goals as goal

pub returns-in-Some : goal.returns-in-Some
returns-in-Some c =
    c.bytes.ensures.bytes
    ∙ sym (looked-up (λ (i : FieldInfo). i.number == c.args.f) field_info_of (λ (i : FieldInfo). i.name) [] c.args.info.now.fields (Some c.in-Some.field.now)
    (subst (λ xs. Some c.in-Some.field.now ≡ find (λ i. i.number == c.args.f) xs) c.as_slice.ensures c.in-Some.ensures))

pub returns-in-None : goal.returns-in-None
returns-in-None c =
    sym (looked-up (λ (i : FieldInfo). i.number == c.args.f) field_info_of (λ (i : FieldInfo). i.name) [] c.args.info.now.fields None
    (subst (λ xs. None ≡ find (λ i. i.number == c.args.f) xs) c.as_slice.ensures c.in-None.ensures))
