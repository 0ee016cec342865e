use Rattle.std.proofs.Common.{◌∙◌, ap}
use Rattle.std.specs.Prelude.{find, ◌==◌}
use Rattle.std.specs.Option.{option_map}
use Rattle.type_schema.specs.declared.schemas.FieldInfo as code_field
use Rattle.duty_builder.proofs.start.type_in.Goals as goal

pub returns-in-Some : goal.returns-in-Some
returns-in-Some c =
    ap (option_map (λ (i : code_field.FieldInfo). i.ty)) (c.in-Some.ensures ∙ ap (find (λ (i : code_field.FieldInfo). i.number == c.args.f)) c.as_slice.ensures)
