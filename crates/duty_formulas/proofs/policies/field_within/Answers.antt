use Rattle.std.proofs.Common.{◌==◌, ◌∙◌, ap, map}
use Rattle.type_schema.specs.Schema as plain
use Rattle.type_schema.specs.SchemaViews.{field_info_of}
use Rattle.duty_formulas.proofs.LookUps.{found_seen}
use Rattle.duty_formulas.proofs.policies.field_within.Goals as goal

pub returns : goal.returns
returns c =
    found_seen (λ (i : plain.FieldInfo). i.number == c.args.f) field_info_of c.as_slice.result.now c.field_in.result c.field_in.ensures
    ∙ ap (λ xs. plain.field_in (map field_info_of xs) c.args.f) c.as_slice.ensures
