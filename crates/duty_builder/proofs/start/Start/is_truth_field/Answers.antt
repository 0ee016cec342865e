use Rattle.std.proofs.Common.{◌∙◌, ap, false}
use Rattle.std.specs.Option.{option_map_or}
use Rattle.type_schema.specs.SchemaViews.{schema_of}
use Rattle.duty_meaning.specs.Cases.{is_truth_type}
use Rattle.duty_builder.proofs.start.Start.is_truth_field.Goals as goal

pub returns-in-Some : goal.returns-in-Some
returns-in-Some c =
    let s = schema_of c.args.self.now.schema.now in
    c.is_truth_type.ensures s ∙ ap (λ o. option_map_or (is_truth_type s) o false) c.in-Some.ensures

pub returns-in-None : goal.returns-in-None
returns-in-None c = ap (λ o. option_map_or (is_truth_type (schema_of c.args.self.now.schema.now)) o false) c.in-None.ensures
