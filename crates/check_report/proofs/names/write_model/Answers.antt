use Rattle.std.proofs.Common.{◌≡◌, ◌==◌, ◌++◌, [], sym, ◌∙◌, ap, map}
use Rattle.std.specs.Prelude.{position}
use Rattle.std.specs.List.{list_any}
use Rattle.std.specs.Option.{option_map_or}
use Rattle.type_schema.specs.Schema.{ModelInfo, model_of}
use Rattle.type_schema.specs.SchemaViews.{command_of, schema_of}
use Rattle.type_schema.specs.Script.{created_by}
use Rattle.check_witness.specs.Printed.{marked}
use Rattle.check_report.proofs.Searches.{position_of_map}
use Rattle.check_report.proofs.names.write_model.Goals as goal

pub returns : goal.returns
returns c =
    let place : c.before_model-before.result ≡ position (λ k. list_any (λ (i : ModelInfo). i.number == c.args.m) (created_by k)) (map command_of c.args.t.now.commands) =
    c.before_model-before.ensures
    ∙ ap (position (λ k. list_any (λ (i : ModelInfo). i.number == c.args.m) (created_by (command_of k)))) c.as_slice.ensures
    ∙ sym (position_of_map (λ k. list_any (λ (i : ModelInfo). i.number == c.args.m) (created_by k)) command_of c.args.t.now.commands) in
    c.in_ok-write_marked.ensures
    ∙ ap (λ name. c.args.out.now ++ marked name c.before_model-before.result) c.model_name.ensures
    ∙ ap (λ b. c.args.out.now ++ marked (option_map_or (λ (i : ModelInfo). i.name) (model_of (schema_of c.args.t.now.start) c.args.m) []) b) place
