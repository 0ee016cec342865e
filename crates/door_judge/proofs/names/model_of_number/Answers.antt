use Rattle.std.proofs.Common.{ap, ◌∙◌, ◌==◌}
use Rattle.std.specs.Prelude.{option_map}
use Rattle.std.specs.List.{find}
use Rattle.type_schema.specs.Schema.{ModelInfo}
use Rattle.type_schema.specs.SchemaViews.{model_info_of}
use Rattle.data_judge.proofs.Found.{find-seen}
use Rattle.door_judge.proofs.names.model_of_number.Goals as goal

pub returns : goal.returns
returns c =
    ap (option_map model_info_of) (c.model_numbered.ensures ∙ ap (find (λ info. info.number == c.args.m)) c.as_slice.ensures)
    ∙ find-seen model_info_of (λ (m : ModelInfo). m.number == c.args.m) c.args.s.now.models
