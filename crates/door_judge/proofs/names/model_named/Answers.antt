use Rattle.std.proofs.Common.{ap, ◌∙◌}
use Rattle.std.specs.Prelude.{option_map}
use Rattle.std.specs.Str.{bytes_eq}
use Rattle.type_schema.specs.Schema.{ModelInfo}
use Rattle.type_schema.specs.SchemaViews.{model_info_of}
use Rattle.data_judge.proofs.Found.{find-seen}
use Rattle.door_judge.proofs.names.model_named.Goals as goal

pub returns : goal.returns
returns c = ap (option_map model_info_of) c.model_among.ensures ∙ find-seen model_info_of (λ (m : ModelInfo). bytes_eq m.name c.args.name.now) c.args.models.now
