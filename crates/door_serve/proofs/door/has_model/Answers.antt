use Rattle.std.proofs.Common.{◌≡◌, ◌==◌, ◌∙◌, ap, sym}
use Rattle.std.specs.Prelude.{position}
use Rattle.type_schema.specs.declared.schemas.ModelInfo as code
use Rattle.type_schema.specs.Schema.{ModelInfo}
use Rattle.type_schema.specs.SchemaViews.{model_info_of}
use Rattle.door_judge.proofs.Places.{any_placed}
use Rattle.door_serve.proofs.MovedPrincipals.{found-seen}
use Rattle.door_serve.proofs.door.has_model.Goals as goal

pub returns : goal.returns
returns c =
    c.is_some.ensures
    ∙ any_placed (λ (info : code.ModelInfo). info.number == c.args.m) c.args.s.now.models c.model_place.result
    (c.model_place.ensures.first ∙ ap (position (λ (info : code.ModelInfo). info.number == c.args.m)) c.as_slice.ensures)
    ∙ sym (found-seen (λ (info : ModelInfo). info.number == c.args.m) model_info_of c.args.s.now.models)
