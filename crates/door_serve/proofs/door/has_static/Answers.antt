use Rattle.std.proofs.Common.{◌≡◌, ◌==◌, ◌∙◌, ap, sym}
use Rattle.std.specs.Prelude.{position}
use Rattle.type_schema.specs.declared.schemas.StaticInfo as code
use Rattle.type_schema.specs.Schema.{StaticInfo}
use Rattle.type_schema.specs.SchemaViews.{static_info_of}
use Rattle.door_judge.proofs.Places.{any_placed}
use Rattle.door_serve.proofs.MovedPrincipals.{found-seen}
use Rattle.door_serve.proofs.door.has_static.Goals as goal

pub returns : goal.returns
returns c =
    c.is_some.ensures
    ∙ any_placed (λ (info : code.StaticInfo). info.number == c.args.n) c.args.s.now.statics c.static_place.result
    (c.static_place.ensures.first ∙ ap (position (λ (info : code.StaticInfo). info.number == c.args.n)) c.as_slice.ensures)
    ∙ sym (found-seen (λ (info : StaticInfo). info.number == c.args.n) static_info_of c.args.s.now.statics)
