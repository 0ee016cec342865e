use Rattle.std.proofs.Common.{ap}
use Rattle.duty_meaning.specs.Cases.{none}
use Rattle.duty_builder.specs.Values.{scene_data, end_data}
use Rattle.duty_builder.proofs.Scenes.{value_before}
use Rattle.duty_builder.proofs.added.+without.Goals as goal

pub returns-in-Some : goal.returns-in-Some
returns-in-Some t c =
    let st = c.args.start.now in
    λ depth e. value_before none (scene_data st c.in-Inner.outer.now) (scene_data st c.args.scene.now) (scene_data st c.without.result.now)
    (end_data st c.in-Inner.field-1.now) c.args.inside c.in-Some.less depth (ap (scene_data st) c.in-Inner.is) c.in-Some.ensures.0 c.in-Some.ensures.1 c.without.ensures e
