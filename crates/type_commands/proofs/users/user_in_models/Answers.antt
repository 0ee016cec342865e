use Rattle.std.proofs.Common.{sym, ◌∙◌}
use Rattle.type_schema.specs.SchemaViews.{model_info_of}
use Rattle.type_commands.specs.Users.{model_users}
use Rattle.type_commands.proofs.Missing.{none_found, user_found}
use Rattle.type_commands.proofs.users.user_in_models.Goals as goal

pub returns-then-is_some : goal.returns-then-is_some
returns-then-is_some c =
    user_found c.args.thing model_users model_info_of c.args.models.now c.loop-info.info-index c.info-item.result _ c.user_in_model-user.result c.loop-info.invariant c.loop-info-test.true c.info-item.is
    c.user_in_model-user.ensures (sym c.is_some.ensures ∙ c.if-is_some.true)

pub loop-info-preserved : goal.loop-info-preserved
loop-info-preserved c =
    none_found c.args.thing model_users model_info_of c.args.models.now c.loop-info.info-index c.info-item.result _ c.user_in_model-user.result c.loop-info.invariant c.loop-info-test.true c.info-item.is
    c.user_in_model-user.ensures (sym c.is_some.ensures ∙ c.if-is_some.false)
