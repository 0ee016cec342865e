use Rattle.std.proofs.Common.{sym, ◌∙◌}
use Rattle.type_schema.specs.SchemaViews.{field_info_of}
use Rattle.type_commands.specs.Users.{field_users}
use Rattle.type_commands.proofs.Missing.{none_found, user_found}
use Rattle.type_commands.proofs.users.user_in_fields.Goals as goal

pub returns-then-is_some : goal.returns-then-is_some
returns-then-is_some c =
    user_found c.args.thing (field_users c.args.model) field_info_of c.args.fields.now c.loop-f.f-index c.f-item.result _ c.user_in_field-user.result c.loop-f.invariant c.loop-f-test.true c.f-item.is
    c.user_in_field-user.ensures (sym c.is_some.ensures ∙ c.if-is_some.true)

pub loop-f-preserved : goal.loop-f-preserved
loop-f-preserved c =
    none_found c.args.thing (field_users c.args.model) field_info_of c.args.fields.now c.loop-f.f-index c.f-item.result _ c.user_in_field-user.result c.loop-f.invariant c.loop-f-test.true c.f-item.is
    c.user_in_field-user.ensures (sym c.is_some.ensures ∙ c.if-is_some.false)
