use Rattle.std.proofs.Common.{◌∙◌}
use Rattle.type_schema.specs.SchemaViews.{schema_of}
use Rattle.door_judge.specs.Views.{setting_data}
use Rattle.door_judge.proofs.PassedOn.{setting-known}
use Rattle.door_judge.proofs.setting.setting_ready.Goals as goal

pub ready-requires-clause-there : goal.ready-requires-clause-there
ready-requires-clause-there c =
    let s = schema_of c.args.s.now in
    let set = setting_data c.in_ok-set.set in
    let known = setting-known s c.requires.proper c.args.base.now c.args.who c.args.cell.now.model.now c.args.cell.now.id.number c.args.cell.now.field.now c.args.l.now set c.in_ok-set.ensures.named in
    c.records_have_fields.ensures s c.args.base.now c.requires.database set.info.number c.args.cell.now.id.number set.field.number set.info set.field known.model known.field ∙ known.there

pub returns-clause-known : goal.returns-clause-known
returns-clause-known c =
    setting-known (schema_of c.args.s.now) c.requires.proper c.args.base.now c.args.who c.args.cell.now.model.now c.args.cell.now.id.number c.args.cell.now.field.now c.args.l.now
    (setting_data c.in_ok-set.set) c.in_ok-set.ensures.named
