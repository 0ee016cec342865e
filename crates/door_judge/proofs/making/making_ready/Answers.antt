use Rattle.type_schema.specs.SchemaViews.{schema_of}
use Rattle.door_judge.specs.Views.{making_data}
use Rattle.door_judge.proofs.PassedOn.{making-known}
use Rattle.door_judge.proofs.making.making_ready.Goals as goal

pub insert-requires-clause-apart : goal.insert-requires-clause-apart
insert-requires-clause-apart c =
    (making-known (schema_of c.args.s.now) c.requires c.args.base.now c.args.model.now c.args.ws.now (making_data c.in_ok-making.making) c.in_ok-making.ensures.named).apart

pub returns-clause-known : goal.returns-clause-known
returns-clause-known c =
    (making-known (schema_of c.args.s.now) c.requires c.args.base.now c.args.model.now c.args.ws.now (making_data c.in_ok-making.making) c.in_ok-making.ensures.named).model

pub returns-clause-number : goal.returns-clause-number
returns-clause-number c =
    (making-known (schema_of c.args.s.now) c.requires c.args.base.now c.args.model.now c.args.ws.now (making_data c.in_ok-making.making) c.in_ok-making.ensures.named).number
