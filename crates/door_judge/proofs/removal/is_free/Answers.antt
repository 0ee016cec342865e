use Rattle.type_schema.specs.SchemaViews.{schema_of}
use Rattle.door_judge.proofs.References.{reference-known}
use Rattle.door_judge.proofs.removal.is_free.Goals as goal

pub named_by-requires : goal.named_by-requires
named_by-requires c =
    let held = rw c.in-Err-Referenced.field-0-is at c.in-Err-Referenced.ensures.held in
    reference-known (schema_of c.args.s.now) c.args.d.now c.args.m c.args.id c.requires.proper
    (record { model = c.in-Err-Referenced.model; id = c.in-Err-Referenced.id; field = c.in-Err-Referenced.field }) held.1
