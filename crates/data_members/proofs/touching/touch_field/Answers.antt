use Rattle.std.proofs.Common.{arith}
use Rattle.data_members.proofs.CellReads.{field-done}
use Rattle.data_members.proofs.touching.touch_field.Goals as goal

pub returns : goal.returns
returns c =
    field-done c.args.database.now c.args.m c.args.f c.args.found.now.items c.loop-record.found.items c.records-record-items.result.now c.loop-record.record-index
    c.loop-record.invariant (omega arith) c.records-record-items.ensures.all
