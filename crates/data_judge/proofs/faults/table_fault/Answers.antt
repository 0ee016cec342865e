use Rattle.std.proofs.Common.{map, sym}
use Rattle.type_schema.specs.SchemaViews.{model_info_of}
use Rattle.data_judge.proofs.InOrder.{model-apart}
use Rattle.data_judge.proofs.faults.table_fault.Goals as goal

pub returns-then-has_table : goal.returns-then-has_table
returns-then-has_table c =
    let found = rw c.bytes-name.ensures.bytes at c.in-Some.ensures in
    let stood = rw c.bytes-name.ensures.bytes at c.has_table.ensures in
    rw (← found, ← stood, c.if-has_table.true)

pub body_fault-requires : goal.body_fault-requires
body_fault-requires c =
    rw c.as_slice.ensures
    (model-apart (map model_info_of c.args.models.now) c.bytes-name.result.now (model_info_of c.in-Some.info.now) c.requires (sym c.in-Some.ensures))
