use Rattle.std.proofs.Common.{◌≡◌, drop, map}
use Rattle.data_judge.specs.Faults as spec
use Rattle.data_judge.specs.First.{first_behind}
use Rattle.type_schema.specs.SchemaViews.{field_info_of}
use Rattle.data_judge.proofs.faults.records_fault.Given as goal

abbrev pub invariant-loop-row : goal.invariant-loop-row
invariant-loop-row l =
    spec.records_fault (map field_info_of l.fields) l.next l.rows
    ≡ first_behind (spec.record_fault (map field_info_of l.fields) l.next) spec.with_record l.seen (drop l.row-index l.rows)
