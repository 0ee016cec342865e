use Rattle.std.proofs.Common.{◌≡◌, take, map}
use Rattle.data_judge.specs.Meaning as meaning
use Rattle.data_records.specs.Views.{record_data}
use Rattle.type_schema.specs.SchemaViews.{field_info_of}
use Rattle.data_judge.proofs.tables.records_of.Given as goal

abbrev pub invariant-loop-row : goal.invariant-loop-row
invariant-loop-row l = map record_data l.records.items ≡ map (meaning.record_of (map field_info_of l.fields)) (take l.row-index l.rows)
