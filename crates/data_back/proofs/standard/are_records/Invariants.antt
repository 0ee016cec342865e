use Rattle.std.proofs.Common.{map}
use Rattle.type_schema.specs.SchemaViews.{field_info_of}
use Rattle.data_records.specs.declared.record.Record as code_record
use Rattle.data_records.specs.Views.{record_data}
use Rattle.data_back.specs.Standard.{IsRecordOf}
use Rattle.data_back.proofs.Each.{Left}
use Rattle.data_back.proofs.standard.are_records.Given as goal

abbrev pub invariant-loop-row : goal.invariant-loop-row
invariant-loop-row l = Left (λ (r : code_record.Record). IsRecordOf l.database (map field_info_of l.fields) (record_data r)) l.records l.row-index
