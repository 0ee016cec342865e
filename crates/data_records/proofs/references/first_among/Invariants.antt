use Rattle.std.proofs.Common.{◌≡◌, map, drop}
use Rattle.type_schema.specs.SchemaViews.{model_info_of}
use Rattle.data_records.specs.Removed.{first_given, reference_from}
use Rattle.data_records.specs.Views.{record_data}
use Rattle.data_records.proofs.references.first_among.Given as goal

-- what is left gives what all give
abbrev pub invariant-loop-record : goal.invariant-loop-record
invariant-loop-record l =
    first_given (reference_from l.m l.id (model_info_of l.info)) (map record_data (drop l.record-index l.records))
    ≡ first_given (reference_from l.m l.id (model_info_of l.info)) (map record_data l.records)
