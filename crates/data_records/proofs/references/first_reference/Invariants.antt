use Rattle.std.proofs.Common.{◌≡◌, map, drop}
use Rattle.type_schema.specs.Schema.{ModelInfo}
use Rattle.type_schema.specs.SchemaViews.{model_info_of}
use Rattle.data_meaning.specs.Database.{records_of}
use Rattle.data_records.specs.Removed.{first_given, reference_from}
use Rattle.data_records.proofs.references.first_reference.Given as goal

-- what is left gives what all give
abbrev pub invariant-loop-info : goal.invariant-loop-info
invariant-loop-info l =
    first_given (λ (info : ModelInfo). first_given (reference_from l.m l.id info) (records_of l.database info.number)) (map model_info_of (drop l.info-index l.models))
    ≡ first_given (λ (info : ModelInfo). first_given (reference_from l.m l.id info) (records_of l.database info.number)) (map model_info_of l.models)
