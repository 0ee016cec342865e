use Rattle.std.proofs.Common.{◌≡◌, drop, map}
use Rattle.data_judge.specs.First.{first_given}
use Rattle.data_judge.specs.References as spec
use Rattle.type_schema.specs.SchemaViews.{model_info_of}
use Rattle.data_judge.proofs.references.lost.Given as goal

abbrev pub invariant-loop-table : goal.invariant-loop-table
invariant-loop-table l =
    first_given (spec.table_lost l.database (map model_info_of l.models)) l.ts
    ≡ first_given (spec.table_lost l.database (map model_info_of l.models)) (drop l.table-index l.ts)
