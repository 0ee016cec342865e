use Rattle.std.proofs.Common.{◌≡◌, drop, map}
use Rattle.data_judge.specs.First.{first_given}
use Rattle.data_judge.specs.References as spec
use Rattle.type_schema.specs.SchemaViews.{field_info_of}
use Rattle.data_judge.proofs.references.records_lost.Given as goal

abbrev pub invariant-loop-row : goal.invariant-loop-row
invariant-loop-row l =
    first_given (spec.row_lost l.database (map field_info_of l.fields)) l.rows
    ≡ first_given (spec.row_lost l.database (map field_info_of l.fields)) (drop l.row-index l.rows)
