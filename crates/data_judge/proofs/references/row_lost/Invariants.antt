use Rattle.std.proofs.Common.{◌≡◌, drop, map}
use Rattle.data_judge.specs.First.{first_given}
use Rattle.data_judge.specs.References as spec
use Rattle.type_schema.specs.SchemaViews.{field_info_of}
use Rattle.data_judge.proofs.references.row_lost.Given as goal

abbrev pub invariant-loop-place : goal.invariant-loop-place
invariant-loop-place l =
    first_given (spec.field_lost l.database (map field_info_of l.fields)) l.row.fields
    ≡ first_given (spec.field_lost l.database (map field_info_of l.fields)) (drop l.place l.row.fields)
