use Rattle.std.proofs.Common.{◌≡◌, drop, take, map, []}
use Rattle.data_judge.specs.Faults as spec
use Rattle.data_judge.specs.First.{first_behind, pushed}
use Rattle.type_schema.specs.SchemaViews.{field_info_of}
use Rattle.data_judge.proofs.faults.fields_fault.Given as goal

abbrev pub invariant-loop-place : goal.invariant-loop-place
invariant-loop-place l =
    first_behind (spec.field_fault (map field_info_of l.fields)) pushed [] l.ws
    ≡ first_behind (spec.field_fault (map field_info_of l.fields)) pushed (take l.place l.ws) (drop l.place l.ws)
