use Rattle.std.proofs.Common.{◌≡◌, drop, take, map, []}
use Rattle.data_judge.specs.Faults as spec
use Rattle.data_judge.specs.First.{first_behind, pushed}
use Rattle.type_schema.specs.SchemaViews.{model_info_of}
use Rattle.data_judge.proofs.faults.rule_fault.Given as goal

abbrev pub invariant-loop-place : goal.invariant-loop-place
invariant-loop-place l =
    first_behind (spec.table_fault (map model_info_of l.models)) pushed [] l.ts
    ≡ first_behind (spec.table_fault (map model_info_of l.models)) pushed (take l.place l.ts) (drop l.place l.ts)
