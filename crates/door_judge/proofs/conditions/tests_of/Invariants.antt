use Rattle.std.proofs.Common.{◌≡◌, map}
use Rattle.std.specs.Iterator.Adapters.{zip_first, zip_second}
use Rattle.std.specs.Slice.Iter.{iter_rest}
use Rattle.door_meaning.specs.Conditions as spec
use Rattle.door_judge.specs.Tests.{test_data}
use Rattle.door_judge.proofs.Stages.{behind}
use Rattle.door_judge.proofs.conditions.tests_of.Given as goal
use Rattle.type_schema.specs.SchemaViews.{field_info_of}

abbrev pub invariant-loop-field : goal.invariant-loop-field
invariant-loop-field l =
    spec.tests_of (map (λ f. field_info_of f.now) l.fields) l.conditions
    ≡ behind (map test_data l.tests.items) (spec.tests_of (map (λ f. field_info_of f.now) (iter_rest (zip_first l.field-iterator))) (iter_rest (zip_second l.field-iterator)))
