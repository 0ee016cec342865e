use Rattle.std.proofs.Common.{◌≡◌, map, drop}
use Rattle.door_meaning.specs.Conditions as spec
use Rattle.door_judge.proofs.Stages.{behind}
use Rattle.door_judge.proofs.conditions.fields_named.Given as goal
use Rattle.type_schema.specs.SchemaViews.{field_info_of, model_info_of}

abbrev pub invariant-loop-c : goal.invariant-loop-c
invariant-loop-c l =
    spec.fields_named (model_info_of l.info) l.conditions ≡ behind (map (λ f. field_info_of f.now) l.fields.items) (spec.fields_named (model_info_of l.info) (drop l.c-index l.conditions))
