use Rattle.std.proofs.Common.{◌≡◌, map, take}
use Rattle.type_schema.specs.SchemaViews.{model_info_of, schema_of}
use Rattle.type_anew.specs.Names.{names_in}
use Rattle.type_anew.specs.Specs.{written_model}
use Rattle.type_anew.proofs.specs.written_models.Given as goal

abbrev pub invariant-loop-info : goal.invariant-loop-info
invariant-loop-info l = l.all.items ≡ map (written_model (names_in (schema_of l.s))) (map model_info_of (take l.info-index l.models))
