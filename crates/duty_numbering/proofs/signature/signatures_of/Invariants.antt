use Rattle.std.proofs.Common.{◌≡◌, map, take}
use Rattle.std.specs.Prelude.{flat_map}
use Rattle.type_schema.specs.SchemaViews.{model_info_of, schema_of}
use Rattle.duty_meaning.specs.Structures.{places_in}
use Rattle.duty_numbering.specs.Signatures.{functions_at, relations_at}
use Rattle.duty_numbering.proofs.signature.signatures_of.Given as goal

abbrev pub invariant-loop-model : goal.invariant-loop-model
invariant-loop-model l = record {
  functions : l.signatures.functions.items ≡ functions_at (schema_of l.numbered.schema.now) (flat_map places_in (map model_info_of (take l.model-index l.model-items)));
  relations : l.signatures.relations.items ≡ relations_at (schema_of l.numbered.schema.now) (flat_map places_in (map model_info_of (take l.model-index l.model-items)));
}
