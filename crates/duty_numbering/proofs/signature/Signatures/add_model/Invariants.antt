use Rattle.std.proofs.Common.{◌≡◌, ◌++◌, map, take}
use Rattle.type_schema.specs.SchemaViews.{field_info_of, schema_of}
use Rattle.duty_numbering.specs.Numbers.{place_at}
use Rattle.duty_numbering.specs.Signatures.{functions_at, relations_at}
use Rattle.duty_numbering.proofs.signature.Signatures.add_model.Given as goal

abbrev pub invariant-loop-field : goal.invariant-loop-field
invariant-loop-field l = record {
  functions : l.self.functions.items ≡ l.initial.self.functions.items ++ functions_at (schema_of l.numbered.schema.now) (map (place_at l.model.number) (map field_info_of (take l.field-index l.field-items)));
  relations : l.self.relations.items ≡ l.initial.self.relations.items ++ relations_at (schema_of l.numbered.schema.now) (map (place_at l.model.number) (map field_info_of (take l.field-index l.field-items)));
}
