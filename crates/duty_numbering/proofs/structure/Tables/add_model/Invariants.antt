use Rattle.std.proofs.Common.{◌≡◌, ◌++◌, map, take}
use Rattle.type_schema.specs.SchemaViews.{field_info_of}
use Rattle.duty_numbering.specs.Numbers.{place_at}
use Rattle.duty_numbering.specs.Elements.{tables_at, relations_at}
use Rattle.duty_numbering.proofs.structure.Tables.add_model.Given as goal

abbrev pub invariant-loop-field : goal.invariant-loop-field
invariant-loop-field l = record {
  functions : l.self.functions.items ≡ l.initial.self.functions.items ++ tables_at l.database (map (place_at l.model.number) (map field_info_of (take l.field-index l.field-items)));
  relations : l.self.relations.items ≡ l.initial.self.relations.items ++ relations_at l.database (map (place_at l.model.number) (map field_info_of (take l.field-index l.field-items)));
}
