use Rattle.std.proofs.Common.{◌≡◌, map, take}
use Rattle.std.specs.Prelude.{flat_map}
use Rattle.type_schema.specs.SchemaViews.{model_info_of}
use Rattle.duty_meaning.specs.Structures.{places_in}
use Rattle.duty_numbering.specs.Elements.{tables_at, relations_at}
use Rattle.duty_numbering.proofs.structure.tables_of.Given as goal

abbrev pub invariant-loop-model : goal.invariant-loop-model
invariant-loop-model l = record {
  functions : l.tables.functions.items ≡ tables_at l.database (flat_map places_in (map model_info_of (take l.model-index l.models)));
  relations : l.tables.relations.items ≡ relations_at l.database (flat_map places_in (map model_info_of (take l.model-index l.models)));
}
