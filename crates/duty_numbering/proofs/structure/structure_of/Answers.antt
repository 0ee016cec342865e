use Rattle.std.proofs.Common.{◌≡◌, ◌∙◌, ap, map}
use Rattle.std.specs.Prelude.{flat_map}
use Rattle.type_schema.specs.Proper.{model_numbers}
use Rattle.type_schema.specs.SchemaViews.{model_info_of, schema_of}
use Rattle.duty_meaning.specs.Structures.{places_in}
use Rattle.duty_numbering.specs.Elements.{sizes_of, tables_at, relations_at}
use Rattle.duty_numbering.proofs.StructureLaws.{structure-same}
use Rattle.duty_numbering.proofs.structure.structure_of.Goals as goal

pub returns : goal.returns
returns c =
    structure-same (schema_of c.args.s.now) c.args.database.now c.from_vec.result c.from_vec-2.result c.from_vec-3.result
    (c.from_vec.ensures ∙ (c.in_ok-sizes.ensures ∙ ap (λ models. sizes_of c.args.database.now (model_numbers (map model_info_of models))) c.as_slice.ensures))
    (c.from_vec-2.ensures ∙ (c.in_ok-tables.ensures.functions ∙ ap (λ models. tables_at c.args.database.now (flat_map places_in (map model_info_of models))) c.as_slice-2.ensures))
    (c.from_vec-3.ensures ∙ (c.in_ok-tables.ensures.relations ∙ ap (λ models. relations_at c.args.database.now (flat_map places_in (map model_info_of models))) c.as_slice-2.ensures))
