use Rattle.std.proofs.Common.{◌≡◌, ◌∙◌, ap}
use Rattle.std.specs.Prelude.{map}
use Rattle.type_schema.specs.Proper.{model_numbers}
use Rattle.type_schema.specs.SchemaViews.{model_info_of, schema_of}
use Rattle.std.specs.Prelude.{flat_map}
use Rattle.duty_meaning.specs.Structures.{places_in}
use Rattle.duty_numbering.specs.Numbers.{function_spots, relation_spots}
use Rattle.duty_numbering.proofs.SpotLaws.{numbers-same}
use Rattle.duty_numbering.proofs.numbering.Numbering.of.Goals as goal

pub returns : goal.returns
returns c =
    numbers-same (schema_of c.args.s.now) c.in_ok-sorts.sorts c.in_ok-functions.functions c.in_ok-relations.relations
    (c.in_ok-sorts.ensures ∙ (c.in_ok-models.ensures ∙ ap (λ models. model_numbers (map model_info_of models)) c.as_slice.ensures))
    (c.in_ok-functions.ensures ∙ (c.in_ok-spots.ensures.functions ∙ ap (λ models. function_spots (flat_map places_in (map model_info_of models))) c.as_slice-2.ensures))
    (c.in_ok-relations.ensures ∙ (c.in_ok-spots.ensures.relations ∙ ap (λ models. relation_spots (flat_map places_in (map model_info_of models))) c.as_slice-2.ensures))
