use Rattle.std.proofs.Common.{List, ap, sym, ◌∙◌}
use Rattle.std.specs.Prelude.{Some, map, slice_index_or}
use Rattle.type_schema.specs.declared.schemas.ModelInfo.{ModelInfo}
use Rattle.type_schema.specs.SchemaViews.{model_info_of}
use Rattle.type_schema.specs.Proper.{model_numbers}
use Rattle.std.proofs.lemmas.Option.{slice_get-get_or}
use Rattle.check_scripts.proofs.Sorts.{number_at}
use Rattle.check_scripts.proofs.obligations.model_of_sort.Goals as goal

pub returns-in-Some : goal.returns-in-Some
returns-in-Some c =
    let at = c.in-Some.ensures.lookup.3 in
    number_at c.as_slice.result.now c.args.sort c.in-Some.info.now
    (slice_get-get_or c.as_slice.result.now c.args.sort c.in-Some.info.now at.0 ∙ ap (λ i. Some i) (sym (at.1 c.in-Some.info.now)))
    ∙ ap (λ (l : List ModelInfo). slice_index_or (model_numbers (map model_info_of l)) c.args.sort 0) c.as_slice.ensures
