use Rattle.std.proofs.Common.{◌≡◌, List, ap, subst, ◌∙◌, arith, length, map}
use Rattle.std.proofs.lemmas.List.{length-map}
use Rattle.type_schema.specs.SchemaViews.{field_info_of, model_info_of}
use Rattle.data_meaning.specs.Values.{Value}
use Rattle.data_records.specs.Inserted.{IsRefused}
use Rattle.data_records.specs.Views.{record_data, slot_data, value_data}
use Rattle.store_keeper.specs.Changes.{values_of}
use Rattle.store_keeper.proofs.Putting.{admitted-memory, shaped-length}
use Rattle.store_keeper.proofs.records.insert_record.Goals as goal

pub insert-requires : goal.insert-requires
insert-requires c =
    let values = c.as_slice-2.result.now in
    let slots = (record_data c.args.made.now).slots in
    let fields = map field_info_of c.args.info.now.fields in
    let filled : map value_data values ≡ values_of slots
    = ap (map value_data) c.as_slice-2.ensures.value ∙ c.in_ok-values.ensures ∙ ap (λ items. values_of (map slot_data items)) c.as_slice.ensures in
    omega (
      arith,
      shaped-length fields (values_of slots) c.requires.admitted.shaped,
      length-map c.args.info.now.fields field_info_of,
      length-map values value_data,
      ap length filled,
    )

pub memory_error-requires : goal.memory_error-requires
memory_error-requires c =
    let info = model_info_of c.args.info.now in
    let row = (record_data c.args.made.now).slots in
    let filled : map value_data c.as_slice-2.result.now ≡ values_of row
    = ap (map value_data) c.as_slice-2.ensures.value ∙ c.in_ok-values.ensures ∙ ap (λ items. values_of (map slot_data items)) c.as_slice.ensures in
    let refused = c.in-Err.ensures in
    admitted-memory info c.args.base.now (values_of row) c.in-Err.e c.requires.admitted (subst (λ (vs : List Value). IsRefused info c.args.base.now vs c.in-Err.e) filled refused.0)
