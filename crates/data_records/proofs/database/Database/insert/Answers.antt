use Rattle.std.proofs.Common.{◌≡◌, ◌++◌, ap, sym, ◌∙◌, arith, length, map}
use Rattle.std.specs.List.{sum_by}
use Rattle.std.proofs.lemmas.List.{length-map}
use Rattle.type_schema.specs.SchemaViews.{field_info_of}
use Rattle.data_meaning.specs.Database.{Slot}
use Rattle.data_records.specs.Views.{slot_data, value_data}
use Rattle.data_records.specs.Room.{weight_of}
use Rattle.data_records.specs.Rows.{slots_from}
use Rattle.data_records.proofs.Pushed.{slots-weight}
use Rattle.data_records.proofs.database.Database.insert.Goals as goal

-- the slots that were made weigh what the row weighs
pub push-requires-clause-weight : goal.push-requires-clause-weight
push-requires-clause-weight c =
    let row = map value_data c.args.row.now in
    let fields = map field_info_of c.as_slice.result.now in
    let slots : map slot_data c.from_vec.result ≡ slots_from fields row
    = ap (map slot_data) c.from_vec.ensures ∙ c.in_ok-push_slots.ensures ∙ ap (λ old. map slot_data old ++ slots_from fields row) c.new-slots.ensures.items in
    let same : length fields ≡ length row = omega (arith, length-map c.as_slice.result.now field_info_of, length-map c.args.row.now value_data, ap length c.as_slice.ensures, c.requires) in
    c.in_ok-weight.ensures.weight ∙ sym (slots-weight fields row same) ∙ ap (sum_by (λ (slot : Slot). weight_of slot.value)) (sym slots)
