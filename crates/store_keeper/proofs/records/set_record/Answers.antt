use Rattle.std.proofs.Common.{◌≡◌, ◌==◌, ℕ, List, ap, sym, subst, ◌∙◌, map, Some, None}
use Rattle.std.specs.Prelude.{Option}
use Rattle.std.specs.List.{find}
use Rattle.std.specs.Option.{option_map}
use Rattle.type_schema.specs.Schema.{FieldInfo}
use Rattle.type_schema.specs.declared.schemas.FieldInfo as code
use Rattle.type_schema.specs.SchemaViews.{field_info_of, model_info_of}
use Rattle.data_meaning.specs.Database as plain
use Rattle.data_records.specs.declared.record.Slot.{Slot}
use Rattle.data_records.specs.Views.{record_data, slot_data}
use Rattle.store_keeper.specs.Changes.{FindsChange}
use Rattle.store_keeper.proofs.Differences.{find-mapped}
use Rattle.store_keeper.proofs.Putting.{changed-there, field-fits, field-known, fitting-memory, set-at, set-so, unchanged-so}
use Rattle.store_keeper.proofs.records.set_record.Goals as goal

-- the field that was looked for, as plain data
known : (fields fields_now : List code.FieldInfo) (number : ℕ) (found : Option code.FieldInfo) → fields_now ≡ fields → found ≡ find (λ f. f.number == number) fields_now
    → option_map field_info_of found ≡ find (λ (f : FieldInfo). f.number == number) (map field_info_of fields)
known fields fields_now number found p e =
    ap (option_map field_info_of) (e ∙ ap (find (λ f. f.number == number)) p) ∙ sym (find-mapped (λ (f : FieldInfo). f.number == number) field_info_of fields)

-- what was found of the slots
finds : (before after before_now after_now : List Slot) (found : Option plain.Slot) → before_now ≡ before → after_now ≡ after → FindsChange (map slot_data before_now) (map slot_data after_now) found
    → FindsChange (map slot_data before) (map slot_data after) found
finds before after before_now after_now found p q h =
    subst (λ (xs : List Slot). FindsChange (map slot_data xs) (map slot_data after) found) p
    (subst (λ (ys : List Slot). FindsChange (map slot_data before_now) (map slot_data ys) found) q h)

pub unreachable-requires : goal.unreachable-requires
unreachable-requires c = changed-there (model_info_of c.args.info.now) c.args.base.now (record_data c.args.made.now) c.requires c.in_default.ensures

pub returns-in_default-changed_slot-clause-ok : goal.returns-in_default-changed_slot-clause-ok
returns-in_default-changed_slot-clause-ok c =
    unchanged-so (model_info_of c.args.info.now) c.args.base.now (record_data c.args.made.now) (record_data c.in-Some.old.now) c.in-Some.ensures c.requires
    (finds _ _ _ _ None c.as_slice.ensures c.as_slice-2.ensures c.in_default-changed_slot.ensures)

pub unreachable-requires-in_default-field_in : goal.unreachable-requires-in_default-field_in
unreachable-requires-in_default-field_in c =
    let info = model_info_of c.args.info.now in
    let r = record_data c.args.made.now in
    let old = record_data c.in-Some.old.now in
    let slot = slot_data c.in-Some-changed_slot.slot.now in
    let set = set-at info c.args.base.now r old c.in-Some.ensures slot c.requires (finds _ _ _ _ (Some slot) c.as_slice.ensures c.as_slice-2.ensures c.in-Some-changed_slot.ensures) in
    field-known info c.args.base.now r old c.in-Some.ensures slot set (known _ _ slot.field None c.as_slice-3.ensures c.in_default-field_in.ensures)

pub memory_error-requires : goal.memory_error-requires
memory_error-requires c =
    let info = model_info_of c.args.info.now in
    let r = record_data c.args.made.now in
    let old = record_data c.in-Some.old.now in
    let slot = slot_data c.in-Some-changed_slot.slot.now in
    let set = set-at info c.args.base.now r old c.in-Some.ensures slot c.requires (finds _ _ _ _ (Some slot) c.as_slice.ensures c.as_slice-2.ensures c.in-Some-changed_slot.ensures) in
    let field = field_info_of c.in-Some-field_in.field.now in
    let fits = field-fits info c.args.base.now r old c.in-Some.ensures slot field set (known _ _ slot.field (Some c.in-Some-field_in.field.now) c.as_slice-3.ensures c.in-Some-field_in.ensures) in
    fitting-memory c.args.base.now info.number r.id field slot.value c.in-Err.e fits c.in-Err.ensures.0

pub returns-in-Ok-clause-ok : goal.returns-in-Ok-clause-ok
returns-in-Ok-clause-ok c =
    let info = model_info_of c.args.info.now in
    let r = record_data c.args.made.now in
    let old = record_data c.in-Some.old.now in
    let slot = slot_data c.in-Some-changed_slot.slot.now in
    let set = set-at info c.args.base.now r old c.in-Some.ensures slot c.requires (finds _ _ _ _ (Some slot) c.as_slice.ensures c.as_slice-2.ensures c.in-Some-changed_slot.ensures) in
    let field = field_info_of c.in-Some-field_in.field.now in
    let is = known _ _ slot.field (Some c.in-Some-field_in.field.now) c.as_slice-3.ensures c.in-Some-field_in.ensures in
    set-so info c.args.base.now r old c.in-Some.ensures slot field c.set_field.new.self c.requires set is c.in-Ok.ensures.0 c.in-Ok.ensures.1
