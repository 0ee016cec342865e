use Rattle.std.proofs.Common.{◌≡◌, ◌==◌, ap, sym, ◌∙◌, map, get_or}
use Rattle.std.specs.Prelude.{position}
use Rattle.std.proofs.lemmas.Bool.{eqb-true}
use Rattle.data_meaning.specs.Database as plain
use Rattle.data_records.specs.Changed.{with_slot_value}
use Rattle.data_records.specs.Views.{slot_data, value_data}
use Rattle.data_records.proofs.Firsts.{put-at, none-put, first-from_position, none-from_position}
use Rattle.door_judge.proofs.setting.put_slot.Goals as goal

pub returns-in-Some : goal.returns-in-Some
returns-in-Some c =
    let slots = c.args.slots.now.items in
    let slot = c.args.slot in
    let at = first-from_position (λ u. u.field == slot.field) slots c.in-Some.place (ap (position (λ u. u.field == slot.field)) (sym c.as_slice.ensures.value) ∙ sym c.place_of.ensures ∙ c.in-Some.is) slot in
    let here : (get_or slots c.in-Some.place slot).field ≡ slot.field = eqb-true _ _ (at.1 slot) in
    let is : slot_data slot ≡ with_slot_value (value_data slot.value) (slot_data (get_or slots c.in-Some.place slot))
    = ap (λ f. record { field = f; value = value_data slot.value }) (sym here) in
    ap (map slot_data) c.set_slot.ensures ∙ put-at slot_data (λ (u : plain.Slot). u.field == slot.field) (with_slot_value (value_data slot.value)) slots c.in-Some.place slot slot at is

pub returns-in-None : goal.returns-in-None
returns-in-None c =
    let slots = c.args.slots.now.items in
    let slot = c.args.slot in
    sym (none-put slot_data (λ (u : plain.Slot). u.field == slot.field) (with_slot_value (value_data slot.value)) slots
    (none-from_position (λ u. u.field == slot.field) slots (ap (position (λ u. u.field == slot.field)) (sym c.as_slice.ensures.value) ∙ sym c.place_of.ensures ∙ c.in-None.is)))
