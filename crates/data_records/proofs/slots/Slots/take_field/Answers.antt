use Rattle.std.proofs.Common.{rules, ◌==◌, ap, ◌∙◌}
use Rattle.std.specs.Prelude.{filter, not}
use Rattle.std.proofs.lemmas.Fn.{filter_same}
use Rattle.data_records.specs.declared.record.Slot as code_slot
use Rattle.data_records.proofs.slots.Slots.take_field.Goals as goal

-- the closure tells whether a slot is another field's
pub returns : goal.returns
returns c =
    let other = λ (slot : code_slot.Slot). not (slot.field == c.args.f) in
    filter_same _ other _ (λ x b f' k. search rules) c.self.inside.items.items c.retain.new.self.items c.retain.ensures.filtered ∙ ap (filter other) c.self.view_is
