use Rattle.std.proofs.Common.{◌==◌, ap, ◌∙◌, map}
use Rattle.std.specs.Prelude.{not}
use Rattle.data_meaning.specs.Database as plain
use Rattle.data_records.specs.Views.{slot_data}
use Rattle.data_records.proofs.Moves.{filter-seen}
use Rattle.data_records.proofs.record.Record.take_field.Goals as goal

pub returns : goal.returns
returns c =
    ap (λ us. record { id = c.args.self.now.id; slots = us })
    (ap (map slot_data) c.take_field.ensures ∙ filter-seen slot_data (λ (slot : plain.Slot). not (slot.field == c.args.f)) c.args.self.now.slots)
