use Rattle.std.proofs.Common.{refl, ◌==◌}
use Rattle.data_records.proofs.Searches.{find-seen}
use Rattle.data_records.specs.Views.{slot_data}
use Rattle.data_records.proofs.record.Record.value.Goals as goal

pub returns-in-Some : goal.returns-in-Some
returns-in-Some c = rw (find-seen (λ slot. slot.field == c.args.f) slot_data c.args.self.now.slots, ← c.as_slice.ensures, ← c.slot_in.ensures, c.in-Some.is) refl

pub returns-in-None : goal.returns-in-None
returns-in-None c = rw (find-seen (λ slot. slot.field == c.args.f) slot_data c.args.self.now.slots, ← c.as_slice.ensures, ← c.slot_in.ensures, c.in-None.is) refl
