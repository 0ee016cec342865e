-- Where what is left is numbered anew too, all is.
use Rattle.std.proofs.Common.{map}
use Rattle.type_schema.specs.SchemaViews.{model_info_of}
use Rattle.data_records.specs.Renumbered.{new_field, numbered_by}
use Rattle.data_records.specs.Views.{slot_data}
use Rattle.data_records.proofs.Turned.{IsTurned}
use Rattle.data_records.proofs.slots.renumber_slots.Given as goal

abbrev pub invariant-loop-slot : goal.invariant-loop-slot
invariant-loop-slot l = IsTurned slot_data (numbered_by (new_field (map model_info_of l.models) l.m)) l.initial.slots l.slots l.slot-index
