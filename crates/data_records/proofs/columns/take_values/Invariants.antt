-- Where what is left loses the field too, all does.
use Rattle.data_meaning.specs.Database.{Record}
use Rattle.data_records.specs.Moved.{without_slot}
use Rattle.data_records.specs.Views.{record_data}
use Rattle.data_records.proofs.Turned.{IsTurned}
use Rattle.data_records.proofs.columns.take_values.Given as goal

abbrev pub invariant-loop-made : goal.invariant-loop-made
invariant-loop-made l = IsTurned record_data (λ (r : Record). record r { slots = without_slot l.f r }) l.initial.records l.records l.made-index
