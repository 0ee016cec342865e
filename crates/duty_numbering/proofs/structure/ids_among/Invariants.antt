use Rattle.std.proofs.Common.{◌≡◌, map, take}
use Rattle.data_meaning.specs.Database.{Record}
use Rattle.data_records.specs.Views.{record_data}
use Rattle.duty_numbering.proofs.structure.ids_among.Given as goal

abbrev pub invariant-loop-record : goal.invariant-loop-record
invariant-loop-record l = l.ids.items ≡ map (λ (r : Record). r.id) (map record_data (take l.record-index l.records))
