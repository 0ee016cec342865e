use Rattle.std.proofs.Common.{◌≡◌, map, take}
use Rattle.data_meaning.specs.Database.{Record}
use Rattle.data_records.specs.Views.{record_data}
use Rattle.duty_numbering.specs.Elements.{entries_among}
use Rattle.duty_numbering.proofs.structure.entries.Given as goal

abbrev pub invariant-loop-record : goal.invariant-loop-record
invariant-loop-record l =
    l.entries.items ≡ entries_among l.link.database.now l.link.source l.link.target l.f (map (λ (r : Record). r.id) (map record_data (take l.record-index l.records)))
