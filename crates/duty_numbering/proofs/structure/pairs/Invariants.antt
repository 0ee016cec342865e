use Rattle.std.proofs.Common.{◌≡◌, map, take}
use Rattle.data_meaning.specs.Database.{Record}
use Rattle.data_records.specs.Views.{record_data}
use Rattle.duty_numbering.specs.Elements.{pairs_among}
use Rattle.duty_numbering.proofs.structure.pairs.Given as goal

abbrev pub invariant-loop-record : goal.invariant-loop-record
invariant-loop-record l =
    l.pairs.items ≡ pairs_among l.link.database.now l.link.source l.link.target l.f (map (λ (r : Record). r.id) (map record_data (take l.record-index l.records)))
