use Rattle.std.proofs.Common.{◌≡◌, ◌-◌, [], length, map}
use Rattle.type_schema.specs.SchemaViews.{field_info_of}
use Rattle.data_records.specs.Views.{record_data}
use Rattle.data_back.specs.Back.{records_from}
use Rattle.data_back.proofs.tables.read_records.Given as goal

abbrev pub invariant-loop-turn : goal.invariant-loop-turn
invariant-loop-turn l =
    records_from (map field_info_of l.fields) (map record_data l.records.items) (l._turn-end - l._turn) l.scanner
    ≡ records_from (map field_info_of l.fields) [] (length l.fn.scanner) l.fn.scanner
