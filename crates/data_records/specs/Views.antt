-- The plain data that values, records and tables of the code stand for.
use Rattle.std.specs.Prelude.{map}
use Rattle.data_records.specs.declared.value.Value as code_value
use Rattle.data_records.specs.declared.value.Value.TheOpen.{Value-F}
use Rattle.data_records.specs.declared.value.Value.TheFolds.{fold-Value}
use Rattle.data_records.specs.declared.record.Slot as code_slot
use Rattle.data_records.specs.declared.record.Record as code_record
use Rattle.data_records.specs.declared.table.Table as code_table
use Rattle.data_meaning.specs.Values.{Value, Flag, Num, Str, Id, Ids, Nothing, Just}
use Rattle.data_meaning.specs.Database.{Slot, Record, Table}

-- one level, where the value inside is already seen so
abbrev pub value_step : Value-F Value → Value
value_step (Value-F.Flag b) = Flag b
value_step (Value-F.Num n) = Num n
value_step (Value-F.Str bytes) = Str bytes
value_step (Value-F.Id id) = Id id
value_step (Value-F.Ids ids) = Ids ids
value_step Value-F.Nothing = Nothing
value_step (Value-F.Just v) = Just v

abbrev pub value_data : code_value.Value → Value
value_data = fold-Value Value value_step

abbrev pub slot_data : code_slot.Slot → Slot
slot_data slot = record { field = slot.field; value = value_data slot.value }

abbrev pub record_data : code_record.Record → Record
record_data r = record { id = r.id; slots = map slot_data r.slots }

abbrev pub table_data : code_table.Table → Table
table_data t = record { model = t.model; next = t.next; records = map record_data t.records.items }
