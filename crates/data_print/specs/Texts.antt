-- The text of a database: models, records and fields in the order of the schema, each table with its next id.
use Rattle.std.specs.Prelude.{ℕ, true, false, ◌==◌, List, [], ◌∷◌, ◌++◌, codes}
use Rattle.std.specs.Fmt.{decimal, signed_decimal}
use Rattle.std.specs.List.{concat, flat_map, join_by, find}
use Rattle.std.specs.Option.{option_map_or}
use Rattle.type_schema.specs.Schema.{FieldInfo, ModelInfo, Schema}
use Rattle.data_meaning.specs.Values.{Value, Flag, Num, Str, Id, Ids, Nothing, Just}
use Rattle.data_meaning.specs.Database.{Slot, Record, Table, Database, table_of, records_of}
use Rattle.text_print.specs.Marks.{quoted}

abbrev pub id_text : ℕ → List ℕ
id_text id = codes "@" ++ decimal id

-- a set is printed rising, as it stands
abbrev pub value_text : Value → List ℕ
value_text (Flag true) = codes "true"
value_text (Flag false) = codes "false"
value_text (Num n) = signed_decimal n
value_text (Str bytes) = quoted bytes
value_text (Id id) = id_text id
value_text (Ids ids) = concat (codes "[" ∷ join_by id_text (codes ", ") ids ∷ codes "]" ∷ [])
value_text Nothing = codes "none"
value_text (Just v) = concat (codes "some(" ∷ value_text v ∷ codes ")" ∷ [])

-- a field of a record, by its name
abbrev pub slot_text : Record → FieldInfo → List ℕ
slot_text r f =
    concat (f.name ∷ codes ": " ∷ value_text (option_map_or (λ (slot : Slot). slot.value) (find (λ (slot : Slot). slot.field == f.number) r.slots) Nothing) ∷ [])

-- a record of the model, on a line of its own
abbrev pub record_text : ModelInfo → Record → List ℕ
record_text m r = concat (codes "  " ∷ id_text r.id ∷ codes " {" ∷ join_by (slot_text r) (codes ", ") m.fields ∷ codes "}\n" ∷ [])

-- the table of the model, under this name
abbrev pub table_text : List ℕ → Database → ModelInfo → List ℕ
table_text name d m =
    concat (name ∷ codes " " ∷ id_text (option_map_or (λ (table : Table). table.next) (table_of d m.number) 1) ∷ codes " {\n"
    ∷ flat_map (record_text m) (records_of d m.number) ∷ codes "}\n" ∷ [])

-- the tables of the models of a schema, under their names
abbrev pub database_text : Schema → Database → List ℕ
database_text s d = flat_map (λ (m : ModelInfo). table_text m.name d m) s.models
