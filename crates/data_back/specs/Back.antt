-- What stands at the front of a printed database, as functions: a value and the bytes behind it, or nothing where something else stands
-- there. Loops take at most so many turns.
use Rattle.std.specs.Prelude.{ℕ, zero, suc, Bool, true, false, ◌&&◌, nat_le, if◌then◌else◌, List, [], ◌∷◌, ◌++◌, length, codes, Option, None, Some}
use Rattle.std.specs.Str.{is_utf8}
use Rattle.text_lexer.specs.declared.limits.TheConstants.{MOST_TEXT_BYTES}
use Rattle.type_schema.specs.declared.types.TBase.{TBase}
use Rattle.type_schema.specs.declared.types.TBase.TheVariants as base
use Rattle.type_schema.specs.declared.types.TTy.{TTy}
use Rattle.type_schema.specs.declared.types.TTy.TheVariants.{Plain, Set, Opt}
use Rattle.type_schema.specs.Schema.{FieldInfo, ModelInfo}
use Rattle.data_meaning.specs.Values.{Value, Flag, Num, Str, Id, Ids, Nothing, Just}
use Rattle.data_meaning.specs.Database.{Slot, Record, Table}
use Rattle.data_back.specs.Reading.{Answer, after, choose, word_at, number_from, signed_at, text_at}

-- ---- values

abbrev pub is_text : List ℕ → Bool
is_text bytes = nat_le (length bytes) MOST_TEXT_BYTES && is_utf8 bytes

-- a text of a value, between quotes
abbrev pub value_text_at : List ℕ → Answer (List ℕ)
value_text_at text = after (λ bytes rest. if is_text bytes then Some (bytes, rest) else None) (text_at text)

abbrev pub id_at : List ℕ → Answer ℕ
id_at text = after (λ _ rest. number_from 0 rest) (word_at (codes "@") text)

abbrev pub flag_at : List ℕ → Answer Value
flag_at text =
    choose (λ rest. Some (Flag true, rest)) (after (λ _ rest. Some (Flag false, rest)) (word_at (codes "false") text)) (word_at (codes "true") text)

abbrev pub base_at : TBase → List ℕ → Answer Value
base_at base.Bool text = flag_at text
base_at base.Int text = after (λ n rest. Some (Num n, rest)) (signed_at text)
base_at base.Text text = after (λ bytes rest. Some (Str bytes, rest)) (value_text_at text)
base_at (base.Id m) text = after (λ id rest. Some (Id id, rest)) (id_at text)

-- ids and the closing bracket, behind others
abbrev pub ids_from : List ℕ → ℕ → List ℕ → Answer (List ℕ)
ids_from ids zero text = None
ids_from ids (suc turns) text =
    after (λ id rest. choose (λ more. ids_from (ids ++ id ∷ []) turns more) (after (λ _ more. Some (ids ++ id ∷ [], more)) (word_at (codes "]") rest))
    (word_at (codes ", ") rest)) (id_at text)

abbrev pub ids_at : List ℕ → Answer (List ℕ)
ids_at text =
    after (λ _ rest. choose (λ more. Some ([], more)) (ids_from [] (length rest) rest) (word_at (codes "]") rest)) (word_at (codes "[") text)

abbrev pub some_at : TBase → List ℕ → Answer Value
some_at b text =
    after (λ _ rest. after (λ v more. after (λ _ last. Some (Just v, last)) (word_at (codes ")") more)) (base_at b rest)) (word_at (codes "some(") text)

abbrev pub value_at : TTy → List ℕ → Answer Value
value_at (Plain b) text = base_at b text
value_at (Set m) text = after (λ ids rest. Some (Ids ids, rest)) (ids_at text)
value_at (Opt b) text = choose (λ rest. Some (Nothing, rest)) (some_at b text) (word_at (codes "none") text)

-- ---- records and tables

abbrev pub slot_at : FieldInfo → List ℕ → Answer Slot
slot_at f text =
    after (λ _ rest. after (λ _ more. after (λ v last. Some (record { field = f.number; value = v }, last)) (value_at f.ty more)) (word_at (codes ": ") rest))
    (word_at f.name text)

-- slots of fields behind others, each behind the separator, which is nothing before the first
abbrev pub slots_from : List Slot → List ℕ → List FieldInfo → List ℕ → Answer (List Slot)
slots_from slots separator [] text = Some (slots, text)
slots_from slots separator (f ∷ fields) text =
    after (λ _ rest. after (λ slot more. slots_from (slots ++ slot ∷ []) (codes ", ") fields more) (slot_at f rest)) (word_at separator text)

abbrev pub record_at : List FieldInfo → List ℕ → Answer Record
record_at fields text =
    after (λ id a. after (λ _ b. after (λ slots c. after (λ _ d. Some (record { id = id; slots = slots }, d)) (word_at (codes "}\n") c))
    (slots_from [] [] fields b)) (word_at (codes " {") a)) (id_at text)

-- records and the closing brace, behind others
abbrev pub records_from : List FieldInfo → List Record → ℕ → List ℕ → Answer (List Record)
records_from fields records zero text = None
records_from fields records (suc turns) text =
    choose (λ rest. after (λ r more. records_from fields (records ++ r ∷ []) turns more) (record_at fields rest))
    (after (λ _ rest. Some (records, rest)) (word_at (codes "}\n") text)) (word_at (codes "  ") text)

-- the table of a model, behind its name
abbrev pub table_at : ModelInfo → List ℕ → Answer Table
table_at m text =
    after (λ _ b. after (λ next c. after (λ _ d. after (λ records e. Some (record { model = m.number; next = next; records = records }, e))
    (records_from m.fields [] (length d) d)) (word_at (codes " {\n") c)) (id_at b)) (word_at (codes " ") text)

-- tables of models behind others, each under the name of its model
abbrev pub tables_from : List Table → List ModelInfo → List ℕ → Answer (List Table)
tables_from tables [] text = Some (tables, text)
tables_from tables (m ∷ models) text =
    after (λ _ rest. after (λ t more. tables_from (tables ++ t ∷ []) models more) (table_at m rest)) (word_at m.name text)

-- the value of an answer
abbrev pub found : {A : Type 0} → Answer A → Option A
found None = None
found (Some p) = Some p.0
