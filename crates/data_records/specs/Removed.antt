-- What comes of a record that is to be removed.
use Rattle.std.specs.Prelude.{◌≡◌, ℕ, ◌==◌, ◌&&◌, Bool, true, false, List, [], ◌∷◌, Option, None, Some, Result, Ok, Err, if◌then◌else◌}
use Rattle.std.specs.List.{find, list_any}
use Rattle.std.specs.Option.{option_map, option_map_or}
use Rattle.type_schema.specs.declared.types.TTy.{TTy}
use Rattle.type_schema.specs.Schema.{FieldInfo, ModelInfo, Schema}
use Rattle.data_meaning.specs.Values.{Value, Nothing, ids_in}
use Rattle.data_meaning.specs.Database.{Slot, Record, Table, Database, records_of, has_record}
use Rattle.data_records.specs.declared.data_err.DataErr.{DataErr}
use Rattle.data_records.specs.declared.data_err.DataErr.TheVariants as err
use Rattle.data_records.specs.declared.references.Reference.{Reference}
use Rattle.data_records.specs.Shape.{model_named}
use Rattle.data_records.specs.Inserted.{change_table}

-- the first element that passes the test left out
abbrev pub without_first : {A : Type 0} → (A → Bool) → List A → List A
without_first p [] = []
without_first p (x ∷ xs) = if p x then xs else x ∷ without_first p xs

abbrev pub without_record_in : ℕ → Table → Table
without_record_in id t = record t { records = without_first (λ (r : Record). r.id == id) t.records }

-- the database without the record, whose id is not given again
abbrev pub without_record : ℕ → ℕ → Database → Database
without_record m id d = change_table m (without_record_in id) d

-- what the first element gives that gives something
abbrev pub first_given : {A B : Type 0} → (A → Option B) → List A → Option B
first_given f [] = None
first_given f (x ∷ xs) = option_map_or Some (f x) (first_given f xs)

-- whether the ids of the type are those of records of the model
abbrev pub is_of_model : ℕ → TTy → Bool
is_of_model m t = option_map_or (λ n. n == m) (model_named t) false

abbrev pub held : Record → ℕ → Value
held r f = option_map_or (λ (slot : Slot). slot.value) (find (λ (slot : Slot). slot.field == f) r.slots) Nothing

-- whether the field of the record names the record of model m with the id
abbrev pub names : ℕ → ℕ → Record → FieldInfo → Bool
names m id r f = is_of_model m f.ty && list_any (λ i. i == id) (ids_in (held r f.number))

-- the first field of another record that names the record of model m with the id
abbrev pub reference_from : ℕ → ℕ → ModelInfo → Record → Option Reference
reference_from m id info r =
    if (info.number == m) && (r.id == id) then None
    else option_map (λ (f : FieldInfo). record { model = info.number; id = r.id; field = f.number }) (find (names m id r) info.fields)

-- the first in the order of models, of the ids of records and of fields
abbrev pub first_reference : Schema → Database → ℕ → ℕ → Option Reference
first_reference s d m id = first_given (λ (info : ModelInfo). first_given (reference_from m id info) (records_of d info.number)) s.models

module _ (s : Schema) (d : Database) (m id : ℕ) where
  -- Why the record stays; a later refusal comes only where no earlier one does.
  abbrev pub IsHeld : DataErr → Type 0
  IsHeld err.NoRecord = has_record d m id ≡ false
  IsHeld (err.WrongShape f) = ⊥
  IsHeld (err.Dangling f i) = ⊥
  IsHeld (err.Referenced n i f) = (has_record d m id ≡ true) × (first_reference s d m id ≡ Some (record { model = n; id = i; field = f }))
  IsHeld (err.Full what) = ⊥
  IsHeld err.IdsSpent = ⊥
  IsHeld err.OutOfMemory = ⊥

  -- What `remove` answers, and the database after it.
  abbrev pub Removes : Result (Unit {0}) DataErr → Database → Type 0
  Removes (Ok done) after = (has_record d m id ≡ true) × (first_reference s d m id ≡ None) × (after ≡ without_record m id d)
  Removes (Err e) after = IsHeld e × (after ≡ d)
