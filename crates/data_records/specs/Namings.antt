-- Which records name which: what is noted of the values of fields, so that the records that hold an id are found without going through all.
use Rattle.std.specs.Prelude.{◌≡◌, ℕ, Bool, true, ◌==◌, ◌&&◌, List, [], Option, None, Some}
use Rattle.std.specs.List.{AllByRecursion, list_any}
use Rattle.std.specs.Map.{lookup}
use Rattle.std.specs.Option.{option_map_or}
use Rattle.data_meaning.specs.Values.{Value, Flag, Num, Str, Id, Ids, Nothing, Just}
use Rattle.data_meaning.specs.Database.{Slot, Record, Database, field_at}
use Rattle.data_records.specs.declared.holders.Holders.{Holders}
use Rattle.data_records.specs.declared.holders.Place.{Place}
use Rattle.data_records.specs.declared.index.Column.{Column}
use Rattle.data_records.specs.declared.index.Namings.{Namings}
use Rattle.data_records.specs.declared.index.Index.{Index}

abbrev pub is_same_place : Place → Place → Bool
is_same_place p q = (p.model == q.model) && ((p.field == q.field) && (p.named == q.named))

abbrev pub ids_at : Holders → Place → List ℕ
ids_at s p = option_map_or (λ ids. ids.items) (lookup (is_same_place p) s.by.entries) []

-- whether the record of the id is noted as one that holds what the place says
abbrev pub is_holder : Holders → Place → ℕ → Bool
is_holder s p id = list_any (λ i. i == id) (ids_at s p)

abbrev pub place : (m f named : ℕ) → Place
place m f named = record { model = m; field = f; named = named }

-- whether the field is noted as one that holds other values than ids
abbrev pub is_other : List Column → ℕ → ℕ → Bool
is_other others m f = list_any (λ (c : Column). (c.model == m) && (c.field == f)) others

-- what the field of the record holds is noted; of an option nothing is
abbrev pub IsNoted : Namings → (m id f : ℕ) → Value → Type 0
IsNoted s m id f (Flag b) = is_other s.others.items m f ≡ true
IsNoted s m id f (Num n) = is_other s.others.items m f ≡ true
IsNoted s m id f (Str bytes) = is_other s.others.items m f ≡ true
IsNoted s m id f (Id named) = is_holder s.holders (place m f named) id ≡ true
IsNoted s m id f (Ids ids) = is_other s.others.items m f ≡ true
IsNoted s m id f Nothing = Unit {0}
IsNoted s m id f (Just v) = Unit {0}

-- without namings there is nothing to note
abbrev pub IsNotedIn : Option Namings → (m id f : ℕ) → Value → Type 0
IsNotedIn None m id f v = Unit {0}
IsNotedIn (Some s) m id f v = IsNoted s m id f v

abbrev pub IsKnown : Index → (m id f : ℕ) → Value → Type 0
IsKnown x = IsNotedIn x.namings

abbrev pub AreKnown : Index → (m id : ℕ) → List Slot → Type 0
AreKnown x m id slots = AllByRecursion (λ (slot : Slot). IsKnown x m id slot.field slot.value) slots

abbrev pub AreRowsKnown : Index → ℕ → List Record → Type 0
AreRowsKnown x m records = AllByRecursion (λ (r : Record). AreKnown x m r.id r.slots) records

-- what each field of each record holds is noted; what is noted besides does no harm
abbrev pub IsIndexed : Index → Database → Type 0
IsIndexed x d = (m id f : ℕ) → IsKnown x m id f (field_at d m id f)
