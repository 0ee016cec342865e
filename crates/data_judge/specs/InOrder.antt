-- What is written in the order of the schema, or by rising number.
use Rattle.std.specs.Prelude.{◌≡◌, ℕ, ◌+◌, ◌≤◌, Bool, true, false, ◌&&◌, List, [], ◌∷◌, map, Option, None, Some}
use Rattle.std.specs.List.{AllByRecursion, IsDistinct}
use Rattle.std.specs.Option.{option_or, option_map_or}
use Rattle.std.specs.Str.{bytes_eq}
use Rattle.data_tree.specs.declared.literals.WrittenId.{WrittenId}
use Rattle.data_tree.specs.declared.literals.Lit.{Lit}
use Rattle.data_tree.specs.declared.tables.FieldLit.{FieldLit}
use Rattle.type_schema.specs.Schema.{FieldInfo, ModelInfo}
use Rattle.data_meaning.specs.Database.{Slot}
use Rattle.data_judge.specs.Meaning.{id_in, value_of}

-- no two fields have one name
abbrev pub AreApart : List FieldInfo → Type 0
AreApart fields = IsDistinct bytes_eq (map (λ (f : FieldInfo). f.name) fields)

abbrev pub AreApartEach : List ModelInfo → Type 0
AreApartEach models = AllByRecursion (λ (m : ModelInfo). AreApart m.fields) models

-- the fields of a model are written, each once and in their order
abbrev pub are_in_order : List FieldInfo → List FieldLit → Bool
are_in_order [] [] = true
are_in_order [] (w ∷ ws) = false
are_in_order (f ∷ fields) [] = false
are_in_order (f ∷ fields) (w ∷ ws) = bytes_eq w.name.name f.name && are_in_order fields ws

-- what the first gives that gives something, each looked at with the field at its place
abbrev pub first_paired : {B : Type 0} → (FieldInfo → FieldLit → Option B) → List FieldInfo → List FieldLit → Option B
first_paired g [] ws = None
first_paired g (f ∷ fields) [] = None
first_paired g (f ∷ fields) (w ∷ ws) = option_or (g f w) (first_paired g fields ws)

-- the values, each in the field at its place
abbrev pub slots_paired : List FieldInfo → List FieldLit → List Slot
slots_paired [] ws = []
slots_paired (f ∷ fields) [] = []
slots_paired (f ∷ fields) (w ∷ ws) = record { field = f.number; value = value_of w.value } ∷ slots_paired fields ws

-- an id that is no less than the one number, and below the other
abbrev pub IsNumberedFrom : ℕ → Lit → ℕ → Type 0
IsNumberedFrom least l next = (i : WrittenId) × (id_in l ≡ Some i) × (least ≤ i.number) × (next ≡ i.number + 1)

-- ids, each larger than the one before it, and the first no less than the number
abbrev pub IdsRiseFrom : ℕ → List Lit → Type 0
IdsRiseFrom least [] = Unit {0}
IdsRiseFrom least (l ∷ items) = (next : ℕ) × IsNumberedFrom least l next × IdsRiseFrom next items

-- the same of numbers
abbrev pub NumbersRiseFrom : ℕ → List ℕ → Type 0
NumbersRiseFrom least [] = Unit {0}
NumbersRiseFrom least (n ∷ ns) = (least ≤ n) × NumbersRiseFrom (n + 1) ns

-- the numbers of those that are ids
abbrev pub numbers_in : List Lit → List ℕ
numbers_in [] = []
numbers_in (l ∷ items) = option_map_or (λ (i : WrittenId). i.number ∷ numbers_in items) (id_in l) (numbers_in items)
