-- Rows: a value for each field of a model.
use Rattle.std.specs.Prelude.{◌≡◌, ◌⊎◌, ℕ, List, [], ◌∷◌, None, Some}
use Rattle.type_schema.specs.Schema.{FieldInfo}
use Rattle.data_meaning.specs.Values.{Value}
use Rattle.data_meaning.specs.Database.{Slot}
use Rattle.data_records.specs.Shape.{IsShape, There, dangling_in}

-- each value has the shape of its field's type
abbrev pub AreShaped : List FieldInfo → List Value → Type 0
AreShaped [] [] = Unit {0}
AreShaped [] (v ∷ row) = ⊥
AreShaped (f ∷ fields) [] = ⊥
AreShaped (f ∷ fields) (v ∷ row) = IsShape f.ty v × AreShaped fields row

-- the field is the first whose value has not the shape of its type
abbrev pub IsFirstWrong : List FieldInfo → List Value → ℕ → Type 0
IsFirstWrong [] [] wrong = ⊥
IsFirstWrong [] (v ∷ row) wrong = ⊥
IsFirstWrong (f ∷ fields) [] wrong = ⊥
IsFirstWrong (f ∷ fields) (v ∷ row) wrong = ((IsShape f.ty v → ⊥) × (f.number ≡ wrong)) ⊎ (IsShape f.ty v × IsFirstWrong fields row wrong)

-- each id in a value names a record that counts as being there
abbrev pub AreAllThere : There → List FieldInfo → List Value → Type 0
AreAllThere there [] [] = Unit {0}
AreAllThere there [] (v ∷ row) = ⊥
AreAllThere there (f ∷ fields) [] = ⊥
AreAllThere there (f ∷ fields) (v ∷ row) = (dangling_in there f.ty v ≡ None) × AreAllThere there fields row

-- the field is the first that holds an id that names no record, and this is the first such id in it
abbrev pub IsFirstDangling : There → List FieldInfo → List Value → ℕ → ℕ → Type 0
IsFirstDangling there [] [] field id = ⊥
IsFirstDangling there [] (v ∷ row) field id = ⊥
IsFirstDangling there (f ∷ fields) [] field id = ⊥
IsFirstDangling there (f ∷ fields) (v ∷ row) field id =
    ((dangling_in there f.ty v ≡ Some id) × (f.number ≡ field)) ⊎ ((dangling_in there f.ty v ≡ None) × IsFirstDangling there fields row field id)

-- each value with the number of its field
abbrev pub slots_from : List FieldInfo → List Value → List Slot
slots_from [] [] = []
slots_from [] (v ∷ row) = []
slots_from (f ∷ fields) [] = []
slots_from (f ∷ fields) (v ∷ row) = (record { field = f.number; value = v }) ∷ slots_from fields row
