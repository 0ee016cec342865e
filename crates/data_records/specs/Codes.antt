-- Codes of values and tables, by which a proof tells them apart: a value as how many options are around it, and what stands inside.
use Rattle.std.specs.Prelude.{◌≡◌, ◌⊎◌, ℕ, zero, suc, ℤ, Bool, List, refl}
use mathlib.Core.Logic.{inl, inr}
use mathlib.Core.Path.{ap}
use base.Stored.{coded_unit}
use Rattle.std.specs.Coded.{Coded, code_by, coded_ℕ, coded_ℤ, coded_bool, coded_list, coded×, coded⊎}
use Rattle.data_meaning.specs.Values.{Value, Flag, Num, Str, Id, Ids, Nothing, Just}
use Rattle.data_meaning.specs.Database.{Slot, Record, Table, Database}

abbrev Bare : Type 0
Bare = Bool ⊎ (ℤ ⊎ (List ℕ ⊎ (ℕ ⊎ (List ℕ ⊎ Unit {0}))))

abbrev depth : Value → ℕ
depth (Flag b) = 0
depth (Num n) = 0
depth (Str bytes) = 0
depth (Id id) = 0
depth (Ids ids) = 0
depth Nothing = 0
depth (Just v) = suc (depth v)

abbrev bare : Value → Bare
bare (Flag b) = inl b
bare (Num n) = inr (inl n)
bare (Str bytes) = inr (inr (inl bytes))
bare (Id id) = inr (inr (inr (inl id)))
bare (Ids ids) = inr (inr (inr (inr (inl ids))))
bare Nothing = inr (inr (inr (inr (inr tt))))
bare (Just v) = bare v

abbrev wrapped : ℕ → Bare → Value
wrapped zero (inl b) = Flag b
wrapped zero (inr (inl n)) = Num n
wrapped zero (inr (inr (inl bytes))) = Str bytes
wrapped zero (inr (inr (inr (inl id)))) = Id id
wrapped zero (inr (inr (inr (inr (inl ids))))) = Ids ids
wrapped zero (inr (inr (inr (inr (inr _))))) = Nothing
wrapped (suc n) b = Just (wrapped n b)

abbrev same : (v : Value) → wrapped (depth v) (bare v) ≡ v
same (Flag b) = refl
same (Num n) = refl
same (Str bytes) = refl
same (Id id) = refl
same (Ids ids) = refl
same Nothing = refl
same (Just v) = ap Just (same v)

abbrev bare_code : Coded Bare
bare_code = coded⊎ coded_bool (coded⊎ coded_ℤ (coded⊎ (coded_list coded_ℕ) (coded⊎ coded_ℕ (coded⊎ (coded_list coded_ℕ) coded_unit))))

abbrev pub value_code : Coded Value
value_code = code_by (ℕ × Bare) (coded× coded_ℕ bare_code) (λ v. (depth v, bare v)) (λ p. wrapped p.0 p.1) same

abbrev pub slot_code : Coded Slot
slot_code = code_by (ℕ × Value) (coded× coded_ℕ value_code) (λ s. (s.field, s.value)) (λ p. record { field = p.0; value = p.1 }) (λ _. refl)

abbrev pub record_code : Coded Record
record_code =
    code_by (ℕ × List Slot) (coded× coded_ℕ (coded_list slot_code)) (λ r. (r.id, r.slots)) (λ p. record { id = p.0; slots = p.1 }) (λ _. refl)

abbrev pub table_code : Coded Table
table_code =
    code_by (ℕ × (ℕ × List Record)) (coded× coded_ℕ (coded× coded_ℕ (coded_list record_code))) (λ t. (t.model, (t.next, t.records)))
    (λ p. record { model = p.0; next = p.1.0; records = p.1.1 }) (λ _. refl)

abbrev pub database_code : Coded Database
database_code = coded_list table_code
